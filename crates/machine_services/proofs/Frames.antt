-- Lists whose cells stand below a word of the heap, where the heap changes from there on.
use Rattle.std.proofs.Common.{◌≡◌, ℕ, zero, suc, ◌+◌, ◌-◌, ◌*◌, ◌/◌, ◌%◌, ◌<◌, ◌≤◌, Bool, true, false, nat_eq, nat_le, nat_lt, ◌&&◌, if◌then◌else◌, List, [], ◌∷◌, ◌++◌, length, take, drop, slice_get, set, Option, Some, None, ◌⊎◌, inl, inr, ⊎_elim, refl, sym, ap, ◌∙◌, append-nil, arith}
use Rattle.std.proofs.lemmas.List.{drop-take, take-take, take-set-le, take-append-drop, length-set}
use Rattle.std.proofs.lemmas.Bool.Decides.{nat_tests}
use Rattle.region_memory.specs.declared.layout.TheConstants.{HEAP_END}
use Rattle.heap_terms.specs.Seen.{reference_of}
use Rattle.heap_terms.specs.declared.shape.Reference.{Reference as AReference}
use Rattle.heap_terms.specs.Shapes.{Symbols, Reference, Shape, Integer, Atom, Nil, Cons, Tuple, Fun, parts, shape_at, lower, words_from, cons_shape, tuple_shape, fun_shape, object_shape, cons_at, object_at}
use Rattle.machine_services.proofs.Cells.{cell_put, cells_word}
use Rattle.machine_services.proofs.Spines.{shape_spine, spine_is, falls}
use Rattle.machine_services.specs.Ends.{FallsBelow, link_spine, list_word, spine_seen, spine_elements, stands_below}
use Rattle.machine_services.specs.Lists.{Spine, NoTerm, Improper, Proper, before, spine_below, cells_from}
use Rattle.machine_services.specs.declared.list.Link.{Link}
use Rattle.machine_services.specs.declared.list.Link.TheVariants as links
use Rattle.machine_services.specs.declared.list.Spine.TheVariants as seen

-- two heaps of one length that have the same words below this one
pub record Agree (at : ℕ) (heap after : List ℕ) : Type 0 where
  pub long : length after ≡ length heap
  pub same : take at after ≡ take at heap

-- ---- lists among the shapes

abbrev NoList : Option (Shape Reference) → Type 0
NoList None = Unit {0}
NoList (Some (Integer n)) = Unit {0}
NoList (Some (Atom x)) = Unit {0}
NoList (Some Nil) = ⊥
NoList (Some (Cons h t)) = ⊥
NoList (Some (Tuple ts)) = Unit {0}
NoList (Some (Fun f ts)) = Unit {0}

never_proper : (spine : Reference → Spine) (s : Option (Shape Reference)) (ws : List ℕ) → NoList s → shape_spine spine s ≡ Proper ws → ⊥
never_proper spine None ws n e = cc
never_proper spine (Some (Integer m)) ws n e = cc
never_proper spine (Some (Atom x)) ws n e = cc
never_proper spine (Some Nil) ws n e = n
never_proper spine (Some (Cons h t)) ws n e = n
never_proper spine (Some (Tuple ts)) ws n e = cc
never_proper spine (Some (Fun f ts)) ws n e = cc

no_list_if : (b : Bool) (s t : Option (Shape Reference)) → NoList s → NoList t → NoList (if b then s else t)
no_list_if true s t h i = h
no_list_if false s t h i = i

tuple_no_list : (below : ℕ) (words : Option (List ℕ)) → NoList (tuple_shape below words)
tuple_no_list below None = tt
tuple_no_list below (Some ws) = tt

fun_no_list : (functions below : ℕ) (words : Option (List ℕ)) → NoList (fun_shape functions below words)
fun_no_list functions below None = tt
fun_no_list functions below (Some []) = tt
fun_no_list functions below (Some (number ∷ ws)) = no_list_if (nat_eq (number % 16) 15 && nat_lt (number / 16) functions) (Some (Fun (number / 16) (parts below ws))) None tt tt

header_no_list : (symbols : Symbols) (heap : List ℕ) (i : ℕ) (header : Option ℕ) → NoList (object_shape symbols heap i header)
header_no_list symbols heap i None = tt
header_no_list symbols heap i (Some header) =
    no_list_if (nat_eq (header % 64) 0) _ _ (tuple_no_list i (words_from heap (suc i) (header / 64)))
    (no_list_if (nat_eq (header % 64) 20) _ _ (fun_no_list symbols.functions i (words_from heap (suc i) (suc (header / 64)))) tt)

object_no_list : (symbols : Symbols) (heap : List ℕ) (i : Option ℕ) → NoList (object_at symbols heap i)
object_no_list symbols heap None = tt
object_no_list symbols heap (Some i) = header_no_list symbols heap i (slice_get heap i)

-- ---- what a word is in both heaps

two_same : (at : ℕ) (heap after : List ℕ) (i : ℕ) → Agree at heap after → i + 2 ≤ at → words_from after i 2 ≡ words_from heap i 2
two_same at heap after i a h =
    let words : take 2 (drop i after) ≡ take 2 (drop i heap) =
    sym (drop-take i 2 after) ∙ ap (drop i) (sym (take-take (i + 2) at after h) ∙ ap (take (i + 2)) a.same ∙ take-take (i + 2) at heap h) ∙ drop-take i 2 heap in
    ap (λ n. if nat_le (i + 2) n then Some (take 2 (drop i after)) else None) a.long
    ∙ ap (λ ws. if nat_le (i + 2) (length heap) then Some ws else None) words

abbrev LowerThan : ℕ → Option ℕ → Type 0
LowerThan limit None = Unit {0}
LowerThan limit (Some i) = i < limit

lower_is : (heap : List ℕ) (below address : ℕ) → LowerThan below (lower heap below address)
lower_is heap below address = grind (arith)

lower_same : (heap after : List ℕ) (below address : ℕ) → length after ≡ length heap → lower after below address ≡ lower heap below address
lower_same heap after below address e =
    ap (λ n. if nat_le (HEAP_END - 8 * n) address && nat_lt ((address - (HEAP_END - 8 * n)) / 8) below then Some ((address - (HEAP_END - 8 * n)) / 8) else None) e

cons_same : (at : ℕ) (heap after : List ℕ) (below : ℕ) (i : Option ℕ) → Agree at heap after → below < at → LowerThan below i → cons_at after i ≡ cons_at heap i
cons_same at heap after below None a h l = refl
cons_same at heap after below (Some i) a h l = ap (cons_shape i) (two_same at heap after i a (omega arith))

-- the same shape, or no list
abbrev Either : Option (Shape Reference) → Option (Shape Reference) → Type 0
Either s t = (t ≡ s) ⊎ NoList s

either_if : (b : Bool) (s s2 t t2 : Option (Shape Reference)) → Either s s2 → Either t t2 → Either (if b then s else t) (if b then s2 else t2)
either_if true s s2 t t2 h i = h
either_if false s s2 t t2 h i = i

shape_either : (at : ℕ) (symbols : Symbols) (heap after : List ℕ) (r : Reference) → Agree at heap after → r.below < at
    → Either (shape_at symbols heap r) (shape_at symbols after r)
unfolding shape_at
shape_either at symbols heap after r a h =
    either_if (nat_eq (r.word % 16) 15) _ _ _ _ (inl refl)
    (either_if (nat_eq (r.word % 64) 11) _ _ _ _ (inl refl)
    (either_if (nat_eq r.word 59) _ _ _ _ (inl refl)
    (either_if (nat_eq (r.word % 8) 1) _ _ _ _
    (inl (ap (cons_at after) (lower_same heap after r.below (r.word - 1) a.long) ∙ cons_same at heap after r.below (lower heap r.below (r.word - 1)) a h (lower_is heap r.below (r.word - 1))))
    (either_if (nat_eq (r.word % 8) 2) _ _ _ _ (inr (object_no_list symbols heap (lower heap r.below (r.word - 2)))) (inl refl)))))

-- ---- proper lists in both heaps

before_proper : (w : ℕ) (s : Spine) (ws : List ℕ) → before w s ≡ Proper ws → (vs : List ℕ) × (s ≡ Proper vs)
before_proper w NoTerm ws e = absurd (cc)
before_proper w Improper ws e = absurd (cc)
before_proper w (Proper vs) ws e = (vs, refl)

shape_framed : (f g : Reference → Spine) (s : Option (Shape Reference)) (ws : List ℕ)
    → ((head tail : Reference) (vs : List ℕ) → s ≡ Some (Cons head tail) → f tail ≡ Proper vs → g tail ≡ Proper vs)
    → shape_spine f s ≡ Proper ws → shape_spine g s ≡ Proper ws
shape_framed f g None ws more e = e
shape_framed f g (Some (Integer n)) ws more e = e
shape_framed f g (Some (Atom x)) ws more e = e
shape_framed f g (Some Nil) ws more e = e
shape_framed f g (Some (Cons head tail)) ws more e =
    let p = before_proper head.word (f tail) ws e in
    ap (before head.word) (more head tail p.0 refl p.1) ∙ sym (ap (before head.word) p.1) ∙ e
shape_framed f g (Some (Tuple ts)) ws more e = e
shape_framed f g (Some (Fun h ts)) ws more e = e

spine_framed : (at : ℕ) (symbols : Symbols) (heap after : List ℕ) → Agree at heap after → (n : ℕ) (r : Reference) (ws : List ℕ) → r.below < n → r.below < at
    → spine_below symbols heap r ≡ Proper ws → spine_below symbols after r ≡ Proper ws
spine_framed at symbols heap after a zero r ws b h e = absurd (omega arith)
spine_framed at symbols heap after a (suc n) r ws b h e =
    let level : shape_spine (spine_below symbols heap) (shape_at symbols heap r) ≡ Proper ws = sym (spine_is symbols heap r) ∙ e in
    ⊎_elim
    (λ same. spine_is symbols after r
    ∙ ap (shape_spine (spine_below symbols after)) same
    ∙ shape_framed (spine_below symbols heap) (spine_below symbols after) (shape_at symbols heap r) ws
    (λ head tail vs s q. let l : tail.below < r.below = falls symbols heap r head tail s in spine_framed at symbols heap after a n tail vs (omega arith) (omega arith) q)
    level)
    (λ no. absurd (never_proper (spine_below symbols heap) (shape_at symbols heap r) ws no level))
    (shape_either at symbols heap after r a h)

link_framed : (at : ℕ) (symbols : Symbols) (heap after : List ℕ) (k : Link) (ws : List ℕ) → Agree at heap after → FallsBelow at k
    → link_spine (spine_below symbols heap) k ≡ Proper ws → link_spine (spine_below symbols after) k ≡ Proper ws
link_framed at symbols heap after links.NoTerm ws a h e = e
link_framed at symbols heap after links.Improper ws a h e = e
link_framed at symbols heap after links.End ws a h e = e
link_framed at symbols heap after (links.Cell head tail) ws a h e =
    let p = before_proper head (spine_below symbols heap (reference_of tail)) ws e in
    ap (before head) (spine_framed at symbols heap after a (suc tail.below) (reference_of tail) p.0 (omega arith) h p.1) ∙ sym (ap (before head) p.1) ∙ e

-- ---- a step of the loop that copies a list's cells

seen_proper : (s : Spine) (n : ℕ) → spine_seen s ≡ seen.Proper n → (vs : List ℕ) × (s ≡ Proper vs) × (length vs ≡ n)
seen_proper NoTerm n e = absurd (cc)
seen_proper Improper n e = absurd (cc)
seen_proper (Proper vs) n e = (vs, refl, cc)

pub rest_proper : (w : ℕ) (s : Spine) (n : ℕ) → spine_seen (before w s) ≡ seen.Proper n → (vs : List ℕ) × (s ≡ Proper vs) × (length vs + 1 ≡ n)
rest_proper w NoTerm n e = absurd (cc)
rest_proper w Improper n e = absurd (cc)
rest_proper w (Proper vs) n e = let q : suc (length vs) ≡ n = cc in (vs, refl, omega (arith, q))

falls_weaker : (m n : ℕ) (k : Link) → m < n → FallsBelow m k → FallsBelow n k
falls_weaker m n links.NoTerm l f = tt
falls_weaker m n links.Improper l f = tt
falls_weaker m n links.End l f = tt
falls_weaker m n (links.Cell head tail) l f = omega arith

-- what holds of a list's cells that are still to be put: how many they are, that they stand below, and what they come to with those put
pub record Copied (symbols : Symbols) (at free tail : ℕ) (whole heap : List ℕ) (link : Link) (left : ℕ) : Type 0 where
  pub count : spine_seen (link_spine (spine_below symbols heap) link) ≡ seen.Proper left
  pub below : FallsBelow at link
  pub room : at + 2 * left ≤ length heap
  pub cells : take at heap ++ (cells_from free (spine_elements (link_spine (spine_below symbols heap) link)) tail).1 ++ drop (at + 2 * left) heap ≡ whole

agree_set : (at : ℕ) (heap : List ℕ) (m w x : ℕ) → at ≤ m → Agree at heap (set (set heap m w) (m + 1) x)
agree_set at heap m w x h = record {
  long = length-set (set heap m w) (m + 1) x ∙ length-set heap m w;
  same = take-set-le at (set heap m w) (m + 1) x (omega arith) ∙ take-set-le at heap m w h;
}

pub copy_step : (symbols : Symbols) (at free tail : ℕ) (whole heap : List ℕ) (head : ℕ) (rest : Reference) (next : Link) (left x : ℕ) (link : Link)
    → Copied symbols at free tail whole heap link left
    → link_spine (spine_below symbols heap) link ≡ before head (spine_below symbols heap rest) → rest.below < at
    → spine_below symbols heap rest ≡ link_spine (spine_below symbols heap) next → FallsBelow rest.below next
    → x ≡ list_word free (left - 1) tail
    → Copied symbols at free tail whole (set (set heap (at + 2 * (left - 1)) head) (at + 2 * (left - 1) + 1) x) next (left - 1)
copy_step symbols at free tail whole heap head rest next left x link c is below level falls_next word =
    let p = rest_proper head (spine_below symbols heap rest) left (ap spine_seen (sym is) ∙ c.count) in
    let vs : List ℕ = p.0 in
    let proper : spine_below symbols heap rest ≡ Proper vs = p.1 in
    let count : length vs + 1 ≡ left = p.2 in
    let m : ℕ = at + 2 * (left - 1) in
    let after : List ℕ = set (set heap m head) (m + 1) x in
    let a : Agree at heap after = agree_set at heap m head x (omega arith) in
    let falls_at : FallsBelow at next = falls_weaker rest.below at next below falls_next in
    let kept : link_spine (spine_below symbols after) next ≡ Proper vs = link_framed at symbols heap after next vs a falls_at (sym level ∙ proper) in
    let few : length vs ≡ left - 1 = omega arith in
    let two : m + 2 ≡ at + 2 * left = omega arith in
    record {
      count = ap spine_seen kept ∙ ap seen.Proper few;
      below = falls_at;
      room = let l : length after ≡ length heap = a.long in omega (arith, c.room);
      cells =
          ap (λ s. take at after ++ (cells_from free (spine_elements s) tail).1 ++ drop m after) kept
          ∙ cell_put heap at m free head vs tail x (omega arith) (omega (arith, c.room)) (word ∙ ap (λ n. list_word free n tail) (sym few) ∙ sym (cells_word free vs tail))
          ∙ ap (λ n. take at heap ++ (cells_from free (head ∷ vs) tail).1 ++ drop n heap) two
          ∙ ap (λ s. take at heap ++ (cells_from free (spine_elements s) tail).1 ++ drop (at + 2 * left) heap) (sym (is ∙ ap (before head) proper))
          ∙ c.cells;
    }

pub below_at : (at : ℕ) (k : Link) → stands_below at k ≡ true → FallsBelow at k
below_at at links.NoTerm e = tt
below_at at links.Improper e = tt
below_at at links.End e = tt
below_at at (links.Cell head rest) e = less rest.below at e where
  less : (m n : ℕ) → nat_lt m n ≡ true → m < n
  less m n e = grind (arith, nat_tests)

-- where the list ends, all cells were put
pub copy_done : (symbols : Symbols) (at free tail : ℕ) (whole heap : List ℕ) (link : Link) (left : ℕ) → Copied symbols at free tail whole heap link left
    → ((head : ℕ) (rest : AReference) → link ≡ links.Cell head rest → ⊥) → heap ≡ whole
copy_done symbols at free tail whole heap links.NoTerm left c n = absurd (let e = c.count in cc)
copy_done symbols at free tail whole heap links.Improper left c n = absurd (let e = c.count in cc)
copy_done symbols at free tail whole heap links.End left c n =
    let e : seen.Proper 0 ≡ seen.Proper left = c.count in
    let none : left ≡ 0 = sym (cc) in
    let here : at + 2 * left ≡ at = omega arith in
    sym (take-append-drop at heap) ∙ ap (λ k. take at heap ++ drop k heap) (sym here) ∙ ap (λ l. l ++ drop (at + 2 * left) heap) (sym (append-nil (take at heap))) ∙ c.cells
copy_done symbols at free tail whole heap (links.Cell head rest) left c n = absurd (n head rest refl)
