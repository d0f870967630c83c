-- Where the words of a tuple's elements stand.
use Rattle.std.proofs.Common.{◌≡◌, ℕ, suc, ◌+◌, ◌/◌, ◌%◌, ◌-◌, ◌<◌, ◌≤◌, Bool, true, false, nat_eq, nat_le, nat_lt, ◌&&◌, if◌then◌else◌, List, [], ◌∷◌, ◌++◌, map, length, take, drop, slice_get, Option, Some, None, refl, sym, ap, ◌∙◌, subst, length-drop, length-take, length-append, append_assoc, set, arith}
use Rattle.std.specs.List.{copy_within}
use Rattle.std.proofs.Math.Seq.{drop-append_seam}
use Rattle.std.proofs.lemmas.List.{length-take-le, set_split, take-append-le, take-take}
use Rattle.machine_services.specs.Ends.{elements_of}
use Rattle.std.proofs.lemmas.Bool.Decides.{nat_tests}
use Rattle.heap_terms.specs.Shapes.{Symbols, Reference, Shape, Integer, Atom, Nil, Cons, Tuple, Fun, parts, shape_at, lower, words_from, atom_shape, cons_shape, tuple_shape, fun_shape, object_shape, cons_at, object_at}

-- a tuple's elements are the words behind its header
abbrev Stands : List ℕ → Option (Shape Reference) → Type 0
Stands heap None = Unit {0}
Stands heap (Some (Integer n)) = Unit {0}
Stands heap (Some (Atom x)) = Unit {0}
Stands heap (Some Nil) = Unit {0}
Stands heap (Some (Cons h t)) = Unit {0}
Stands heap (Some (Tuple es)) = (i : ℕ) × (n : ℕ) × (es ≡ parts i (take n (drop (suc i) heap))) × (suc i + n ≤ length heap)
Stands heap (Some (Fun f es)) = Unit {0}

stands_if : (heap : List ℕ) (b : Bool) (s t : Option (Shape Reference)) → Stands heap s → Stands heap t → Stands heap (if b then s else t)
stands_if heap true s t h i = h
stands_if heap false s t h i = i

atom_stands : (heap : List ℕ) (a : Option (List ℕ)) → Stands heap (atom_shape a)
atom_stands heap None = tt
atom_stands heap (Some name) = tt

cons_stands : (heap : List ℕ) (below : ℕ) (words : Option (List ℕ)) → Stands heap (cons_shape below words)
cons_stands heap below None = tt
cons_stands heap below (Some []) = tt
cons_stands heap below (Some (h ∷ [])) = tt
cons_stands heap below (Some (h ∷ (t ∷ []))) = tt
cons_stands heap below (Some (h ∷ (t ∷ (other ∷ others)))) = tt

cons_at_stands : (heap : List ℕ) (i : Option ℕ) → Stands heap (cons_at heap i)
cons_at_stands heap None = tt
cons_at_stands heap (Some i) = cons_stands heap i (words_from heap i 2)

fun_stands : (heap : List ℕ) (functions below : ℕ) (words : Option (List ℕ)) → Stands heap (fun_shape functions below words)
fun_stands heap functions below None = tt
fun_stands heap functions below (Some []) = tt
fun_stands heap functions below (Some (number ∷ ws)) =
    stands_if heap (nat_eq (number % 16) 15 && nat_lt (number / 16) functions) (Some (Fun (number / 16) (parts below ws))) None tt tt

tuple_if : (heap : List ℕ) (i n : ℕ) (b : Bool) → nat_le (suc i + n) (length heap) ≡ b
    → Stands heap (tuple_shape i (if b then Some (take n (drop (suc i) heap)) else None))
tuple_if heap i n true e = (i, n, refl, within (suc i + n) (length heap) e) where
  within : (m k : ℕ) → nat_le m k ≡ true → m ≤ k
  within m k e = grind (arith, nat_tests)
tuple_if heap i n false e = tt

header_stands : (symbols : Symbols) (heap : List ℕ) (i : ℕ) (header : Option ℕ) → Stands heap (object_shape symbols heap i header)
header_stands symbols heap i None = tt
header_stands symbols heap i (Some header) =
    stands_if heap (nat_eq (header % 64) 0) _ _
    (tuple_if heap i (header / 64) (nat_le (suc i + header / 64) (length heap)) refl)
    (stands_if heap (nat_eq (header % 64) 20) _ _ (fun_stands heap symbols.functions i (words_from heap (suc i) (suc (header / 64)))) tt)

object_at_stands : (symbols : Symbols) (heap : List ℕ) (i : Option ℕ) → Stands heap (object_at symbols heap i)
object_at_stands symbols heap None = tt
object_at_stands symbols heap (Some i) = header_stands symbols heap i (slice_get heap i)

shape_stands : (symbols : Symbols) (heap : List ℕ) (at : Reference) → Stands heap (shape_at symbols heap at)
unfolding shape_at
shape_stands symbols heap at =
    stands_if heap (nat_eq (at.word % 16) 15) _ _ tt
    (stands_if heap (nat_eq (at.word % 64) 11) _ _ (atom_stands heap (slice_get symbols.atoms (at.word / 64)))
    (stands_if heap (nat_eq at.word 59) _ _ tt
    (stands_if heap (nat_eq (at.word % 8) 1) _ _ (cons_at_stands heap (lower heap at.below (at.word - 1)))
    (stands_if heap (nat_eq (at.word % 8) 2) _ _ (object_at_stands symbols heap (lower heap at.below (at.word - 2))) tt))))

pub words_back : (i : ℕ) (ws : List ℕ) → map (λ e. e.word) (parts i ws) ≡ ws
words_back i [] = refl
words_back i (w ∷ ws) = ap (λ l. w ∷ l) (words_back i ws)

first_below : ℕ → List Reference → ℕ
first_below d [] = d
first_below d (e ∷ es) = e.below

first_parts : (d i : ℕ) (ws : List ℕ) → 0 < length ws → first_below d (parts i ws) ≡ i
unfolding first_below
first_parts d i [] h = absurd (omega arith)
first_parts d i (w ∷ ws) h = refl

-- a tuple that has elements
pub tuple_stands : (symbols : Symbols) (heap : List ℕ) (at : Reference) (below : ℕ) (ws : List ℕ) → shape_at symbols heap at ≡ Some (Tuple (parts below ws)) → 0 < length ws
    → (suc below + length ws ≤ length heap) × (ws ≡ take (length ws) (drop (suc below) heap))
tuple_stands symbols heap at below ws e h =
    let s : Stands heap (Some (Tuple (parts below ws))) = subst (Stands heap) e (shape_stands symbols heap at) in
    let i : ℕ = s.0 in
    let n : ℕ = s.1 in
    let there : List ℕ = take n (drop (suc i) heap) in
    let same : ws ≡ there = sym (words_back below ws) ∙ ap (map (λ e. e.word)) s.2 ∙ words_back i there in
    let long : length there ≡ n = omega (arith, length-take n (drop (suc i) heap), length-drop (suc i) heap, s.3) in
    let count : length ws ≡ n = ap length same ∙ long in
    let first : below ≡ i = sym (first_parts 0 below ws h) ∙ ap (first_below 0) s.2 ∙ first_parts 0 i there (omega arith) in
    (omega (arith, s.3), same ∙ ap (λ k. take k (drop (suc i) heap)) (sym count) ∙ ap (λ k. take (length ws) (drop (suc k) heap)) (sym first))

pub tuple_place : (symbols : Symbols) (heap : List ℕ) (at : Reference) (below : ℕ) (ws : List ℕ) → shape_at symbols heap at ≡ Some (Tuple (parts below ws)) → 0 < length ws
    → (below + 1 + length ws ≤ length heap) × (elements_of (shape_at symbols heap at) ≡ Some (take (length ws) (drop (below + 1) heap)))
tuple_place symbols heap at below ws e h =
    let s = tuple_stands symbols heap at below ws e h in
    let one : suc below ≡ below + 1 = omega arith in
    (omega (arith, s.0), ap elements_of e ∙ ap Some (words_back below ws ∙ s.1 ∙ ap (λ k. take (length ws) (drop k heap)) one))

pub no_elements : (symbols : Symbols) (heap : List ℕ) (at : Reference) (below : ℕ) (ws : List ℕ) → shape_at symbols heap at ≡ Some (Tuple (parts below ws)) → length ws ≡ 0
    → elements_of (shape_at symbols heap at) ≡ Some []
no_elements symbols heap at below [] e h = ap elements_of e
no_elements symbols heap at below (w ∷ ws) e h = absurd (omega arith)

-- a header before a copy of its elements
pub tuple_put : (heap : List ℕ) (at from n x : ℕ) → from + n ≤ length heap → at + 1 + n ≤ length heap
    → set (copy_within heap from (from + n) (at + 1)) at x ≡ take at heap ++ (x ∷ take n (drop from heap)) ++ drop (at + 1 + n) heap
tuple_put heap at from n x h g =
    let prefix : List ℕ = take (at + 1) heap in
    let copy : List ℕ = take n (drop from heap) in
    let back : List ℕ = drop (at + 1 + n) heap in
    let all : List ℕ = prefix ++ copy ++ back in
    let count : from + n - from ≡ n = omega arith in
    let long : length prefix ≡ at + 1 = length-take-le (at + 1) heap (omega arith) in
    let one : suc at ≡ length prefix = omega arith in
    let inside : at < length all = omega (arith, length-append (prefix ++ copy) back, length-append prefix copy) in
    let kept : take at all ≡ take at heap =
    take-append-le at (prefix ++ copy) back (omega (arith, length-append prefix copy)) ∙ take-append-le at prefix copy (omega arith) ∙ take-take at (at + 1) heap (omega arith) in
    let rest : drop (suc at) all ≡ copy ++ back = ap (λ k. drop k all) one ∙ ap (drop (length prefix)) (append_assoc prefix copy back) ∙ drop-append_seam prefix (copy ++ back) in
    ap (λ k. set (take (at + 1) heap ++ take k (drop from heap) ++ drop (at + 1 + k) heap) at x) count
    ∙ set_split all at x inside
    ∙ ap (λ l. l ++ (x ∷ drop (suc at) all)) kept
    ∙ ap (λ l. take at heap ++ (x ∷ l)) rest
    ∙ sym (append_assoc (take at heap) (x ∷ copy) back)
