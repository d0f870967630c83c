-- Lists followed to their ends.
use Rattle.std.proofs.Common.{◌≡◌, ℕ, ◌+◌, List, [], ◌∷◌, ◌++◌, Option, Some, None, refl, sym, ap, ◌∙◌, subst, ◌<◌, arith}
use Rattle.heap_terms.proofs.Levels.{Falls, made_is, shape_falls}
use Rattle.heap_terms.specs.Shapes.{Symbols, Reference, Shape, Integer, Atom, Nil, Cons, Tuple, Fun, shape_at, option_map, made_of}
use Rattle.machine_services.specs.Lists.{Spine, NoTerm, Improper, Proper, Followed, before, spine_of, spine_step, spine_below}
use Rattle.machine_services.specs.declared.list.Spine.{Spine as SpineSeen}
use Rattle.machine_services.specs.declared.list.Spine.TheVariants as seen
use Rattle.machine_services.specs.declared.list.Link.{Link}
use Rattle.machine_services.specs.declared.list.Link.TheVariants as links
use Rattle.heap_terms.specs.declared.shape.Reference.{Reference as AReference}
use Rattle.machine_services.specs.Ends.{IsProper, link_spine, spine_elements, spine_seen}

-- ---- the level of a list

-- the list that a shape is, by the lists that others are
abbrev pub shape_spine : (Reference → Spine) → Option (Shape Reference) → Spine
shape_spine spine None = NoTerm
shape_spine spine (Some (Integer n)) = Improper
shape_spine spine (Some (Atom x)) = Improper
shape_spine spine (Some Nil) = Proper []
shape_spine spine (Some (Cons head tail)) = before head.word (spine tail)
shape_spine spine (Some (Tuple ts)) = Improper
shape_spine spine (Some (Fun f ts)) = Improper

followed : Symbols → List ℕ → Reference → Followed
followed symbols heap at = made_of Followed spine_step symbols heap at

followed_word : (symbols : Symbols) (heap : List ℕ) (at : Reference) → (followed symbols heap at).word ≡ at.word
unfolding followed
followed_word symbols heap at = ap (λ f. f.word) (made_is Followed spine_step symbols heap at)

spine_shape : (f : Reference → Followed) (spine : Reference → Spine) (s : Option (Shape Reference))
    → ((at : Reference) → (f at).word ≡ at.word) → ((at : Reference) → (f at).spine ≡ spine at)
    → spine_of (option_map Reference Followed f s) ≡ shape_spine spine s
spine_shape f spine None w e = refl
spine_shape f spine (Some (Integer n)) w e = refl
spine_shape f spine (Some (Atom x)) w e = refl
spine_shape f spine (Some Nil) w e = refl
spine_shape f spine (Some (Cons head tail)) w e = ap (λ k. before k (f tail).spine) (w head) ∙ ap (before head.word) (e tail)
spine_shape f spine (Some (Tuple ts)) w e = refl
spine_shape f spine (Some (Fun g ts)) w e = refl

pub spine_is : (symbols : Symbols) (heap : List ℕ) (at : Reference) → spine_below symbols heap at ≡ shape_spine (spine_below symbols heap) (shape_at symbols heap at)
unfolding spine_below followed
spine_is symbols heap at =
    ap (λ f. f.spine) (made_is Followed spine_step symbols heap at)
    ∙ spine_shape (made_of Followed spine_step symbols heap) (spine_below symbols heap) (shape_at symbols heap at) (followed_word symbols heap) (λ at. refl)

-- ---- how many cells came before

abbrev pub ahead : ℕ → SpineSeen → SpineSeen
ahead k seen.NoTerm = seen.NoTerm
ahead k seen.Improper = seen.Improper
ahead k (seen.Proper n) = seen.Proper (k + n)

pub ahead_none : (s : SpineSeen) → ahead 0 s ≡ s
ahead_none seen.NoTerm = refl
ahead_none seen.Improper = refl
ahead_none (seen.Proper n) = ap seen.Proper (omega arith)

pub ahead_more : (k w : ℕ) (s : Spine) → ahead (k + 1) (spine_seen s) ≡ ahead k (spine_seen (before w s))
ahead_more k w NoTerm = refl
ahead_more k w Improper = refl
ahead_more k w (Proper ws) = ap seen.Proper (omega arith)

-- ---- which elements came before

abbrev pub put_before : List ℕ → Spine → Spine
put_before [] s = s
put_before (w ∷ ws) s = before w (put_before ws s)

pub put_more : (ws : List ℕ) (w : ℕ) (s : Spine) → put_before (ws ++ w ∷ []) s ≡ put_before ws (before w s)
put_more [] w s = refl
put_more (v ∷ ws) w s = ap (before v) (put_more ws w s)

put_end : (ws : List ℕ) → put_before ws (Proper []) ≡ Proper ws
put_end [] = refl
put_end (w ∷ ws) = ap (before w) (put_end ws)

put_no_term : (ws : List ℕ) → put_before ws NoTerm ≡ NoTerm
put_no_term [] = refl
put_no_term (w ∷ ws) = ap (before w) (put_no_term ws)

put_improper : (ws : List ℕ) → put_before ws Improper ≡ Improper
put_improper [] = refl
put_improper (w ∷ ws) = ap (before w) (put_improper ws)

-- where the list ends, all elements were found
put_done : (spine : Reference → Spine) (k : Link) (found : List ℕ) (rest all : Spine) (ws : List ℕ) → rest ≡ link_spine spine k
    → ((head : ℕ) (tail : AReference) → k ≡ links.Cell head tail → ⊥) → put_before found rest ≡ all → all ≡ Proper ws → found ≡ ws
put_done spine links.NoTerm found rest all ws l n e h = absurd (let q : NoTerm ≡ Proper ws = sym (put_no_term found) ∙ ap (put_before found) (sym l) ∙ e ∙ h in cc)
put_done spine links.Improper found rest all ws l n e h = absurd (let q : Improper ≡ Proper ws = sym (put_improper found) ∙ ap (put_before found) (sym l) ∙ e ∙ h in cc)
put_done spine links.End found rest all ws l n e h = let q : Proper found ≡ Proper ws = sym (put_end found) ∙ ap (put_before found) (sym l) ∙ e ∙ h in cc
put_done spine (links.Cell head tail) found rest all ws l n e h = absurd (n head tail refl)

pub put_all : (spine : Reference → Spine) (k : Link) (found : List ℕ) (rest all : Spine) → rest ≡ link_spine spine k
    → ((head : ℕ) (tail : AReference) → k ≡ links.Cell head tail → ⊥) → put_before found rest ≡ all → IsProper all → found ≡ spine_elements all
put_all spine k found rest NoTerm l n e p = absurd p
put_all spine k found rest Improper l n e p = absurd p
put_all spine k found rest (Proper ws) l n e p = put_done spine k found rest (Proper ws) ws l n e refl

-- ---- the code's shapes

pub falls : (symbols : Symbols) (heap : List ℕ) (at head tail : Reference) → shape_at symbols heap at ≡ Some (Cons head tail) → tail.below < at.below
falls symbols heap at head tail e = (subst (Falls at.below) e (shape_falls symbols heap at)).1.0

pub spine_seen_as : (symbols : Symbols) (heap : List ℕ) (at : Reference) (s : Option (Shape Reference)) → shape_at symbols heap at ≡ s → spine_below symbols heap at ≡ shape_spine (spine_below symbols heap) s
spine_seen_as symbols heap at s e = spine_is symbols heap at ∙ ap (shape_spine (spine_below symbols heap)) e
