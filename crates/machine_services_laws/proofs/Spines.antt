-- The spine of a word is that of the term for which it stands.
use Rattle.std.proofs.Common.{◌≡◌, ℕ, ◌<◌, List, [], ◌∷◌, Option, Some, None, sym, ap, ◌∙◌, subst, arith}
use Rattle.std.specs.Prelude.{option_map as some_map}
use Rattle.hipe_terms.specs.Outcome.{elements}
use Rattle.hipe_terms.specs.Terms.{Term, integer, atom, nil, cons, tuple, fun}
use Rattle.heap_terms.specs.Shapes.{Symbols, heap_begin}
use Rattle.heap_terms_laws.specs.Constants.{EachStands}
use Rattle.heap_terms_laws.proofs.Lists.{starts_same, each_on}
use Rattle.heap_terms_laws.proofs.Words.{at}
use Rattle.heap_terms_laws.proofs.Shapes.{IsPrefix, Stands, HasShape, shape_has}
use Rattle.machine_services.specs.Lists.{Spine, Improper, Proper, before, spine_below}
use Rattle.machine_services.proofs.Spines.{shape_spine, spine_seen_as}

module _ (symbols : Symbols) (heap words : List ℕ) where
  -- the words of a list's elements, where the term is a proper list
  abbrev pub HasSpine : ℕ → Option (List Term) → Spine → Type 0
  HasSpine below None s = s ≡ Improper
  HasSpine below (Some ts) s = (ws : List ℕ) × (s ≡ Proper ws) × EachStands symbols (heap_begin heap) words below ts ws

  one_more : (i below : ℕ) → i < below → (t : Term) (w : ℕ) → Stands symbols heap words i t w → (o : Option (List Term)) (s : Spine) → HasSpine i o s
      → HasSpine below (some_map (λ ts. t ∷ ts) o) (before w s)
  one_more i below l t w h None s k = ap (before w) k
  one_more i below l t w h (Some ts) s k =
      (w ∷ k.0, ap (before w) k.1, each_on symbols (heap_begin heap) words words (starts_same words) i below (omega arith) (t ∷ ts) (w ∷ k.0) (h, k.2))

  pub spine_has : IsPrefix symbols heap words → (t : Term) (below w : ℕ) → Stands symbols heap words below t w → HasSpine below (elements t) (spine_below symbols heap (at below w))
  spine_has prefix (integer n) below w h =
      let s : HasShape symbols heap words (integer n) below w = shape_has symbols heap words prefix (integer n) below w h in
      spine_seen_as symbols heap (at below w) (Some s.0) s.1 ∙ ap (λ z. shape_spine (spine_below symbols heap) (Some z)) s.2
  spine_has prefix (atom a) below w h =
      let s : HasShape symbols heap words (atom a) below w = shape_has symbols heap words prefix (atom a) below w h in
      spine_seen_as symbols heap (at below w) (Some s.0) s.1 ∙ ap (λ z. shape_spine (spine_below symbols heap) (Some z)) s.2
  spine_has prefix nil below w h =
      let s : HasShape symbols heap words nil below w = shape_has symbols heap words prefix nil below w h in
      ([], spine_seen_as symbols heap (at below w) (Some s.0) s.1 ∙ ap (λ z. shape_spine (spine_below symbols heap) (Some z)) s.2, tt)
  spine_has prefix (cons t u) below w h =
      let s : HasShape symbols heap words (cons t u) below w = shape_has symbols heap words prefix (cons t u) below w h in
      let seen : spine_below symbols heap (at below w) ≡ before s.2.2 (spine_below symbols heap (at s.2.0 s.2.3))
      = spine_seen_as symbols heap (at below w) (Some s.0) s.1 ∙ ap (λ z. shape_spine (spine_below symbols heap) (Some z)) s.2.4 in
      subst (HasSpine below (elements (cons t u))) (sym seen)
      (one_more s.2.0 below s.2.1 t s.2.2 s.2.5 (elements u) (spine_below symbols heap (at s.2.0 s.2.3)) (spine_has prefix u s.2.0 s.2.3 s.2.6))
  spine_has prefix (tuple ts) below w h =
      let s : HasShape symbols heap words (tuple ts) below w = shape_has symbols heap words prefix (tuple ts) below w h in
      spine_seen_as symbols heap (at below w) (Some s.0) s.1 ∙ ap (λ z. shape_spine (spine_below symbols heap) (Some z)) s.2.3
  spine_has prefix (fun f ts) below w h =
      let s : HasShape symbols heap words (fun f ts) below w = shape_has symbols heap words prefix (fun f ts) below w h in
      spine_seen_as symbols heap (at below w) (Some s.0) s.1 ∙ ap (λ z. shape_spine (spine_below symbols heap) (Some z)) s.2.3
