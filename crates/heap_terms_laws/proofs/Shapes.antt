-- What a word is that stands for a term in a prefix of a heap.
use Rattle.std.proofs.Common.{◌≡◌, ℕ, suc, ◌+◌, ◌*◌, ◌%◌, ◌<◌, List, [], ◌∷◌, length, Some, slice_get, refl, sym, ap, ◌∙◌, subst, arith}
use Rattle.std.proofs.lemmas.Option.{slice_get_within}
use Rattle.hipe_terms.specs.Terms.{Term, integer, atom, nil, cons, tuple, fun, Terms, none, more, count, listed}
use Rattle.heap_terms.specs.declared.tags.TheConstants.{INTEGER_TAG, INTEGER_SCALE, FUN_HEADER, HEADER_SCALE}
use Rattle.heap_terms.specs.Integers.{integer_in}
use Rattle.heap_terms.specs.Shapes.{Symbols, Reference, Shape, Integer, Atom, Nil, Cons, Tuple, Fun, parts, heap_begin, shape_at, atom_shape, cons_shape}
use Rattle.heap_terms.specs.Standing.{StandsIn, AllStandIn}
use Rattle.heap_terms_laws.specs.Constants.{EachStands}
use Rattle.heap_terms_laws.proofs.Words.{WordsAt, words_there, at, is_integer, is_atom, is_nil, is_list, is_object}
use Rattle.heap_terms_laws.proofs.Having.{integer_back, tuple_there, fun_there}

module _ (symbols : Symbols) (heap words : List ℕ) where
  -- the words are a prefix of the heap
  abbrev pub IsPrefix : Type 0
  IsPrefix = (i w : ℕ) → slice_get words i ≡ Some w → slice_get heap i ≡ Some w

  abbrev pub Stands : ℕ → Term → ℕ → Type 0
  Stands below t w = StandsIn symbols (heap_begin heap) words below t w

  abbrev pub Each : ℕ → Terms → List ℕ → Type 0
  Each below ts ws = EachStands symbols (heap_begin heap) words below (listed ts) ws

  -- the shape of a term, whose parts stand for the term's
  abbrev pub IsShape : Term → ℕ → Shape Reference → Type 0
  IsShape (integer n) below s = s ≡ Integer n
  IsShape (atom a) below s = s ≡ Atom a
  IsShape nil below s = s ≡ Nil
  IsShape (cons t u) below s = (i : ℕ) × (i < below) × (head : ℕ) × (tail : ℕ) × (s ≡ Cons (at i head) (at i tail)) × Stands i t head × Stands i u tail
  IsShape (tuple ts) below s = (i : ℕ) × (i < below) × (ws : List ℕ) × (s ≡ Tuple (parts i ws)) × Each i ts ws
  IsShape (fun f ts) below s = (i : ℕ) × (i < below) × (ws : List ℕ) × (s ≡ Fun f (parts i ws)) × Each i ts ws

  abbrev pub HasShape : Term → ℕ → ℕ → Type 0
  HasShape t below w = (s : Shape Reference) × (shape_at symbols heap (at below w) ≡ Some s) × IsShape t below s

  abbrev EachThere : ℕ → Terms → ℕ → Type 0
  EachThere below ts i = (ws : List ℕ) × WordsAt heap i ws × (length ws ≡ count ts) × Each below ts ws

  each_there : IsPrefix → (ts : Terms) (below i : ℕ) → AllStandIn symbols (heap_begin heap) words below ts i → EachThere below ts i
  each_there prefix none below i h = ([], tt, refl, tt)
  each_there prefix (more t ts) below i h =
      let rest : EachThere below ts (suc i) = each_there prefix ts below (suc i) h.3 in
      (h.0 ∷ rest.0, (prefix i h.0 h.1, rest.1), ap suc rest.2, (h.2, rest.3))

  pub shape_has : IsPrefix → (t : Term) (below w : ℕ) → Stands below t w → HasShape t below w
  shape_has prefix (integer n) below w h =
      (Integer (integer_in w), is_integer symbols heap below w (subst (λ v. v % INTEGER_SCALE ≡ INTEGER_TAG) (sym h.1) (integer_back n h.0).0), ap (λ v. Integer v) (ap integer_in h.1 ∙ (integer_back n h.0).1))
  shape_has prefix (atom a) below w h =
      (Atom a, subst (λ v. shape_at symbols heap (at below v) ≡ Some (Atom a)) (sym h.2) (is_atom symbols heap below h.0 ∙ ap atom_shape h.1), refl)
  shape_has prefix nil below w h = (Nil, subst (λ v. shape_at symbols heap (at below v) ≡ Some Nil) (sym h) (is_nil symbols heap below), refl)
  shape_has prefix (cons t u) below w h =
      let tail : slice_get heap (suc h.0) ≡ Some h.4 = prefix (suc h.0) h.4 h.6 in (
        Cons (at h.0 h.3) (at h.0 h.4),
        is_list symbols heap below h.0 w h.1 h.2 ∙ ap (cons_shape h.0) (words_there heap h.0 (h.3 ∷ h.4 ∷ []) (omega (arith, slice_get_within heap (suc h.0) h.4 tail)) (prefix h.0 h.3 h.5, (tail, tt))),
        (h.0, h.1, h.3, h.4, refl, h.7, h.8),
      )
  shape_has prefix (tuple ts) below w h =
      let each : EachThere h.0 ts (suc h.0) = each_there prefix ts h.0 (suc h.0) h.4 in (
        Tuple (parts h.0 each.0),
        is_object symbols heap below h.0 w h.1 h.2 ∙ tuple_there symbols heap h.0 (count ts) each.0 (prefix h.0 (HEADER_SCALE * count ts) h.3) each.2 each.1,
        (h.0, h.1, each.0, refl, each.3),
      )
  shape_has prefix (fun f ts) below w h =
      let each : EachThere h.0 ts (suc (suc h.0)) = each_there prefix ts h.0 (suc (suc h.0)) h.6 in (
        Fun f (parts h.0 each.0),
        is_object symbols heap below h.0 w h.1 h.2 ∙ fun_there symbols heap h.0 (count ts) f each.0 (prefix h.0 (HEADER_SCALE * count ts + FUN_HEADER) h.3) each.2 h.4 (prefix (suc h.0) (INTEGER_SCALE * f + INTEGER_TAG) h.5, each.1),
        (h.0, h.1, each.0, refl, each.3),
      )
