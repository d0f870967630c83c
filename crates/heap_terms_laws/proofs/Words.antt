-- What a word is, form by form.
use Rattle.std.proofs.Common.{◌≡◌, ℕ, zero, suc, ◌+◌, ◌-◌, ◌*◌, ◌/◌, ◌%◌, ◌<◌, ◌≤◌, nat_le, nat_lt, nat_eq, ◌&&◌, List, [], ◌∷◌, length, take, drop, Some, None, slice_get, refl, ap, ap₂, ◌∙◌, subst, arith}
use Rattle.std.proofs.lemmas.Bool.{lt-ltb, le-leb, eq-eqb, ne_eqb, and_from, cond-true, cond-false, leb-true, cond_both}
use Rattle.std.proofs.lemmas.Option.{none-some, same_Some}
use Rattle.heap_terms.specs.declared.tags.TheConstants.{INTEGER_TAG, INTEGER_SCALE, ATOM_TAG, ATOM_SCALE, NIL_WORD, CONS_TAG, OBJECT_TAG, POINTER_SCALE}
use Rattle.heap_terms.specs.Integers.{integer_in}
use Rattle.heap_terms.specs.Shapes.{Symbols, Reference, Integer, Nil, heap_begin, shape_at, lower, words_from, atom_shape, cons_at, object_at}

-- ---- words of the heap from one on

abbrev pub WordsAt : List ℕ → ℕ → List ℕ → Type 0
WordsAt heap i [] = Unit {0}
WordsAt heap i (w ∷ ws) = (slice_get heap i ≡ Some w) × WordsAt heap (suc i) ws

pub later : (x : ℕ) (heap : List ℕ) (i : ℕ) (ws : List ℕ) → WordsAt heap i ws → WordsAt (x ∷ heap) (suc i) ws
later x heap i [] h = tt
later x heap i (w ∷ ws) h = (h.0, later x heap (suc i) ws h.1)

earlier : (x : ℕ) (heap : List ℕ) (i : ℕ) (ws : List ℕ) → WordsAt (x ∷ heap) (suc i) ws → WordsAt heap i ws
earlier x heap i [] h = tt
earlier x heap i (w ∷ ws) h = (h.0, earlier x heap (suc i) ws h.1)

taken : (heap : List ℕ) (i : ℕ) (ws : List ℕ) → i ≤ length heap → WordsAt heap i ws → (i + length ws ≤ length heap) × (take (length ws) (drop i heap) ≡ ws)
taken heap i [] h at = (omega arith, refl)
taken [] i (w ∷ ws) h at = absurd (none-some w at.0)
taken (x ∷ heap) zero (w ∷ ws) h at =
    let rest : (zero + length ws ≤ length heap) × (take (length ws) heap ≡ ws) = taken heap zero ws (omega arith) (earlier x heap zero ws at.1) in
    (omega (arith, rest.0), ap₂ (λ y ys. y ∷ ys) (same_Some x w at.0) rest.1)
taken (x ∷ heap) (suc i) (w ∷ ws) h at =
    let rest : (i + length (w ∷ ws) ≤ length heap) × (take (length (w ∷ ws)) (drop i heap) ≡ w ∷ ws) = taken heap i (w ∷ ws) (omega arith) (earlier x heap i (w ∷ ws) at) in
    (omega (arith, rest.0), rest.1)

read : (heap : List ℕ) (i n : ℕ) → i + n ≤ length heap → WordsAt heap i (take n (drop i heap)) × (length (take n (drop i heap)) ≡ n)
read heap i zero h = (tt, refl)
read [] i (suc n) h = absurd (omega arith)
read (x ∷ heap) zero (suc n) h =
    let rest : WordsAt heap zero (take n heap) × (length (take n heap) ≡ n) = read heap zero n (omega arith) in
    ((refl, later x heap zero (take n heap) rest.0), ap suc rest.1)
read (x ∷ heap) (suc i) (suc n) h =
    let rest : WordsAt heap i (take (suc n) (drop i heap)) × (length (take (suc n) (drop i heap)) ≡ suc n) = read heap i (suc n) (omega arith) in
    (later x heap i (take (suc n) (drop i heap)) rest.0, rest.1)

-- the words that stand there are those
pub words_there : (heap : List ℕ) (i : ℕ) (ws : List ℕ) → i ≤ length heap → WordsAt heap i ws → words_from heap i (length ws) ≡ Some ws
words_there heap i ws h at =
    let both : (i + length ws ≤ length heap) × (take (length ws) (drop i heap) ≡ ws) = taken heap i ws h at in
    cond-true (nat_le (i + length ws) (length heap)) (Some (take (length ws) (drop i heap))) None (le-leb _ _ both.0) ∙ ap (λ x. Some x) both.1

-- whatever is read stands there
pub words_read : (heap : List ℕ) (i n : ℕ) (ws : List ℕ) → words_from heap i n ≡ Some ws → WordsAt heap i ws × (length ws ≡ n)
words_read heap i n ws =
    cond_both (nat_le (i + n) (length heap)) (Some (take n (drop i heap))) None (λ o. o ≡ Some ws → WordsAt heap i ws × (length ws ≡ n))
    (λ b e. subst (λ vs. WordsAt heap i vs × (length vs ≡ n)) (same_Some _ _ e) (read heap i n (leb-true _ _ b)))
    (λ b e. absurd (none-some ws e))

-- ---- the forms of words

pub begins_at_eights : (heap : List ℕ) → heap_begin heap % 8 ≡ 0
begins_at_eights heap = omega arith

abbrev pub at : ℕ → ℕ → Reference
at below w = record { below = below; word = w }

module _ (symbols : Symbols) (heap : List ℕ) (below : ℕ) where
  pub is_integer : (w : ℕ) → w % INTEGER_SCALE ≡ INTEGER_TAG → shape_at symbols heap (at below w) ≡ Some (Integer (integer_in w))
  unfolding shape_at
  is_integer w e = cond-true (nat_eq (w % INTEGER_SCALE) INTEGER_TAG) _ _ (eq-eqb (w % INTEGER_SCALE) INTEGER_TAG e)

  pub is_atom : (k : ℕ) → shape_at symbols heap (at below (ATOM_SCALE * k + ATOM_TAG)) ≡ atom_shape (slice_get symbols.atoms k)
  unfolding shape_at
  is_atom k =
      cond-false (nat_eq ((ATOM_SCALE * k + ATOM_TAG) % INTEGER_SCALE) INTEGER_TAG) _ _ (ne_eqb _ _ (λ e. omega arith))
      ∙ cond-true (nat_eq ((ATOM_SCALE * k + ATOM_TAG) % ATOM_SCALE) ATOM_TAG) _ _ (eq-eqb _ _ (omega arith))
      ∙ ap (λ n. atom_shape (slice_get symbols.atoms n)) (omega arith)

  pub is_nil : shape_at symbols heap (at below NIL_WORD) ≡ Some Nil
  unfolding shape_at
  is_nil = refl

  lower_at : (i w : ℕ) → i < below → w ≡ heap_begin heap + 8 * i → lower heap below w ≡ Some i
  lower_at i w h e =
      cond-true (nat_le (heap_begin heap) w && nat_lt ((w - heap_begin heap) / 8) below) (Some ((w - heap_begin heap) / 8)) None
      (and_from (nat_le (heap_begin heap) w) (nat_lt ((w - heap_begin heap) / 8) below) (le-leb (heap_begin heap) w (omega arith)) (lt-ltb ((w - heap_begin heap) / 8) below (omega arith)))
      ∙ ap (λ n. Some n) (omega arith)

  pub is_list : (i w : ℕ) → i < below → w ≡ heap_begin heap + 8 * i + CONS_TAG → shape_at symbols heap (at below w) ≡ cons_at heap (Some i)
  unfolding shape_at
  is_list i w h e =
      let eights : heap_begin heap % 8 ≡ 0 = begins_at_eights heap in
      cond-false (nat_eq (w % INTEGER_SCALE) INTEGER_TAG) _ _ (ne_eqb _ _ (λ f. omega arith))
      ∙ cond-false (nat_eq (w % ATOM_SCALE) ATOM_TAG) _ _ (ne_eqb _ _ (λ f. omega arith))
      ∙ cond-false (nat_eq w NIL_WORD) _ _ (ne_eqb _ _ (λ f. omega arith))
      ∙ cond-true (nat_eq (w % POINTER_SCALE) CONS_TAG) _ _ (eq-eqb _ _ (omega arith))
      ∙ ap (cons_at heap) (lower_at i (w - CONS_TAG) h (omega arith))

  pub is_object : (i w : ℕ) → i < below → w ≡ heap_begin heap + 8 * i + OBJECT_TAG → shape_at symbols heap (at below w) ≡ object_at symbols heap (Some i)
  unfolding shape_at
  is_object i w h e =
      let eights : heap_begin heap % 8 ≡ 0 = begins_at_eights heap in
      cond-false (nat_eq (w % INTEGER_SCALE) INTEGER_TAG) _ _ (ne_eqb _ _ (λ f. omega arith))
      ∙ cond-false (nat_eq (w % ATOM_SCALE) ATOM_TAG) _ _ (ne_eqb _ _ (λ f. omega arith))
      ∙ cond-false (nat_eq w NIL_WORD) _ _ (ne_eqb _ _ (λ f. omega arith))
      ∙ cond-false (nat_eq (w % POINTER_SCALE) CONS_TAG) _ _ (ne_eqb _ _ (λ f. omega arith))
      ∙ cond-true (nat_eq (w % POINTER_SCALE) OBJECT_TAG) _ _ (eq-eqb _ _ (omega arith))
      ∙ ap (object_at symbols heap) (lower_at i (w - OBJECT_TAG) h (omega arith))
