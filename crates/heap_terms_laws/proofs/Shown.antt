-- What a shape says of its word.
use Rattle.std.proofs.Common.{◌≡◌, ℕ, suc, ◌+◌, ◌-◌, ◌*◌, ◌/◌, ◌%◌, ◌^◌, ◌<◌, ◌≤◌, pos, negsuc, nat_le, nat_lt, nat_eq, ◌&&◌, true, List, [], ◌∷◌, length, Option, Some, None, slice_get, refl, ap, ◌∙◌, arith}
use Rattle.std.proofs.lemmas.Bool.{eqb-true, ltb-true, ltb-false, leb-true, and_parts, cond_both}
use Rattle.heap_terms.specs.declared.tags.TheConstants.{INTEGER_TAG, INTEGER_SCALE, ATOM_TAG, ATOM_SCALE, NIL_WORD, CONS_TAG, OBJECT_TAG, POINTER_SCALE, TUPLE_HEADER, FUN_HEADER, HEADER_SCALE}
use Rattle.heap_terms.specs.Integers.{IsInteger, word_of, integer_in}
use Rattle.heap_terms.specs.Shapes.{Symbols, Reference, Shape, Integer, Atom, Nil, Cons, Tuple, Fun, parts, heap_begin, shape_at, lower, words_from, atom_shape, cons_shape, tuple_shape, fun_shape, object_shape, cons_at, object_at}
use Rattle.heap_terms_laws.proofs.Words.{WordsAt, words_read, begins_at_eights, at}

-- the number of a word of the heap is lower than the limit, and the word has this address
abbrev IsAt : List ℕ → ℕ → ℕ → Option ℕ → Type 0
IsAt heap below address None = Unit {0}
IsAt heap below address (Some i) = (i < below) × (address ≡ heap_begin heap + 8 * i)

lower_is_at : (heap : List ℕ) (below address : ℕ) → address % 8 ≡ 0 → IsAt heap below address (lower heap below address)
lower_is_at heap below address e =
    let eights : heap_begin heap % 8 ≡ 0 = begins_at_eights heap in
    cond_both (nat_le (heap_begin heap) address && nat_lt ((address - heap_begin heap) / 8) below) (Some ((address - heap_begin heap) / 8)) None (IsAt heap below address)
    (λ b. let both : (nat_le (heap_begin heap) address ≡ true) × (nat_lt ((address - heap_begin heap) / 8) below ≡ true)
    = and_parts (nat_le (heap_begin heap) address) (nat_lt ((address - heap_begin heap) / 8) below) b in
    (ltb-true _ _ both.1, omega (arith, leb-true (heap_begin heap) address both.0)))
    (λ b. tt)

module _ (symbols : Symbols) (heap : List ℕ) (below w : ℕ) where
  abbrev pub Shows : Option (Shape Reference) → Type 0
  Shows None = Unit {0}
  Shows (Some (Integer value)) = IsInteger value × (w ≡ word_of value)
  Shows (Some (Atom name)) = (k : ℕ) × (slice_get symbols.atoms k ≡ Some name) × (w ≡ ATOM_SCALE * k + ATOM_TAG)
  Shows (Some Nil) = w ≡ NIL_WORD
  Shows (Some (Cons head tail)) = (i : ℕ) × (i < below) × (w ≡ heap_begin heap + 8 * i + CONS_TAG) × (first : ℕ) × (rest : ℕ)
      × (slice_get heap i ≡ Some first) × (slice_get heap (suc i) ≡ Some rest) × (head ≡ at i first) × (tail ≡ at i rest)
  Shows (Some (Tuple elements)) = (i : ℕ) × (i < below) × (w ≡ heap_begin heap + 8 * i + OBJECT_TAG) × (ws : List ℕ) × (slice_get heap i ≡ Some (HEADER_SCALE * length ws))
      × WordsAt heap (suc i) ws × (elements ≡ parts i ws)
  Shows (Some (Fun number captured)) = (i : ℕ) × (i < below) × (w ≡ heap_begin heap + 8 * i + OBJECT_TAG) × (ws : List ℕ) × (slice_get heap i ≡ Some (HEADER_SCALE * length ws + FUN_HEADER))
      × (number < symbols.functions) × (slice_get heap (suc i) ≡ Some (INTEGER_SCALE * number + INTEGER_TAG)) × WordsAt heap (suc (suc i)) ws × (captured ≡ parts i ws)

  integer_shows : w < 2 ^ 64 → w % INTEGER_SCALE ≡ INTEGER_TAG → Shows (Some (Integer (integer_in w)))
  integer_shows h e =
      cond_both (nat_lt w (2 ^ 63)) (pos (w / INTEGER_SCALE)) (negsuc ((2 ^ 64 - 1 - w) / INTEGER_SCALE)) (λ n. IsInteger n × (w ≡ word_of n))
      (λ b. let small : w < 2 ^ 63 = ltb-true w (2 ^ 63) b in (omega arith, omega arith))
      (λ b. let large : 2 ^ 63 ≤ w = ltb-false w (2 ^ 63) b in (omega arith, omega arith))

  atom_shows : w % ATOM_SCALE ≡ ATOM_TAG → (name : Option (List ℕ)) → slice_get symbols.atoms (w / ATOM_SCALE) ≡ name → Shows (atom_shape name)
  atom_shows e None is = tt
  atom_shows e (Some name) is = (w / ATOM_SCALE, is, omega arith)

  cons_shows : (i : ℕ) → i < below → w ≡ heap_begin heap + 8 * i + CONS_TAG → (words : Option (List ℕ)) → words_from heap i 2 ≡ words → Shows (cons_shape i words)
  cons_shows i h e None is = tt
  cons_shows i h e (Some []) is = tt
  cons_shows i h e (Some (first ∷ [])) is = tt
  cons_shows i h e (Some (first ∷ (rest ∷ []))) is =
      let there : WordsAt heap i (first ∷ rest ∷ []) × (2 ≡ 2) = words_read heap i 2 (first ∷ rest ∷ []) is in
      (i, h, e, first, rest, there.0.0, there.0.1.0, refl, refl)
  cons_shows i h e (Some (first ∷ (rest ∷ (other ∷ others)))) is = tt

  tuple_shows : (i header : ℕ) → i < below → w ≡ heap_begin heap + 8 * i + OBJECT_TAG → slice_get heap i ≡ Some header → header % HEADER_SCALE ≡ TUPLE_HEADER
      → (words : Option (List ℕ)) → words_from heap (suc i) (header / HEADER_SCALE) ≡ words → Shows (tuple_shape i words)
  tuple_shows i header h e there form None is = tt
  tuple_shows i header h e there form (Some ws) is =
      let behind : WordsAt heap (suc i) ws × (length ws ≡ header / HEADER_SCALE) = words_read heap (suc i) (header / HEADER_SCALE) ws is in
      (i, h, e, ws, there ∙ ap (λ n. Some n) (omega (arith, behind.1)), behind.0, refl)

  fun_shows : (i header : ℕ) → i < below → w ≡ heap_begin heap + 8 * i + OBJECT_TAG → slice_get heap i ≡ Some header → header % HEADER_SCALE ≡ FUN_HEADER
      → (words : Option (List ℕ)) → words_from heap (suc i) (suc (header / HEADER_SCALE)) ≡ words → Shows (fun_shape symbols.functions i words)
  fun_shows i header h e there form None is = tt
  fun_shows i header h e there form (Some []) is = tt
  fun_shows i header h e there form (Some (number ∷ ws)) is =
      let behind : WordsAt heap (suc i) (number ∷ ws) × (length (number ∷ ws) ≡ suc (header / HEADER_SCALE)) = words_read heap (suc i) (suc (header / HEADER_SCALE)) (number ∷ ws) is in
      cond_both (nat_eq (number % INTEGER_SCALE) INTEGER_TAG && nat_lt (number / INTEGER_SCALE) symbols.functions) (Some (Fun (number / INTEGER_SCALE) (parts i ws))) None Shows
      (λ b. let both : (nat_eq (number % INTEGER_SCALE) INTEGER_TAG ≡ true) × (nat_lt (number / INTEGER_SCALE) symbols.functions ≡ true)
      = and_parts (nat_eq (number % INTEGER_SCALE) INTEGER_TAG) (nat_lt (number / INTEGER_SCALE) symbols.functions) b in
      let low : number % INTEGER_SCALE ≡ INTEGER_TAG = eqb-true (number % INTEGER_SCALE) INTEGER_TAG both.0 in (
        i,
        h,
        e,
        ws,
        there ∙ ap (λ n. Some n) (omega (arith, behind.1)),
        ltb-true (number / INTEGER_SCALE) symbols.functions both.1,
        behind.0.0 ∙ ap (λ n. Some n) (omega arith),
        behind.0.1,
        refl,
      ))
      (λ b. tt)

  header_shows : (i : ℕ) → i < below → w ≡ heap_begin heap + 8 * i + OBJECT_TAG → (header : Option ℕ) → slice_get heap i ≡ header → Shows (object_shape symbols heap i header)
  header_shows i h e None is = tt
  header_shows i h e (Some header) is =
      cond_both (nat_eq (header % HEADER_SCALE) TUPLE_HEADER) _ _ Shows
      (λ b. tuple_shows i header h e is (eqb-true (header % HEADER_SCALE) TUPLE_HEADER b) (words_from heap (suc i) (header / HEADER_SCALE)) refl)
      (λ b. cond_both (nat_eq (header % HEADER_SCALE) FUN_HEADER) _ _ Shows
      (λ c. fun_shows i header h e is (eqb-true (header % HEADER_SCALE) FUN_HEADER c) (words_from heap (suc i) (suc (header / HEADER_SCALE))) refl)
      (λ c. tt))

  list_shows : w % POINTER_SCALE ≡ CONS_TAG → (i : Option ℕ) → IsAt heap below (w - CONS_TAG) i → Shows (cons_at heap i)
  list_shows e None h = tt
  list_shows e (Some i) h = cons_shows i h.0 (omega (arith, h.1)) (words_from heap i 2) refl

  object_shows : w % POINTER_SCALE ≡ OBJECT_TAG → (i : Option ℕ) → IsAt heap below (w - OBJECT_TAG) i → Shows (object_at symbols heap i)
  object_shows e None h = tt
  object_shows e (Some i) h = header_shows i h.0 (omega (arith, h.1)) (slice_get heap i) refl

  pub shape_shows : w < 2 ^ 64 → Shows (shape_at symbols heap (at below w))
  unfolding shape_at
  shape_shows h =
      cond_both (nat_eq (w % INTEGER_SCALE) INTEGER_TAG) _ _ Shows (λ b. integer_shows h (eqb-true (w % INTEGER_SCALE) INTEGER_TAG b))
      (λ b. cond_both (nat_eq (w % ATOM_SCALE) ATOM_TAG) _ _ Shows (λ c. atom_shows (eqb-true (w % ATOM_SCALE) ATOM_TAG c) (slice_get symbols.atoms (w / ATOM_SCALE)) refl)
      (λ c. cond_both (nat_eq w NIL_WORD) _ _ Shows (λ d. eqb-true w NIL_WORD d)
      (λ d. cond_both (nat_eq (w % POINTER_SCALE) CONS_TAG) _ _ Shows
      (λ f. let one : w % POINTER_SCALE ≡ CONS_TAG = eqb-true (w % POINTER_SCALE) CONS_TAG f in list_shows one (lower heap below (w - CONS_TAG)) (lower_is_at heap below (w - CONS_TAG) (omega arith)))
      (λ f. cond_both (nat_eq (w % POINTER_SCALE) OBJECT_TAG) _ _ Shows
      (λ g. let two : w % POINTER_SCALE ≡ OBJECT_TAG = eqb-true (w % POINTER_SCALE) OBJECT_TAG g in object_shows two (lower heap below (w - OBJECT_TAG)) (lower_is_at heap below (w - OBJECT_TAG) (omega arith)))
      (λ g. tt)))))
