-- A word that stands for a term has it.
use Rattle.std.proofs.Common.{◌≡◌, ℕ, suc, ◌+◌, ◌-◌, ◌*◌, ◌/◌, ◌%◌, ◌^◌, ◌<◌, ℤ, pos, negsuc, nat_lt, nat_eq, ◌&&◌, List, [], ◌∷◌, length, map, Option, Some, None, slice_get, refl, sym, ap, ap₂, ◌∙◌, subst, arith}
use Rattle.std.proofs.lemmas.Bool.{lt-ltb, le-ltb, eq-eqb, ne_eqb, and_from, cond-true, cond-false}
use Rattle.std.proofs.lemmas.Option.{slice_get_within}
use Rattle.hipe_terms.specs.Terms.{Term, integer, atom, nil, cons, tuple, fun, Terms, none, more, count}
use Rattle.heap_terms.specs.declared.tags.TheConstants.{INTEGER_TAG, INTEGER_SCALE, ATOM_TAG, ATOM_SCALE, NIL_WORD, TUPLE_HEADER, FUN_HEADER, HEADER_SCALE}
use Rattle.heap_terms.specs.Integers.{IsInteger, word_of, integer_in}
use Rattle.heap_terms.specs.Shapes.{Symbols, Reference, Shape, Integer, Atom, Nil, Cons, Tuple, Fun, parts, heap_begin, shape_at, option_map, words_from, atom_shape, cons_shape, tuple_shape, fun_shape, object_shape, object_at}
use Rattle.heap_terms.specs.Terms.{both, joined, all_terms, tuple_term, fun_term, term_step, term_below}
use Rattle.heap_terms.specs.Standing.{StandsFor, AllStandIn}
use Rattle.heap_terms.proofs.Levels.{term_is}
use Rattle.heap_terms_laws.proofs.Words.{WordsAt, words_there, at, is_integer, is_atom, is_nil, is_list, is_object}

-- ---- integers

pub integer_back : (n : ℤ) → IsInteger n → (word_of n % INTEGER_SCALE ≡ INTEGER_TAG) × (integer_in (word_of n) ≡ n)
integer_back (pos n) h = (omega arith, cond-true (nat_lt (INTEGER_SCALE * n + INTEGER_TAG) (2 ^ 63)) (pos ((INTEGER_SCALE * n + INTEGER_TAG) / INTEGER_SCALE)) (negsuc ((2 ^ 64 - 1 - (INTEGER_SCALE * n + INTEGER_TAG)) / INTEGER_SCALE)) (lt-ltb (INTEGER_SCALE * n + INTEGER_TAG) (2 ^ 63) (omega arith)) ∙ ap pos (omega arith))
integer_back (negsuc n) h =
    (omega arith, cond-false (nat_lt (2 ^ 64 - 1 - INTEGER_SCALE * n) (2 ^ 63)) (pos ((2 ^ 64 - 1 - INTEGER_SCALE * n) / INTEGER_SCALE)) (negsuc ((2 ^ 64 - 1 - (2 ^ 64 - 1 - INTEGER_SCALE * n)) / INTEGER_SCALE)) (le-ltb (2 ^ 64 - 1 - INTEGER_SCALE * n) (2 ^ 63) (omega arith)) ∙ ap negsuc (omega arith))

module _ (symbols : Symbols) (heap : List ℕ) where
  -- these words are there, and have these terms
  abbrev Words : ℕ → Terms → ℕ → Type 0
  Words below ts i = (ws : List ℕ) × WordsAt heap i ws × (length ws ≡ count ts) × (all_terms (map (term_below symbols heap) (parts below ws)) ≡ Some ts)

  by_shape : (below w : ℕ) (t : Term) (s : Option (Shape Reference)) → shape_at symbols heap (at below w) ≡ s
      → term_step (at below w) (option_map Reference (Option Term) (term_below symbols heap) s) ≡ Some t → term_below symbols heap (at below w) ≡ Some t
  by_shape below w t s e h =
      term_is symbols heap (at below w) ∙ ap (λ x. term_step (at below w) (option_map Reference (Option Term) (term_below symbols heap) x)) e ∙ h

  pub tuple_there : (i n : ℕ) (ws : List ℕ) → slice_get heap i ≡ Some (HEADER_SCALE * n) → length ws ≡ n → WordsAt heap (suc i) ws → object_at symbols heap (Some i) ≡ Some (Tuple (parts i ws))
  tuple_there i n ws header many there =
      ap (object_shape symbols heap i) header
      ∙ cond-true (nat_eq ((HEADER_SCALE * n) % HEADER_SCALE) TUPLE_HEADER) (tuple_shape i (words_from heap (suc i) ((HEADER_SCALE * n) / HEADER_SCALE))) _ (eq-eqb ((HEADER_SCALE * n) % HEADER_SCALE) TUPLE_HEADER (omega arith))
      ∙ ap (λ k. tuple_shape i (words_from heap (suc i) k)) (omega arith)
      ∙ ap (tuple_shape i) (words_there heap (suc i) ws (slice_get_within heap i (HEADER_SCALE * n) header) there)

  pub fun_there : (i n f : ℕ) (ws : List ℕ) → slice_get heap i ≡ Some (HEADER_SCALE * n + FUN_HEADER) → length ws ≡ n → f < symbols.functions → WordsAt heap (suc i) ((INTEGER_SCALE * f + INTEGER_TAG) ∷ ws)
      → object_at symbols heap (Some i) ≡ Some (Fun f (parts i ws))
  fun_there i n f ws header many known there =
      ap (object_shape symbols heap i) header
      ∙ cond-false (nat_eq ((HEADER_SCALE * n + FUN_HEADER) % HEADER_SCALE) TUPLE_HEADER) (tuple_shape i (words_from heap (suc i) ((HEADER_SCALE * n + FUN_HEADER) / HEADER_SCALE))) _ (ne_eqb ((HEADER_SCALE * n + FUN_HEADER) % HEADER_SCALE) TUPLE_HEADER (λ e. omega arith))
      ∙ cond-true (nat_eq ((HEADER_SCALE * n + FUN_HEADER) % HEADER_SCALE) FUN_HEADER) (fun_shape symbols.functions i (words_from heap (suc i) (suc ((HEADER_SCALE * n + FUN_HEADER) / HEADER_SCALE)))) None (eq-eqb ((HEADER_SCALE * n + FUN_HEADER) % HEADER_SCALE) FUN_HEADER (omega arith))
      ∙ ap (λ k. fun_shape symbols.functions i (words_from heap (suc i) k)) (omega arith)
      ∙ ap (fun_shape symbols.functions i) (words_there heap (suc i) ((INTEGER_SCALE * f + INTEGER_TAG) ∷ ws) (slice_get_within heap i (HEADER_SCALE * n + FUN_HEADER) header) there)
      ∙ cond-true (nat_eq ((INTEGER_SCALE * f + INTEGER_TAG) % INTEGER_SCALE) INTEGER_TAG && nat_lt ((INTEGER_SCALE * f + INTEGER_TAG) / INTEGER_SCALE) symbols.functions) (Some (Fun ((INTEGER_SCALE * f + INTEGER_TAG) / INTEGER_SCALE) (parts i ws))) None
      (and_from (nat_eq ((INTEGER_SCALE * f + INTEGER_TAG) % INTEGER_SCALE) INTEGER_TAG) (nat_lt ((INTEGER_SCALE * f + INTEGER_TAG) / INTEGER_SCALE) symbols.functions) (eq-eqb ((INTEGER_SCALE * f + INTEGER_TAG) % INTEGER_SCALE) INTEGER_TAG (omega arith)) (lt-ltb ((INTEGER_SCALE * f + INTEGER_TAG) / INTEGER_SCALE) symbols.functions (omega arith)))
      ∙ ap (λ k. Some (Fun k (parts i ws))) (omega arith)

  mutual
    pub term_has : (t : Term) (below w : ℕ) → StandsFor symbols heap below t w → term_below symbols heap (at below w) ≡ Some t
    term_has (integer n) below w h =
        by_shape below w (integer n) (Some (Integer (integer_in w))) (is_integer symbols heap below w (subst (λ v. v % INTEGER_SCALE ≡ INTEGER_TAG) (sym h.1) (integer_back n h.0).0))
        (ap (λ v. Some (integer v)) (ap integer_in h.1 ∙ (integer_back n h.0).1))
    term_has (atom a) below w h =
        subst (λ v. term_below symbols heap (at below v) ≡ Some (atom a)) (sym h.2)
        (by_shape below (ATOM_SCALE * h.0 + ATOM_TAG) (atom a) (Some (Atom a)) (is_atom symbols heap below h.0 ∙ ap atom_shape h.1) refl)
    term_has nil below w h =
        subst (λ v. term_below symbols heap (at below v) ≡ Some nil) (sym h) (by_shape below NIL_WORD nil (Some Nil) (is_nil symbols heap below) refl)
    term_has (cons t u) below w h =
        by_shape below w (cons t u) (Some (Cons (at h.0 h.3) (at h.0 h.4)))
        (is_list symbols heap below h.0 w h.1 h.2 ∙ ap (cons_shape h.0) (words_there heap h.0 (h.3 ∷ h.4 ∷ []) (omega (arith, slice_get_within heap h.0 h.3 h.5)) (h.5, (h.6, tt))))
        (ap₂ both (term_has t h.0 h.3 h.7) (term_has u h.0 h.4 h.8))
    term_has (tuple ts) below w h =
        let ws : Words h.0 ts (suc h.0) = terms_have ts h.0 (suc h.0) h.4 in
        by_shape below w (tuple ts) (Some (Tuple (parts h.0 ws.0)))
        (is_object symbols heap below h.0 w h.1 h.2 ∙ tuple_there h.0 (count ts) ws.0 h.3 ws.2 ws.1)
        (ap tuple_term ws.3)
    term_has (fun f ts) below w h =
        let ws : Words h.0 ts (suc (suc h.0)) = terms_have ts h.0 (suc (suc h.0)) h.6 in
        by_shape below w (fun f ts) (Some (Fun f (parts h.0 ws.0)))
        (is_object symbols heap below h.0 w h.1 h.2 ∙ fun_there h.0 (count ts) f ws.0 h.3 ws.2 h.4 (h.5, ws.1))
        (ap (fun_term f) ws.3)

    terms_have : (ts : Terms) (below i : ℕ) → AllStandIn symbols (heap_begin heap) heap below ts i → Words below ts i
    terms_have none below i h = ([], tt, refl, refl)
    terms_have (more t ts) below i h =
        let ws : Words below ts (suc i) = terms_have ts below (suc i) h.3 in
        (h.0 ∷ ws.0, (h.1, ws.1), ap suc ws.2, ap₂ joined (term_has t below h.0 h.2) ws.3)
