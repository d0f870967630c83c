-- A word that has a term stands for it.
use Rattle.std.proofs.Common.{◌≡◌, ℕ, zero, suc, ◌*◌, ◌+◌, ◌^◌, ◌<◌, List, [], ◌∷◌, length, map, Option, Some, None, slice_get, refl, sym, ap, ◌∙◌, subst, arith}
use Rattle.std.proofs.lemmas.Option.{none-some, same_Some, slice_get_within, get_or_from_slice_get}
use Rattle.hipe_terms.specs.Terms.{Term, integer, atom, nil, cons, tuple, fun, Terms, none, more, count}
use Rattle.heap_terms.specs.declared.tags.TheConstants.{FUN_HEADER, HEADER_SCALE}
use Rattle.heap_terms.specs.Shapes.{Symbols, Reference, Shape, Integer, Atom, Nil, Cons, Tuple, Fun, parts, heap_begin, shape_at, option_map}
use Rattle.heap_terms.specs.Terms.{both, joined, all_terms, tuple_term, fun_term, term_step, term_below}
use Rattle.heap_terms.specs.Standing.{StandsFor, AllStandIn}
use Rattle.heap_terms.proofs.Levels.{term_is}
use Rattle.heap_terms_laws.specs.Standing.{AreWords, WordsHaveTerms, OneTerm}
use Rattle.heap_terms_laws.proofs.Words.{WordsAt, at}
use Rattle.heap_terms_laws.proofs.Having.{term_has}
use Rattle.heap_terms_laws.proofs.Shown.{Shows, shape_shows}

-- ---- terms that are put together

both_parts : (a b : Option Term) (t : Term) → both a b ≡ Some t → (x : Term) × (y : Term) × (a ≡ Some x) × (b ≡ Some y) × (cons x y ≡ t)
both_parts (Some x) (Some y) t e = (x, y, refl, refl, same_Some (cons x y) t e)
both_parts (Some x) None t e = absurd (none-some t e)
both_parts None b t e = absurd (none-some t e)

joined_parts : (a : Option Term) (b : Option Terms) (ts : Terms) → joined a b ≡ Some ts → (x : Term) × (xs : Terms) × (a ≡ Some x) × (b ≡ Some xs) × (more x xs ≡ ts)
joined_parts (Some x) (Some xs) ts e = (x, xs, refl, refl, same_Some (more x xs) ts e)
joined_parts (Some x) None ts e = absurd (none-some ts e)
joined_parts None b ts e = absurd (none-some ts e)

tuple_parts : (a : Option Terms) (t : Term) → tuple_term a ≡ Some t → (xs : Terms) × (a ≡ Some xs) × (tuple xs ≡ t)
tuple_parts (Some xs) t e = (xs, refl, same_Some (tuple xs) t e)
tuple_parts None t e = absurd (none-some t e)

fun_parts : (f : ℕ) (a : Option Terms) (t : Term) → fun_term f a ≡ Some t → (xs : Terms) × (a ≡ Some xs) × (fun f xs ≡ t)
fun_parts f (Some xs) t e = (xs, refl, same_Some (fun f xs) t e)
fun_parts f None t e = absurd (none-some t e)

word_of_heap : (heap : List ℕ) → AreWords heap → (i w : ℕ) → slice_get heap i ≡ Some w → w < 2 ^ 64
word_of_heap heap words i w e = subst (λ v. v < 2 ^ 64) (get_or_from_slice_get heap i w 0 e) (words i 0 (slice_get_within heap i w e))

module _ (symbols : Symbols) (heap : List ℕ) (words : AreWords heap) where
  -- references below this that have terms stand for them
  abbrev Stand : ℕ → Type 0
  Stand below = (w : ℕ) → w < 2 ^ 64 → (t : Term) → term_below symbols heap (at below w) ≡ Some t → StandsFor symbols heap below t w

  all_stand : (below i : ℕ) (ws : List ℕ) (ts : Terms) → Stand below → WordsAt heap i ws → all_terms (map (term_below symbols heap) (parts below ws)) ≡ Some ts
      → AllStandIn symbols (heap_begin heap) heap below ts i × (count ts ≡ length ws)
  all_stand below i [] ts stand there e =
      subst (λ us. AllStandIn symbols (heap_begin heap) heap below us i × (count us ≡ 0)) (same_Some none ts e) (tt, refl)
  all_stand below i (w ∷ ws) ts stand there e =
      let p : (x : Term) × (xs : Terms) × (term_below symbols heap (at below w) ≡ Some x) × (all_terms (map (term_below symbols heap) (parts below ws)) ≡ Some xs) × (more x xs ≡ ts)
      = joined_parts (term_below symbols heap (at below w)) (all_terms (map (term_below symbols heap) (parts below ws))) ts e in
      let rest : AllStandIn symbols (heap_begin heap) heap below p.1 (suc i) × (count p.1 ≡ length ws) = all_stand below (suc i) ws p.1 stand there.1 p.3 in
      subst (λ us. AllStandIn symbols (heap_begin heap) heap below us i × (count us ≡ suc (length ws))) p.4
      ((w, there.0, stand w (word_of_heap heap words i w there.0) p.0 p.2, rest.0), ap suc rest.1)

  by_shape : (below w : ℕ) → ((i : ℕ) → i < below → Stand i) → (s : Option (Shape Reference)) → Shows symbols heap below w s → (t : Term)
      → term_step (at below w) (option_map Reference (Option Term) (term_below symbols heap) s) ≡ Some t → StandsFor symbols heap below t w
  by_shape below w stand None h t e = absurd (none-some t e)
  by_shape below w stand (Some (Integer value)) h t e = subst (λ u. StandsFor symbols heap below u w) (same_Some (integer value) t e) h
  by_shape below w stand (Some (Atom name)) h t e = subst (λ u. StandsFor symbols heap below u w) (same_Some (atom name) t e) h
  by_shape below w stand (Some Nil) h t e = subst (λ u. StandsFor symbols heap below u w) (same_Some nil t e) h
  by_shape below w stand (Some (Cons head tail)) h t e =
      let p : (x : Term) × (y : Term) × (term_below symbols heap head ≡ Some x) × (term_below symbols heap tail ≡ Some y) × (cons x y ≡ t)
      = both_parts (term_below symbols heap head) (term_below symbols heap tail) t e in
      subst (λ u. StandsFor symbols heap below u w) p.4 (
        h.0,
        h.1,
        h.2,
        h.3,
        h.4,
        h.5,
        h.6,
        stand h.0 h.1 h.3 (word_of_heap heap words h.0 h.3 h.5) p.0 (ap (term_below symbols heap) (sym h.7) ∙ p.2),
        stand h.0 h.1 h.4 (word_of_heap heap words (suc h.0) h.4 h.6) p.1 (ap (term_below symbols heap) (sym h.8) ∙ p.3),
      )
  by_shape below w stand (Some (Tuple elements)) h t e =
      let p : (xs : Terms) × (all_terms (map (term_below symbols heap) elements) ≡ Some xs) × (tuple xs ≡ t)
      = tuple_parts (all_terms (map (term_below symbols heap) elements)) t e in
      let rest : AllStandIn symbols (heap_begin heap) heap h.0 p.0 (suc h.0) × (count p.0 ≡ length h.3)
      = all_stand h.0 (suc h.0) h.3 p.0 (stand h.0 h.1) h.5 (ap (λ ps. all_terms (map (term_below symbols heap) ps)) (sym h.6) ∙ p.1) in
      subst (λ u. StandsFor symbols heap below u w) p.2
      (h.0, h.1, h.2, h.4 ∙ ap (λ n. Some (HEADER_SCALE * n)) (sym rest.1), rest.0)
  by_shape below w stand (Some (Fun number captured)) h t e =
      let p : (xs : Terms) × (all_terms (map (term_below symbols heap) captured) ≡ Some xs) × (fun number xs ≡ t)
      = fun_parts number (all_terms (map (term_below symbols heap) captured)) t e in
      let rest : AllStandIn symbols (heap_begin heap) heap h.0 p.0 (suc (suc h.0)) × (count p.0 ≡ length h.3)
      = all_stand h.0 (suc (suc h.0)) h.3 p.0 (stand h.0 h.1) h.7 (ap (λ ps. all_terms (map (term_below symbols heap) ps)) (sym h.8) ∙ p.1) in
      subst (λ u. StandsFor symbols heap below u w) p.2
      (h.0, h.1, h.2, h.4 ∙ ap (λ n. Some (HEADER_SCALE * n + FUN_HEADER)) (sym rest.1), h.5, h.6, rest.0)

  by_level : (n below : ℕ) → below < n → Stand below
  by_level zero below h = absurd (omega arith)
  by_level (suc n) below h =
      λ w range t e. by_shape below w (λ i k. by_level n i (omega arith)) (shape_at symbols heap (at below w)) (shape_shows symbols heap below w range) t (sym (term_is symbols heap (at below w)) ∙ e)

pub words_stand : WordsHaveTerms
words_stand symbols heap words = record {
  stands = λ r t range e. by_level symbols heap words (suc r.below) r.below (omega arith) r.word range t e;
  has = λ r t h. term_has symbols heap t r.below r.word h;
}

pub one_term : OneTerm
one_term symbols heap below t u w h k =
    same_Some t u (sym (term_has symbols heap t below w h) ∙ term_has symbols heap u below w k)
