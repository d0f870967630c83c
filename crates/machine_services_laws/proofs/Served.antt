-- What services do with words that stand for terms.
use Rattle.std.proofs.Common.{◌≡◌, ℕ, suc, ◌+◌, ◌*◌, ◌≤◌, Bool, true, false, cond, nat_le, List, [], ◌∷◌, ◌++◌, length, take, Option, Some, None, refl, sym, ap, ap₂, ◌∙◌, subst, length-append, arith}
use Rattle.std.proofs.lemmas.List.{length-take-le}
use Rattle.std.specs.declared.cmp.Ordering.{Ordering}
use Rattle.std.specs.declared.cmp.Ordering.TheVariants.{Less, Equal, Greater}
use Rattle.region_memory.specs.declared.layout.TheConstants.{HEAP_LIMIT}
use Rattle.hipe_terms.specs.Order.{order}
use Rattle.hipe_terms.specs.Outcome.{elements}
use Rattle.hipe_terms.specs.Terms.{Term, nil, tuple, Terms, none, more, count, terms, listed, cells}
use Rattle.hipe_terms.specs.Words.{list_words, tuple_words}
use Rattle.hipe_terms.proofs.TotalOrder.{order_tells_apart}
use Rattle.heap_terms.specs.Building.{Built, cells_built}
use Rattle.heap_terms.specs.Shapes.{Symbols, parts, heap_begin, shape_at, from_outside}
use Rattle.heap_terms.specs.Standing.{StandsIn}
use Rattle.heap_terms_laws.specs.Constants.{StartsWith, EachStands}
use Rattle.heap_terms_laws.specs.Prefixes.{StandsBefore}
use Rattle.heap_terms_laws.proofs.Growing.{prefixes_have_terms}
use Rattle.heap_terms_laws.proofs.Lists.{tuple_stands, cells_stand}
use Rattle.heap_terms_laws.proofs.Shapes.{HasShape, shape_has}
use Rattle.machine_services.specs.Comparing.{compared}
use Rattle.machine_services.specs.Lists.{Spine, Proper, spine_at, cells_from}
use Rattle.machine_services.specs.Services.{Ends, Answers, Builds, HeapFull, service, returned, raised, displayed, equality, order_word, length_word, appended, copied, placed, placed_list, free_index}
use Rattle.machine_services.proofs.Cells.{cells_length}
use Rattle.machine_services.proofs.TermOrder.{words_compare}
use Rattle.machine_services.proofs.Tuples.{words_back}
use Rattle.machine_services_laws.specs.Laws.{InPrefixes, ReturnsTerm, RaisesTerm, DisplaysTerm, ComparesEqual, OrdersTerms, length_answer, CountsElements, free_at, BuildsBehind, AppendsTo, AppendsLists, AppendsToNil, IsAtFree, CopiesTo, CopiesTuple, EndsHeapFull, EndsStackFull}
use Rattle.machine_services_laws.proofs.Spines.{HasSpine, spine_has}
use Rattle.machine_services_laws.proofs.Rooms.{prefix_of, outside, within, each_within, each_length, cells_same, built_behind}

-- ---- ends of a run, and what is displayed

pub returns_term : InPrefixes ReturnsTerm
unfolding service
returns_term symbols heap n l t w second free h = ap returned (prefixes_have_terms symbols heap n t w l h)

pub raises_term : InPrefixes RaisesTerm
unfolding service
raises_term symbols heap n l t w second free class h e = ap₂ raised e (prefixes_have_terms symbols heap n t w l h)

pub displays_term : InPrefixes DisplaysTerm
unfolding service
displays_term symbols heap n l t w second free h = ap displayed (prefixes_have_terms symbols heap n t w l h)

-- ---- two terms

orders : (symbols : Symbols) (heap : List ℕ) (n : ℕ) (t u : Term) (a b : ℕ) → n ≤ length heap → StandsBefore symbols heap n t a → StandsBefore symbols heap n u b
    → compared symbols heap a b ≡ Some (order t u)
orders symbols heap n t u a b l h k =
    words_compare symbols heap a b t u (prefixes_have_terms symbols heap n t a l h) (prefixes_have_terms symbols heap n u b l k)

pub orders_terms : InPrefixes OrdersTerms
unfolding service
orders_terms symbols heap n l t u a b free h k = ap order_word (orders symbols heap n t u a b l h k)

not_equal : (r : Ordering) → (r ≡ Equal → ⊥) → equality (Some r) ≡ Answers 0
not_equal Less e = refl
not_equal Equal e = absurd (e refl)
not_equal Greater e = refl

pub compares_equal : InPrefixes ComparesEqual
unfolding service
compares_equal symbols heap n l t u a b free h k = record {
  equal = λ e. ap equality (orders symbols heap n t u a b l h k ∙ ap (λ r. Some r) ((order_tells_apart t u).1 e));
  unequal = λ e. ap equality (orders symbols heap n t u a b l h k) ∙ not_equal (order t u) (λ r. e ((order_tells_apart t u).0 r));
}

-- ---- lists

spines : (symbols : Symbols) (heap : List ℕ) (n : ℕ) (t : Term) (w : ℕ) → n ≤ length heap → StandsBefore symbols heap n t w → HasSpine symbols heap (take n heap) (length heap) (elements t) (spine_at symbols heap w)
spines symbols heap n t w l h = spine_has symbols heap (take n heap) (prefix_of symbols heap n) t (length heap) w (outside symbols heap n t w l h)

length_by : (symbols : Symbols) (heap words : List ℕ) (below : ℕ) (o : Option (List Term)) (s : Spine) → HasSpine symbols heap words below o s → length_word s ≡ Answers (length_answer o)
length_by symbols heap words below None s h = ap length_word h
length_by symbols heap words below (Some ts) s h = ap length_word h.1 ∙ ap (λ k. Answers k) (each_length symbols (heap_begin heap) words below ts h.0 h.2)

pub counts_elements : InPrefixes CountsElements
unfolding service
counts_elements symbols heap n l t w second free h = length_by symbols heap (take n heap) (length heap) (elements t) (spine_at symbols heap w) (spines symbols heap n t w l h)

-- a list without elements is before a word: the word is the answer
append_to_nil : (symbols : Symbols) (heap words : List ℕ) (below free tail : ℕ) (s : Spine) → HasSpine symbols heap words below (Some []) s → appended heap free s tail ≡ Answers tail
append_to_nil symbols heap words below free tail s h = ap (λ z. appended heap free z tail) h.1 ∙ go h.0 (each_length symbols (heap_begin heap) words below [] h.0 h.2) where
  go : (ws : List ℕ) → length ws ≡ 0 → appended heap free (Proper ws) tail ≡ Answers tail
  go [] e = refl
  go (w ∷ ws) e = absurd (omega (arith, e))

module _ (symbols : Symbols) (heap : List ℕ) (n : ℕ) (small : length heap ≤ HEAP_LIMIT) (fits : n ≤ length heap) where
  abbrev used : List ℕ
  used = take n heap

  abbrev IsHere : Term → Built → Type 0
  IsHere t b = StandsIn symbols (heap_begin heap) b.1 (length b.1) t b.0

  here : (t : Term) (w : ℕ) → StandsBefore symbols heap n t w → IsHere t (w, used)
  here t w h = within symbols (heap_begin heap) used n t w h

  -- so many words behind the prefix
  behind : (t : Term) (result room : ℕ) (new : List ℕ) → length new ≡ room → IsHere t (result, used ++ new) → BuildsBehind symbols heap n room t (placed heap (free_index heap (free_at symbols heap n)) result new)
  behind t result room new many h =
      built_behind symbols heap n room t result new small fits many
      (subst (λ k. StandsIn symbols (heap_begin heap) (used ++ new) k t result) (length-append used new ∙ ap₂ (λ a b. a + b) (length-take-le n heap fits) many) h)

  free_is : free_at symbols heap n ≡ heap_begin heap + 8 * length used
  free_is = ap (λ k. heap_begin heap + 8 * k) (sym (length-take-le n heap fits))

  cells_behind : (u : Term) (tail : ℕ) → StandsBefore symbols heap n u tail → (ts : List Term) (ws : List ℕ) → EachStands symbols (heap_begin heap) used (length heap) ts ws
      → BuildsBehind symbols heap n (list_words (length ts)) (cells ts u) (placed_list heap (free_at symbols heap n) (cells_from (free_at symbols heap n) ws tail))
  cells_behind u tail k ts ws each =
      let list : ℕ × List ℕ = cells_from (free_at symbols heap n) ws tail in
      let cells_here : StartsWith (cells_built (heap_begin heap) ws (tail, used)).1 used × IsHere (cells ts u) (cells_built (heap_begin heap) ws (tail, used))
      = cells_stand symbols (heap_begin heap) ts ws u (tail, used) (each_within symbols (heap_begin heap) used (length heap) ts ws each) (here u tail k) in
      behind (cells ts u) list.0 (list_words (length ts)) list.1
      (cells_length (free_at symbols heap n) ws tail ∙ ap (λ k. 2 * k) (each_length symbols (heap_begin heap) used (length heap) ts ws each))
      (subst (IsHere (cells ts u)) (cells_same (heap_begin heap) used (free_at symbols heap n) free_is ws tail) cells_here.1)

  append_by : (u : Term) (tail : ℕ) → StandsBefore symbols heap n u tail → (o : Option (List Term)) (s : Spine) → HasSpine symbols heap used (length heap) o s
      → AppendsTo symbols heap n o u tail (appended heap (free_at symbols heap n) s tail)
  append_by u tail k None s h = ap (λ z. appended heap (free_at symbols heap n) z tail) h
  append_by u tail k (Some []) s h = append_to_nil symbols heap used (length heap) (free_at symbols heap n) tail s h
  append_by u tail k (Some (t ∷ ts)) s h =
      subst (λ z. BuildsBehind symbols heap n (list_words (length (t ∷ ts))) (cells (t ∷ ts) u) (appended heap (free_at symbols heap n) z tail)) (sym h.1) (go h.0 h.2) where
        go : (ws : List ℕ) → EachStands symbols (heap_begin heap) used (length heap) (t ∷ ts) ws
            → BuildsBehind symbols heap n (list_words (length (t ∷ ts))) (cells (t ∷ ts) u) (appended heap (free_at symbols heap n) (Proper ws) tail)
        go [] each = let none = each_length symbols (heap_begin heap) used (length heap) (t ∷ ts) [] each in absurd (omega (arith, none))
        go (w ∷ ws) each = cells_behind u tail k (t ∷ ts) (w ∷ ws) each

-- ---- tuples

terms_listed : (ts : Terms) → terms (listed ts) ≡ ts
terms_listed none = refl
terms_listed (more t ts) = ap (more t) (terms_listed ts)

length_listed : (ts : Terms) → length (listed ts) ≡ count ts
length_listed none = refl
length_listed (more t ts) = ap suc (length_listed ts)

parts_length : (i : ℕ) (ws : List ℕ) → length (parts i ws) ≡ length ws
parts_length i [] = refl
parts_length i (w ∷ ws) = ap suc (parts_length i ws)

pub appends_lists : InPrefixes AppendsLists
unfolding service
appends_lists symbols heap n fits small t u first second h k =
    append_by symbols heap n small fits u second k (elements t) (spine_at symbols heap first) (spines symbols heap n t first fits h)

pub appends_to_nil : InPrefixes AppendsToNil
unfolding service
appends_to_nil symbols heap n fits first second free h =
    append_to_nil symbols heap (take n heap) (length heap) free second (spine_at symbols heap first) (spines symbols heap n nil first fits h)

-- what is placed is an object at the heap pointer
at_free : (symbols : Symbols) (heap : List ℕ) (n : ℕ) (o : Option ℕ) (words : List ℕ) → IsAtFree symbols heap n (placed heap o (free_at symbols heap n + 2) words)
at_free symbols heap n None words = tt
at_free symbols heap n (Some i) words = go (nat_le (i + length words) (length heap)) where
  go : (b : Bool) → IsAtFree symbols heap n (cond b (Builds (free_at symbols heap n + 2) words) (Ends HeapFull))
  go true = refl
  go false = tt

pub ends_heap_full : InPrefixes EndsHeapFull
unfolding service
ends_heap_full symbols heap n fits first second free = refl

pub ends_stack_full : InPrefixes EndsStackFull
unfolding service
ends_stack_full symbols heap n fits first second free = refl

pub copies_tuple : InPrefixes CopiesTuple
unfolding service
copies_tuple symbols heap n fits small ts w second h =
    let used : List ℕ = take n heap in
    let begin : ℕ = heap_begin heap in
    let free : ℕ = free_at symbols heap n in
    let shape : HasShape symbols heap used (tuple ts) (length heap) w = shape_has symbols heap used (prefix_of symbols heap n) (tuple ts) (length heap) w (outside symbols heap n (tuple ts) w fits h) in
    let i : ℕ = shape.2.0 in
    let ws : List ℕ = shape.2.2 in
    let each : EachStands symbols begin used (length used) (listed ts) ws = each_within symbols begin used i (listed ts) ws shape.2.4 in
    let copy : StartsWith (used ++ (64 * length ws) ∷ ws) used × StandsIn symbols begin (used ++ (64 * length ws) ∷ ws) (length (used ++ (64 * length ws) ∷ ws)) (tuple (terms (listed ts))) (begin + 8 * length used + 2)
    = tuple_stands symbols begin used (listed ts) ws each in
    let seen : copied heap free (shape_at symbols heap (from_outside heap w)) ≡ placed heap (free_index heap free) (free + 2) ((64 * length ws) ∷ ws)
    = ap (copied heap free) (shape.1 ∙ ap (λ s. Some s) shape.2.3)
    ∙ ap₂ (λ k vs. placed heap (free_index heap free) (free + 2) ((64 * k) ∷ vs)) (parts_length i ws) (words_back i ws) in
    subst (CopiesTo symbols heap n ts) (sym seen) (
      (behind symbols heap n small fits (tuple ts) (free + 2) (tuple_words (count ts)) ((64 * length ws) ∷ ws)
          (omega (arith, each_length symbols begin used i (listed ts) ws shape.2.4, length_listed ts))
          (subst (λ us. StandsIn symbols begin (used ++ (64 * length ws) ∷ ws) (length (used ++ (64 * length ws) ∷ ws)) (tuple us) (free + 2)) (terms_listed ts)
          (subst (λ a. StandsIn symbols begin (used ++ (64 * length ws) ∷ ws) (length (used ++ (64 * length ws) ∷ ws)) (tuple (terms (listed ts))) a) (ap (λ a. a + 2) (sym (free_is symbols heap n small fits))) copy.1))),
      at_free symbols heap n (free_index heap free) ((64 * length ws) ∷ ws),
    )
