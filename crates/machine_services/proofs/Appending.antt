-- What the cells of a list that was built stand for.
use Rattle.std.proofs.Common.{◌≡◌, ℕ, suc, ◌+◌, ◌-◌, ◌*◌, ◌/◌, ◌%◌, ◌<◌, ◌≤◌, Bool, true, false, nat_eq, nat_le, nat_lt, ◌&&◌, if◌then◌else◌, List, [], ◌∷◌, ◌++◌, length, take, drop, Option, Some, None, ◌⊎◌, inl, inr, ⊎_elim, refl, sym, ap, ap₂, ◌∙◌, subst, append_assoc, length-append, arith}
use Rattle.std.proofs.Math.Seq.{drop-append_seam}
use Rattle.std.proofs.lemmas.Bool.Decides.{nat_tests}
use Rattle.std.proofs.lemmas.List.{length-take-le, take-append-le, take-take, length-drop}
use Rattle.region_memory.specs.declared.layout.TheConstants.{HEAP_END}
use Rattle.hipe_terms.specs.Terms.{Term, cons, cells}
use Rattle.heap_terms.proofs.Levels.{term_is}
use Rattle.heap_terms.specs.Shapes.{Symbols, Reference, Shape, Integer, Atom, Nil, Cons, Tuple, Fun, heap_begin, shape_at, option_map, lower, words_from, cons_shape, cons_at, object_at, from_outside}
use Rattle.heap_terms.specs.Terms.{both, term_step, term_below}
use Rattle.machine_services.specs.Laws.{IsKept, AllKept, ListsAppend}
use Rattle.machine_services.specs.Lists.{Proper, spine_at, cells_from}
use Rattle.machine_services.specs.declared.service.Service.TheVariants as services
use Rattle.machine_services.specs.Numbers.{service_number}
use Rattle.machine_services.specs.Services.{Ends, HeapFull, Builds, service, placed, placed_list, appended, heap_with}

-- ---- a reference that may refer higher

abbrev Kept : (X : Type 0) → Option X → Option X → Type 0
Kept X s t = (t ≡ s) ⊎ (s ≡ None)

kept_if : (X : Type 0) (b : Bool) (s s2 t t2 : Option X) → Kept X s s2 → Kept X t t2 → Kept X (if b then s else t) (if b then s2 else t2)
kept_if X true s s2 t t2 h i = h
kept_if X false s s2 t t2 h i = i

some_if : (b c : Bool) (q : ℕ) → (b ≡ true → c ≡ true) → Kept ℕ (if b then Some q else None) (if c then Some q else None)
some_if true true q h = inl refl
some_if true false q h = absurd (let e = h refl in cc)
some_if false c q h = inr refl

lower_kept : (heap : List ℕ) (m n address : ℕ) → m ≤ n → Kept ℕ (lower heap m address) (lower heap n address)
lower_kept heap m n address l =
    some_if (nat_le (heap_begin heap) address && nat_lt ((address - heap_begin heap) / 8) m) (nat_le (heap_begin heap) address && nat_lt ((address - heap_begin heap) / 8) n)
    ((address - heap_begin heap) / 8) (wider (nat_le (heap_begin heap) address) ((address - heap_begin heap) / 8) m n l) where
      wider : (b : Bool) (q m n : ℕ) → m ≤ n → (b && nat_lt q m) ≡ true → (b && nat_lt q n) ≡ true
      wider true q m n l e = grind (arith, nat_tests)
      wider false q m n l e = e

along : (s t : Option ℕ) (f : Option ℕ → Option (Shape Reference)) → f None ≡ None → Kept ℕ s t → Kept (Shape Reference) (f s) (f t)
along s t f n h = ⊎_elim (λ e. inl (ap f e)) (λ e. inr (ap f e ∙ n)) h

shape_kept : (symbols : Symbols) (heap : List ℕ) (m n w : ℕ) → m ≤ n
    → Kept (Shape Reference) (shape_at symbols heap (record { below = m; word = w })) (shape_at symbols heap (record { below = n; word = w }))
unfolding shape_at
shape_kept symbols heap m n w l =
    kept_if (Shape Reference) (nat_eq (w % 16) 15) _ _ _ _ (inl refl)
    (kept_if (Shape Reference) (nat_eq (w % 64) 11) _ _ _ _ (inl refl)
    (kept_if (Shape Reference) (nat_eq w 59) _ _ _ _ (inl refl)
    (kept_if (Shape Reference) (nat_eq (w % 8) 1) _ _ _ _ (along (lower heap m (w - 1)) (lower heap n (w - 1)) (cons_at heap) refl (lower_kept heap m n (w - 1) l))
    (kept_if (Shape Reference) (nat_eq (w % 8) 2) _ _ _ _ (along (lower heap m (w - 2)) (lower heap n (w - 2)) (object_at symbols heap) refl (lower_kept heap m n (w - 2) l)) (inl refl)))))

term_kept : (symbols : Symbols) (heap : List ℕ) (m n w : ℕ) (t : Term) → m ≤ n
    → term_below symbols heap (record { below = m; word = w }) ≡ Some t → term_below symbols heap (record { below = n; word = w }) ≡ Some t
term_kept symbols heap m n w t l e =
    let low : Reference = record { below = m; word = w } in
    let high : Reference = record { below = n; word = w } in
    let level : term_step low (option_map Reference (Option Term) (term_below symbols heap) (shape_at symbols heap low)) ≡ Some t = sym (term_is symbols heap low) ∙ e in
    ⊎_elim
    (λ same. term_is symbols heap high ∙ ap (λ s. term_step high (option_map Reference (Option Term) (term_below symbols heap) s)) same ∙ steps low high (option_map Reference (Option Term) (term_below symbols heap) (shape_at symbols heap low)) ∙ level)
    (λ no. absurd (let q : None ≡ Some t = sym (ap (λ s. term_step low (option_map Reference (Option Term) (term_below symbols heap) s)) no) ∙ level in cc))
    (shape_kept symbols heap m n w l) where
      steps : (a b : Reference) (s : Option (Shape (Option Term))) → term_step b s ≡ term_step a s
      steps a b None = refl
      steps a b (Some (Integer k)) = refl
      steps a b (Some (Atom x)) = refl
      steps a b (Some Nil) = refl
      steps a b (Some (Cons x y)) = refl
      steps a b (Some (Tuple xs)) = refl
      steps a b (Some (Fun f xs)) = refl

-- ---- a cell in the heap

-- the word of an object at a multiple of 8
first_bits : (k : ℕ) → ((8 * k + 1) % 16 ≡ 15 → ⊥) × ((8 * k + 1) % 64 ≡ 11 → ⊥) × (8 * k + 1 ≡ 59 → ⊥) × ((8 * k + 1) % 8 ≡ 1)
first_bits k = ((λ e. omega arith), (λ e. omega arith), (λ e. omega arith), omega arith)

unequal : (m n : ℕ) → (m ≡ n → ⊥) → nat_eq m n ≡ false
unequal m n h = grind (arith, nat_tests)

equal : (m n : ℕ) → m ≡ n → nat_eq m n ≡ true
equal m n h = grind (arith, nat_tests)

if_false : (X : Type 0) (b : Bool) (s t : X) → b ≡ false → (if b then s else t) ≡ t
if_false X true s t e = absurd (cc)
if_false X false s t e = refl

if_true : (X : Type 0) (b : Bool) (s t : X) → b ≡ true → (if b then s else t) ≡ s
if_true X true s t e = refl
if_true X false s t e = absurd (cc)

cons_word : (symbols : Symbols) (heap : List ℕ) (below k : ℕ) → shape_at symbols heap (record { below = below; word = 8 * k + 1 }) ≡ cons_at heap (lower heap below (8 * k))
unfolding shape_at
cons_word symbols heap below k =
    let bits = first_bits k in
    if_false (Option (Shape Reference)) (nat_eq ((8 * k + 1) % 16) 15) _ _ (unequal ((8 * k + 1) % 16) 15 bits.0)
    ∙ if_false (Option (Shape Reference)) (nat_eq ((8 * k + 1) % 64) 11) _ _ (unequal ((8 * k + 1) % 64) 11 bits.1)
    ∙ if_false (Option (Shape Reference)) (nat_eq (8 * k + 1) 59) _ _ (unequal (8 * k + 1) 59 bits.2)
    ∙ if_true (Option (Shape Reference)) (nat_eq ((8 * k + 1) % 8) 1) _ _ (equal ((8 * k + 1) % 8) 1 bits.3)
    ∙ ap (λ a. cons_at heap (lower heap below a)) (omega arith)

begins : (heap : List ℕ) → heap_begin heap ≡ 8 * (3221225472 - length heap)
begins heap = omega arith

lower_at : (b j below : ℕ) → j < below → (if nat_le b (b + 8 * j) && nat_lt ((b + 8 * j - b) / 8) below then Some ((b + 8 * j - b) / 8) else None) ≡ Some j
lower_at b j below h =
    let q : (b + 8 * j - b) / 8 ≡ j = omega arith in
    ap (λ x. if nat_le b (b + 8 * j) && nat_lt x below then Some x else None) q ∙ chosen (nat_le b (b + 8 * j)) (nat_lt j below) j (grind (arith, nat_tests)) (grind (arith, nat_tests)) where
      chosen : (c d : Bool) (x : ℕ) → c ≡ true → d ≡ true → (if c && d then Some x else None) ≡ Some x
      chosen true true x e g = refl
      chosen true false x e g = absurd (cc)
      chosen false d x e g = absurd (cc)

two_words : (heap prefix back : List ℕ) (w x : ℕ) → heap ≡ prefix ++ (w ∷ x ∷ back) → words_from heap (length prefix) 2 ≡ Some (w ∷ x ∷ [])
two_words heap prefix back w x e =
    let long : length heap ≡ length prefix + suc (suc (length back)) = ap length e ∙ length-append prefix (w ∷ x ∷ back) in
    let fits : length prefix + 2 ≤ length heap = omega arith in
    let rest : drop (length prefix) heap ≡ w ∷ x ∷ back = ap (drop (length prefix)) e ∙ drop-append_seam prefix (w ∷ x ∷ back) in
    if_true (Option (List ℕ)) (nat_le (length prefix + 2) (length heap)) _ _ (within (length prefix + 2) (length heap) fits) ∙ ap (λ l. Some (take 2 l)) rest where
      within : (m n : ℕ) → m ≤ n → nat_le m n ≡ true
      within m n h = grind (arith, nat_tests)

cell_term : (symbols : Symbols) (heap prefix back : List ℕ) (w x below : ℕ) (t v : Term) → heap ≡ prefix ++ (w ∷ x ∷ back) → length prefix < below
    → term_below symbols heap (record { below = length prefix; word = w }) ≡ Some t → term_below symbols heap (record { below = length prefix; word = x }) ≡ Some v
    → term_below symbols heap (record { below = below; word = heap_begin heap + 8 * length prefix + 1 }) ≡ Some (cons t v)
cell_term symbols heap prefix back w x below t v e h first rest =
    let j : ℕ = length prefix in
    let k : ℕ = 3221225472 - length heap + j in
    let at : Reference = record { below = below; word = heap_begin heap + 8 * j + 1 } in
    let word : heap_begin heap + 8 * j + 1 ≡ 8 * k + 1 = omega (arith, begins heap) in
    let address : 8 * k ≡ heap_begin heap + 8 * j = omega (arith, begins heap) in
    let shape : shape_at symbols heap at ≡ Some (Cons (record { below = j; word = w }) (record { below = j; word = x })) =
    ap (λ n. shape_at symbols heap (record { below = below; word = n })) word
    ∙ cons_word symbols heap below k
    ∙ ap (λ a. cons_at heap (lower heap below a)) address
    ∙ ap (cons_at heap) (lower_at (heap_begin heap) j below h)
    ∙ ap (cons_shape j) (two_words heap prefix back w x e) in
    term_is symbols heap at
    ∙ ap (λ s. term_step at (option_map Reference (Option Term) (term_below symbols heap) s)) shape
    ∙ ap₂ both first rest

-- ---- the list that was built

abbrev AllIn : Symbols → List ℕ → ℕ → List ℕ → List Term → Type 0
AllIn symbols heap i [] [] = Unit {0}
AllIn symbols heap i (w ∷ ws) (t ∷ ts) = (term_below symbols heap (record { below = i; word = w }) ≡ Some t) × AllIn symbols heap i ws ts
AllIn symbols heap i ws ts = ⊥

all_in : (symbols : Symbols) (heap after : List ℕ) (i : ℕ) (ws : List ℕ) (ts : List Term) → length after ≡ length heap → take i after ≡ take i heap
    → AllKept symbols heap i ws ts → AllIn symbols after i ws ts
all_in symbols heap after i [] [] l s k = tt
all_in symbols heap after i [] (t ∷ ts) l s k = k
all_in symbols heap after i (w ∷ ws) [] l s k = k
all_in symbols heap after i (w ∷ ws) (t ∷ ts) l s k = (k.0 after l s, all_in symbols heap after i ws ts l s k.1)

list_term : (symbols : Symbols) (heap prefix : List ℕ) (free tail : ℕ) (u : Term) (ws : List ℕ) (ts : List Term) (back : List ℕ) (limit : ℕ)
    → heap ≡ prefix ++ ((cells_from free ws tail).1 ++ back) → free ≡ heap_begin heap + 8 * length prefix
    → AllIn symbols heap (length prefix) ws ts → term_below symbols heap (record { below = length prefix; word = tail }) ≡ Some u
    → length prefix + length (cells_from free ws tail).1 ≤ limit
    → term_below symbols heap (record { below = limit; word = (cells_from free ws tail).0 }) ≡ Some (cells ts u)
list_term symbols heap prefix free tail u [] [] back limit e f all last h = term_kept symbols heap (length prefix) limit tail u (omega arith) last
list_term symbols heap prefix free tail u [] (t ∷ ts) back limit e f all last h = absurd all
list_term symbols heap prefix free tail u (w ∷ ws) [] back limit e f all last h = absurd all
list_term symbols heap prefix free tail u (w ∷ ws) (t ∷ ts) back limit e f all last h =
    let r = cells_from free ws tail in
    let below : List ℕ = prefix ++ r.1 in
    let long : length below ≡ length prefix + length r.1 = length-append prefix r.1 in
    let more : length (r.1 ++ w ∷ r.0 ∷ []) ≡ length r.1 + 2 = length-append r.1 (w ∷ r.0 ∷ []) in
    let split : heap ≡ below ++ (w ∷ r.0 ∷ back) = e ∙ ap (λ l. prefix ++ l) (append_assoc r.1 (w ∷ r.0 ∷ []) back) ∙ sym (append_assoc prefix r.1 (w ∷ r.0 ∷ back)) in
    let rest : term_below symbols heap (record { below = length below; word = r.0 }) ≡ Some (cells ts u) =
    list_term symbols heap prefix free tail u ws ts (w ∷ r.0 ∷ back) (length below) (split ∙ append_assoc prefix r.1 (w ∷ r.0 ∷ back)) f all.1 last (omega arith) in
    let first : term_below symbols heap (record { below = length below; word = w }) ≡ Some t = term_kept symbols heap (length prefix) (length below) w t (omega arith) all.0 in
    let word : free + 8 * length r.1 + 1 ≡ heap_begin heap + 8 * length below + 1 = omega arith in
    ap (λ n. term_below symbols heap (record { below = limit; word = n })) word
    ∙ cell_term symbols heap below back w r.0 limit t (cells ts u) split (omega arith) first rest

-- ---- the service

placed_if : (b : Bool) (result result2 : ℕ) (words words2 : List ℕ) → (if b then Builds result words else Ends HeapFull) ≡ Builds result2 words2
    → (b ≡ true) × (result ≡ result2) × (words ≡ words2)
placed_if true result result2 words words2 e = (refl, cc, cc)
placed_if false result result2 words words2 e = absurd (cc)

index_if : (b : Bool) (q : ℕ) (heap : List ℕ) (result result2 : ℕ) (words words2 : List ℕ) → placed heap (if b then Some q else None) result words ≡ Builds result2 words2
    → (b ≡ true) × (nat_le (q + length words) (length heap) ≡ true) × (result ≡ result2) × (words ≡ words2)
index_if true q heap result result2 words words2 e = let p = placed_if (nat_le (q + length words) (length heap)) result result2 words words2 e in (refl, p.0, p.1, p.2)
index_if false q heap result result2 words words2 e = absurd (cc)

by_number : (symbols : Symbols) (heap : List ℕ) (first second free : ℕ) → service symbols heap (service_number services.Append) first second free ≡ appended heap free (spine_at symbols heap first) second
unfolding service
by_number symbols heap first second free = refl

-- what `++` builds are the cells of the list
built_from : (heap : List ℕ) (free second : ℕ) (ws : List ℕ) (result : ℕ) (words : List ℕ) → appended heap free (Proper ws) second ≡ Builds result words
    → placed_list heap free (cells_from free ws second) ≡ Builds result words
built_from heap free second [] result words e = absurd (cc)
built_from heap free second (w ∷ ws) result words e = e

at_free : (heap : List ℕ) (free : ℕ) → (nat_eq (free % 8) 0 && (nat_le (heap_begin heap) free && nat_le free HEAP_END)) ≡ true → free ≡ heap_begin heap + 8 * ((free - heap_begin heap) / 8)
at_free heap free e =
    let b = begins heap in
    let c = both_true (nat_eq (free % 8) 0) (nat_le (heap_begin heap) free && nat_le free HEAP_END) e in
    let d = both_true (nat_le (heap_begin heap) free) (nat_le free HEAP_END) c.1 in
    let zero_rest : free % 8 ≡ 0 = grind (arith, nat_tests) in
    let from : heap_begin heap ≤ free = grind (arith, nat_tests) in
    omega (arith, b, zero_rest, from) where
      both_true : (b c : Bool) → (b && c) ≡ true → (b ≡ true) × (c ≡ true)
      both_true true true e = (refl, refl)
      both_true true false e = absurd (cc)
      both_true false c e = absurd (cc)

-- words put into a heap
put_length : (heap words : List ℕ) (i : ℕ) → i + length words ≤ length heap → length (take i heap ++ words ++ drop (i + length words) heap) ≡ length heap
put_length heap words i h =
    let f : length (take i heap) ≡ i = length-take-le i heap (omega arith) in
    omega (arith, length-append (take i heap ++ words) (drop (i + length words) heap), length-append (take i heap) words, length-drop (i + length words) heap)

put_prefix : (heap words : List ℕ) (i : ℕ) → i + length words ≤ length heap → take i (take i heap ++ words ++ drop (i + length words) heap) ≡ take i heap
put_prefix heap words i h =
    let f : length (take i heap) ≡ i = length-take-le i heap (omega arith) in
    take-append-le i (take i heap ++ words) (drop (i + length words) heap) (omega (arith, length-append (take i heap) words))
    ∙ take-append-le i (take i heap) words (omega arith)
    ∙ take-take i i heap (omega arith)

-- the cells that were put
put_term : (symbols : Symbols) (heap : List ℕ) (second free i : ℕ) (ws : List ℕ) (ts : List Term) (u : Term)
    → i + length (cells_from free ws second).1 ≤ length heap → free ≡ heap_begin heap + 8 * i → AllKept symbols heap i ws ts → IsKept symbols heap i second u
    → (after : List ℕ) → after ≡ take i heap ++ (cells_from free ws second).1 ++ drop (i + length (cells_from free ws second).1) heap
    → term_below symbols after (from_outside after (cells_from free ws second).0) ≡ Some (cells ts u)
put_term symbols heap second free i ws ts u h f all last after e =
    let words : List ℕ = (cells_from free ws second).1 in
    let back : List ℕ = drop (i + length words) heap in
    let prefix : List ℕ = take i heap in
    let count : length prefix ≡ i = length-take-le i heap (omega arith) in
    let long : length after ≡ length heap = ap length e ∙ put_length heap words i h in
    let same : take i after ≡ take i heap = ap (take i) e ∙ put_prefix heap words i h in
    let begin : heap_begin after ≡ heap_begin heap = ap (λ n. HEAP_END - 8 * n) long in
    list_term symbols after prefix free second u ws ts back (length after) (e ∙ append_assoc prefix words back) (omega arith)
    (subst (λ n. AllIn symbols after n ws ts) (sym count) (all_in symbols heap after i ws ts long same all))
    (subst (λ n. term_below symbols after (record { below = n; word = second }) ≡ Some u) (sym count) (last after long same))
    (omega arith)

fits : (m n : ℕ) → nat_le m n ≡ true → m ≤ n
fits m n e = grind (arith, nat_tests)

pub lists_append : ListsAppend
lists_append = λ symbols heap first second free result words ws ts u e p all last.
    let r = cells_from free ws second in
    let i : ℕ = (free - heap_begin heap) / 8 in
    let built = index_if (nat_eq (free % 8) 0 && (nat_le (heap_begin heap) free && nat_le free HEAP_END)) i heap r.0 result r.1 words
    (built_from heap free second ws result words (sym (ap (λ s. appended heap free s second) p) ∙ sym (by_number symbols heap first second free) ∙ e)) in
    let room : i + length r.1 ≤ length heap = fits (i + length r.1) (length heap) built.1 in
    let after : List ℕ = heap_with heap free words in
    subst (λ w. term_below symbols after (from_outside after w) ≡ Some (cells ts u)) built.2
    (put_term symbols heap second free i ws ts u room (at_free heap free built.0) all last after (ap (λ l. take i heap ++ l ++ drop (i + length l) heap) (sym built.3)))
