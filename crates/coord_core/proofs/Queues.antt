-- The queue: nodes put at its back, and what the outputs of a node do to it and to the cells together.
use Rattle.std.proofs.Common.{◌≡◌, ℕ, ◌+◌, ◌<◌, ◌≤◌, ◌⊎◌, inl, inr, true, false, cond, List, [], ◌∷◌, length, nat_eq, IsTrue, refl, sym, ap, ◌∙◌, subst, arith, length-append, length-set, eqb-true}
use Rattle.std.specs.List.{AllByRecursion, Contains, list_any, filter, IsDistinct}
use Rattle.std.proofs.lemmas.Bool.{cases_eq, cases_Bool, false≢true}
use Rattle.lattice_laws.specs.Lattices.{LatticeMeaning, IsLattice}
use Rattle.lattice_laws.specs.Systems.{SystemMeaning, IsSystem}
use Rattle.coord_core.specs.Tables.{value_of, values_of, joined, joined_all, IsAtMost, numbers_below}
use Rattle.coord_core.specs.States.{with_node, with_nodes, rises, queued_after, queue_after}
use Rattle.coord_core.proofs.Lists.{each-append, each_has, each_from_has, has-append_left, has_last, has_from_contains, contains_from_has}
use Rattle.coord_core.proofs.Distinct.{distinct-push, distinct_within, distinct_from_increasing, has-filter, has_below, total, total_at_most, sum_rises}
use Rattle.coord_core.proofs.Joins as joins

-- one node at the back
pub has-with_node : (q : List ℕ) (n : ℕ) → list_any (nat_eq n) (with_node q n) ≡ true
has-with_node q n = elim (cases_Bool (list_any (nat_eq n) q)) [ inl t ↦ rw t t | inr f ↦ rw f (has_last n q) ]

pub with_node-keeps : (q : List ℕ) (n m : ℕ) → list_any (nat_eq m) q ≡ true → list_any (nat_eq m) (with_node q n) ≡ true
with_node-keeps q n m h = elim (cases_Bool (list_any (nat_eq n) q)) [ inl t ↦ rw t h | inr f ↦ rw f (has-append_left m q (n ∷ []) h) ]

pub with_node-distinct : (q : List ℕ) (n : ℕ) → IsDistinct nat_eq q → IsDistinct nat_eq (with_node q n)
with_node-distinct q n d = elim (cases_Bool (list_any (nat_eq n) q)) [ inl t ↦ rw t d | inr f ↦ rw f (distinct-push q n d f) ]

pub with_node-each : (P : ℕ → Type 0) (q : List ℕ) (n : ℕ) → AllByRecursion P q → P n → AllByRecursion P (with_node q n)
with_node-each P q n a p = elim (cases_Bool (list_any (nat_eq n) q)) [ inl t ↦ rw t a | inr f ↦ rw f (each-append P q (n ∷ []) a (p, tt)) ]

pub with_node-length : (q : List ℕ) (n : ℕ) → length (with_node q n) ≤ length q + 1
with_node-length q n = elim (cases_Bool (list_any (nat_eq n) q)) [ inl t ↦ rw t (omega arith) | inr f ↦ rw f (omega (arith, length-append q (n ∷ []))) ]

-- several
pub with_nodes-keeps : (ns q : List ℕ) (m : ℕ) → list_any (nat_eq m) q ≡ true → list_any (nat_eq m) (with_nodes q ns) ≡ true
with_nodes-keeps [] q m h = h
with_nodes-keeps (n ∷ ns) q m h = with_nodes-keeps ns (with_node q n) m (with_node-keeps q n m h)

pub has-with_nodes : (ns q : List ℕ) (m : ℕ) → list_any (nat_eq m) ns ≡ true → list_any (nat_eq m) (with_nodes q ns) ≡ true
has-with_nodes [] q m h = absurd (false≢true h)
has-with_nodes (n ∷ ns) q m h =
    elim (cases_Bool (nat_eq m n)) [
      | inl t ↦ with_nodes-keeps ns (with_node q n) m (subst (λ k. list_any (nat_eq k) (with_node q n) ≡ true) (sym (eqb-true m n t)) (has-with_node q n))
      | inr f ↦ has-with_nodes ns (with_node q n) m (rw f at h)
    ]

pub with_nodes-distinct : (ns q : List ℕ) → IsDistinct nat_eq q → IsDistinct nat_eq (with_nodes q ns)
with_nodes-distinct [] q d = d
with_nodes-distinct (n ∷ ns) q d = with_nodes-distinct ns (with_node q n) (with_node-distinct q n d)

pub with_nodes-each : (P : ℕ → Type 0) (ns q : List ℕ) → AllByRecursion P q → AllByRecursion P ns → AllByRecursion P (with_nodes q ns)
with_nodes-each P [] q a b = a
with_nodes-each P (n ∷ ns) q a b = with_nodes-each P ns (with_node q n) (with_node-each P q n a b.0) b.1

pub with_nodes-length : (ns q : List ℕ) → length (with_nodes q ns) ≤ length q + length ns
with_nodes-length [] q = omega arith
with_nodes-length (n ∷ ns) q = omega (arith, with_nodes-length ns (with_node q n), with_node-length q n)

module _ {V : Type 0} (is_value : V → Type 0) (l : LatticeMeaning V) (s : SystemMeaning V) (laws : IsLattice is_value l) (sys : IsSystem is_value l s) where
  abbrev AreValues : List V → Type 0
  AreValues = joins.AreValues is_value l laws

  abbrev IsOutput : ℕ → ℕ × V → Type 0
  IsOutput = joins.IsOutput is_value l laws

  -- the readers of a cell
  pub reader : (c n : ℕ) → c < s.cells → n < s.nodes → list_any (nat_eq c) (s.needs n) ≡ true → list_any (nat_eq n) (s.readers c) ≡ true
  reader c n h k e = has_from_contains n (s.readers c) ((sys.readers_are c n h).1 (k, contains_from_has c (s.needs n) e))

  pub reader_needs : (c n : ℕ) → c < s.cells → list_any (nat_eq n) (s.readers c) ≡ true → (n < s.nodes) × (list_any (nat_eq c) (s.needs n) ≡ true)
  reader_needs c n h e = let r = (sys.readers_are c n h).0 (contains_from_has n (s.readers c) e) in (r.0, has_from_contains c (s.needs n) r.1)

  pub readers_in_range : (c : ℕ) → c < s.cells → AllByRecursion (λ n. n < s.nodes) (s.readers c)
  readers_in_range c h = each_from_has (λ n. n < s.nodes) (s.readers c) (λ n e. (reader_needs c n h e).0)

  readers_are_few : (c : ℕ) → c < s.cells → length (s.readers c) ≤ length (filter (λ n. list_any (nat_eq c) (s.needs n)) (numbers_below s.nodes))
  readers_are_few c h =
      distinct_within (s.readers c) _ (distinct_from_increasing (s.readers c) (sys.readers_ascend c h))
      (λ n e. let r = reader_needs c n h e in has-filter (λ n. list_any (nat_eq c) (s.needs n)) n (numbers_below s.nodes) (has_below s.nodes n r.0) r.1)

  -- ranks of values and of what nodes need
  rank-at_most : (x y : V) → is_value x → is_value y → IsTrue (l.at_most x y) → l.rank x ≤ l.rank y
  rank-at_most x y a b h =
      elim (cases_Bool (l.at_most y x)) [
        | inl t ↦ same (ap l.rank (laws.antisymmetric x y a b h t))
        | inr f ↦ less (laws.rank_rises x y a b h (λ e. false≢true (sym f ∙ subst (λ v. l.at_most v x ≡ true) e (laws.reflexive x a))))
      ]
    where
      same : l.rank x ≡ l.rank y → l.rank x ≤ l.rank y
      same e = omega arith

      less : l.rank x < l.rank y → l.rank x ≤ l.rank y
      less e = omega arith

  abbrev rank_at : List V → ℕ → ℕ
  rank_at t c = l.rank (value_of l t c)

  abbrev pub needed_ranks : List V → ℕ → ℕ
  needed_ranks t n = total (rank_at t) (s.needs n)

  abbrev pub all_ranks : List V → ℕ
  all_ranks t = total (needed_ranks t) (numbers_below s.nodes)

  all_ranks-at_most : (t u : List V) → AreValues t → AreValues u → IsAtMost l t u → all_ranks t ≤ all_ranks u
  all_ranks-at_most t u tv uv h =
      total_at_most (needed_ranks t) (needed_ranks u) (λ n. total_at_most (rank_at t) (rank_at u) (λ c. rank-at_most _ _ (tv c) (uv c) (h c)) (s.needs n)) (numbers_below s.nodes)

  -- where the rank of one cell rises, so does that of each list in which it stands
  rise_among : (t u : List V) (c : ℕ) → ((d : ℕ) → rank_at t d ≤ rank_at u d) → rank_at t c < rank_at u c → (cs : List ℕ) → total (rank_at t) cs + cond (list_any (nat_eq c) cs) 1 0 ≤ total (rank_at u) cs
  rise_among t u c h k [] = omega arith
  rise_among t u c h k (d ∷ cs) =
      elim (cases_Bool (nat_eq c d)) [
        | inl e ↦ rw e (first_more (rank_at t d) (rank_at u d) (total (rank_at t) cs) (total (rank_at u) cs) (subst (λ d. rank_at t d < rank_at u d) (eqb-true c d e) k) (total_at_most (rank_at t) (rank_at u) h cs))
        | inr f ↦ rw f (rest_more (rank_at t d) (rank_at u d) (total (rank_at t) cs) (total (rank_at u) cs) (cond (list_any (nat_eq c) cs) 1 0) (h d) (rise_among t u c h k cs))
      ]
    where
      first_more : (a b m n : ℕ) → a < b → m ≤ n → (a + m) + 1 ≤ b + n
      first_more a b m n h k = omega arith

      rest_more : (a b m n k : ℕ) → a ≤ b → m + k ≤ n → (a + m) + k ≤ b + n
      rest_more a b m n k h j = omega arith

  -- one output: each newly queued node has a need whose rank rises
  queued_after-ranks : (t : List V) (q : List ℕ) (o : ℕ × V) → length t ≡ s.cells → AreValues t → IsOutput (length t) o → length (queued_after l s t q o) + all_ranks t ≤ length q + all_ranks (joined l t o)
  queued_after-ranks t q o e v g =
      elim (cases_Bool (l.at_most o.1 (value_of l t o.0))) [
        | inl a ↦ rw a (kept (length q) (all_ranks t) (all_ranks (joined l t o)) (all_ranks-at_most t (joined l t o) v v1 up))
        | inr f ↦ rw f (risen_more (length (with_nodes q (s.readers o.0))) (length q) (length (s.readers o.0)) _ (all_ranks t) (all_ranks (joined l t o)) (with_nodes-length (s.readers o.0) q) (readers_are_few o.0 in_range)
            (sum_rises (needed_ranks t) (needed_ranks (joined l t o)) (λ n. list_any (nat_eq o.0) (s.needs n)) (λ n. rise_among t (joined l t o) o.0 (λ d. rank-at_most _ _ (v d) (v1 d) (up d)) (higher f) (s.needs n)) (numbers_below s.nodes)))
      ]
    where
      v1 : AreValues (joined l t o)
      v1 = joins.joined_values is_value l laws t o v g

      up : IsAtMost l t (joined l t o)
      up = joins.joined_above is_value l laws t o v g

      in_range : o.0 < s.cells
      in_range = subst (λ n. o.0 < n) e g.0

      higher : l.at_most o.1 (value_of l t o.0) ≡ false → rank_at t o.0 < rank_at (joined l t o) o.0
      higher f = laws.rank_rises _ _ (v o.0) (v1 o.0) (up o.0) (λ same. false≢true (sym f ∙ subst (λ x. l.at_most o.1 x ≡ true) (sym same) (joins.joined_has is_value l laws t o v g)))

      kept : (a b c : ℕ) → b ≤ c → a + b ≤ a + c
      kept a b c h = omega arith

      risen_more : (w q r f a b : ℕ) → w ≤ q + r → r ≤ f → a + f ≤ b → w + a ≤ q + b
      risen_more w q r f a b h j k = omega arith

  queued_after-keeps : (t : List V) (q : List ℕ) (o : ℕ × V) (m : ℕ) → list_any (nat_eq m) q ≡ true → list_any (nat_eq m) (queued_after l s t q o) ≡ true
  queued_after-keeps t q o m h = elim (cases_Bool (rises l t o)) [ inl r ↦ rw r (with_nodes-keeps (s.readers o.0) q m h) | inr r ↦ rw r h ]

  queued_after-distinct : (t : List V) (q : List ℕ) (o : ℕ × V) → IsDistinct nat_eq q → IsDistinct nat_eq (queued_after l s t q o)
  queued_after-distinct t q o d = elim (cases_Bool (rises l t o)) [ inl r ↦ rw r (with_nodes-distinct (s.readers o.0) q d) | inr r ↦ rw r d ]

  queued_after-in_range : (t : List V) (q : List ℕ) (o : ℕ × V) → o.0 < s.cells → AllByRecursion (λ n. n < s.nodes) q → AllByRecursion (λ n. n < s.nodes) (queued_after l s t q o)
  queued_after-in_range t q o h a = elim (cases_Bool (rises l t o)) [ inl r ↦ rw r (with_nodes-each (λ n. n < s.nodes) (s.readers o.0) q a (readers_in_range o.0 h)) | inr r ↦ rw r a ]

  -- a cell keeps its value, or each reader of it is queued
  cell_or_queued : (t : List V) (q : List ℕ) (o : ℕ × V) (c n : ℕ) → AreValues t → IsOutput (length t) o → list_any (nat_eq n) (s.readers c) ≡ true → (value_of l (joined l t o) c ≡ value_of l t c) ⊎ (list_any (nat_eq n) (queued_after l s t q o) ≡ true)
  cell_or_queued t q o c n v g r =
      elim (cases_Bool (l.at_most o.1 (value_of l t o.0))) [
        | inl a ↦ inl (joins.joined_unchanged is_value l laws t o v g a c)
        | inr f ↦ elim (cases_eq c o.0) [
          | inl e ↦ inr (rw f (has-with_nodes (s.readers o.0) q n (subst (λ d. list_any (nat_eq n) (s.readers d) ≡ true) e r)))
          | inr ne ↦ inl (joins.joined_other is_value l laws t o c ne)
        ]
      ]

  -- many outputs
  abbrev outputs_still : (t : List V) (o : ℕ × V) (os : List (ℕ × V)) → AllByRecursion (IsOutput (length t)) os → AllByRecursion (IsOutput (length (joined l t o))) os
  outputs_still t o os g = subst (λ n. AllByRecursion (IsOutput n) os) (sym (length-set t o.0 _)) g

  pub queue_after-keeps : (os : List (ℕ × V)) (t : List V) (q : List ℕ) (m : ℕ) → list_any (nat_eq m) q ≡ true → list_any (nat_eq m) (queue_after l s t q os) ≡ true
  queue_after-keeps [] t q m h = h
  queue_after-keeps (o ∷ os) t q m h = queue_after-keeps os (joined l t o) (queued_after l s t q o) m (queued_after-keeps t q o m h)

  pub queue_after-distinct : (os : List (ℕ × V)) (t : List V) (q : List ℕ) → IsDistinct nat_eq q → IsDistinct nat_eq (queue_after l s t q os)
  queue_after-distinct [] t q d = d
  queue_after-distinct (o ∷ os) t q d = queue_after-distinct os (joined l t o) (queued_after l s t q o) (queued_after-distinct t q o d)

  pub queue_after-in_range : (os : List (ℕ × V)) (t : List V) (q : List ℕ) → AllByRecursion (IsOutput s.cells) os → AllByRecursion (λ n. n < s.nodes) q → AllByRecursion (λ n. n < s.nodes) (queue_after l s t q os)
  queue_after-in_range [] t q g a = a
  queue_after-in_range (o ∷ os) t q g a = queue_after-in_range os (joined l t o) (queued_after l s t q o) g.1 (queued_after-in_range t q o g.0.0 a)

  pub queue_after-ranks : (os : List (ℕ × V)) (t : List V) (q : List ℕ) → length t ≡ s.cells → AreValues t → AllByRecursion (IsOutput (length t)) os → length (queue_after l s t q os) + all_ranks t ≤ length q + all_ranks (joined_all l t os)
  queue_after-ranks [] t q e v g = omega arith
  queue_after-ranks (o ∷ os) t q e v g =
      both (length (queue_after l s (joined l t o) (queued_after l s t q o) os)) (length (queued_after l s t q o)) (length q) (all_ranks t) (all_ranks (joined l t o)) (all_ranks (joined_all l (joined l t o) os))
      (queued_after-ranks t q o e v g.0)
      (queue_after-ranks os (joined l t o) (queued_after l s t q o) (length-set t o.0 _ ∙ e) (joins.joined_values is_value l laws t o v g.0) (outputs_still t o os g.1))
    where
      both : (x y z a b c : ℕ) → y + a ≤ z + b → x + b ≤ y + c → x + a ≤ z + c
      both x y z a b c h k = omega arith

  pub cells_or_queued : (os : List (ℕ × V)) (t : List V) (q : List ℕ) (c n : ℕ) → AreValues t → AllByRecursion (IsOutput (length t)) os → list_any (nat_eq n) (s.readers c) ≡ true → (value_of l (joined_all l t os) c ≡ value_of l t c) ⊎ (list_any (nat_eq n) (queue_after l s t q os) ≡ true)
  cells_or_queued [] t q c n v g r = inl refl
  cells_or_queued (o ∷ os) t q c n v g r =
      elim (cell_or_queued t q o c n v g.0 r) [
        | inr h ↦ inr (queue_after-keeps os (joined l t o) (queued_after l s t q o) n h)
        | inl e ↦ elim (cells_or_queued os (joined l t o) (queued_after l s t q o) c n (joins.joined_values is_value l laws t o v g.0) (outputs_still t o os g.1) r) [
          | inl f ↦ inl (f ∙ e)
          | inr h ↦ inr h
        ]
      ]

  values_or_queued : (os : List (ℕ × V)) (t : List V) (q : List ℕ) (n : ℕ) → AreValues t → AllByRecursion (IsOutput (length t)) os → (cs : List ℕ) → AllByRecursion (λ c. list_any (nat_eq n) (s.readers c) ≡ true) cs → (values_of l (joined_all l t os) cs ≡ values_of l t cs) ⊎ (list_any (nat_eq n) (queue_after l s t q os) ≡ true)
  values_or_queued os t q n v g [] r = inl refl
  values_or_queued os t q n v g (c ∷ cs) r =
      elim (cells_or_queued os t q c n v g r.0) [
        | inr h ↦ inr h
        | inl e ↦ elim (values_or_queued os t q n v g cs r.1) [
          | inr h ↦ inr h
          | inl f ↦ inl (ap (λ x. x ∷ values_of l (joined_all l t os) cs) e ∙ ap (λ xs. value_of l t c ∷ xs) f)
        ]
      ]

  -- the needs of a node keep their values, or the node is queued
  pub needs_or_queued : (os : List (ℕ × V)) (t : List V) (q : List ℕ) (n : ℕ) → n < s.nodes → AreValues t → AllByRecursion (IsOutput (length t)) os → (values_of l (joined_all l t os) (s.needs n) ≡ values_of l t (s.needs n)) ⊎ (list_any (nat_eq n) (queue_after l s t q os) ≡ true)
  needs_or_queued os t q n h v g =
      values_or_queued os t q n v g (s.needs n) (each_from_has (λ c. list_any (nat_eq n) (s.readers c) ≡ true) (s.needs n) (λ c e. reader c n (each_has (λ c. c < s.cells) c (s.needs n) (each_in_range n h) e) h e))
    where
      each_in_range : (n : ℕ) → n < s.nodes → AllByRecursion (λ c. c < s.cells) (s.needs n)
      each_in_range n h = each_from_has (λ c. c < s.cells) (s.needs n) (λ c e. all_has n h (contains_from_has c (s.needs n) e))
        where
          all_has : {c : ℕ} (n : ℕ) → n < s.nodes → Contains (s.needs n) c → c < s.cells
          all_has {c} n h k = subst (λ d. d < s.cells) k.2 (sys.needs_in_range n h k.0 c k.1)
