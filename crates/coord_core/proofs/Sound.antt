-- What holds of the coordinator after every list of events. Each kind of step keeps all of it together.
use Rattle.std.proofs.Common.{◌≡◌, ◌≢◌, ℕ, suc, ◌+◌, ◌<◌, ◌≤◌, ◌⊎◌, inl, inr, true, not, List, [], ◌∷◌, ◌++◌, length, drop, get_or, slice_index, nat_eq, IsTrue, refl, sym, ap, ◌∙◌, subst, arith, eqb-true, Option, Some, None}
use Rattle.std.specs.List.{AllByRecursion, AllZip, list_any, filter, find, IsDistinct}
use Rattle.std.proofs.lemmas.Bool.{cases_eq, cases_Bool, false≢true}
use Rattle.lattice_laws.specs.Lattices.{LatticeMeaning, IsLattice}
use Rattle.lattice_laws.specs.Systems.{SystemMeaning, IsSystem, IsOneForEach, reached_cell}
use Rattle.coord_core.specs.declared.event.Event.{Event}
use Rattle.coord_core.specs.declared.event.Event.TheVariants.{Take, Finish, GiveBack}
use Rattle.coord_core.specs.Tickets.{TicketView}
use Rattle.coord_core.specs.Tables.{value_of, values_of, joined_all, IsAtMost, local_of, outputs_on, bottoms, IsSolution, numbers_below}
use Rattle.coord_core.specs.States.{State, started, is_started, opened, with_node, queue_after, has_number, is_given, taken, finished, given_back, is_next, finished_if, given_back_if, step, steps, replay}
use Rattle.coord_core.specs.Bounds.{takes_in, give_backs_in}
use Rattle.coord_core.proofs.Lists.{each-append, each_filter, each_weaker, each_from_all}
use Rattle.coord_core.proofs.Distinct.{distinct-rest, distinct-filter, distinct_numbers, each_is_below, has_below, has-filter, length-filter_le, length-numbers_below}
use Rattle.coord_core.proofs.Joins as joins
use Rattle.coord_core.proofs.Sweeps as sweeps
use Rattle.coord_core.proofs.Queues as queues
use Rattle.coord_core.proofs.Starts as starts
use Rattle.coord_core.proofs.TicketLists.{IsIn, in-append_left, in_last, each_in, find_passes, Ascends, ascends-push, ascends-filter, one_ticket, stays}

pub takes_in-push_take : (es : List Event) (w n : ℕ) → takes_in (es ++ Take w n ∷ []) ≡ suc (takes_in es)
takes_in-push_take [] w n = refl
takes_in-push_take (Take a b ∷ es) w n = ap suc (takes_in-push_take es w n)
takes_in-push_take (Finish a b ∷ es) w n = takes_in-push_take es w n
takes_in-push_take (GiveBack a b ∷ es) w n = takes_in-push_take es w n

pub takes_in-push_finish : (es : List Event) (w n : ℕ) → takes_in (es ++ Finish w n ∷ []) ≡ takes_in es
takes_in-push_finish [] w n = refl
takes_in-push_finish (Take a b ∷ es) w n = ap suc (takes_in-push_finish es w n)
takes_in-push_finish (Finish a b ∷ es) w n = takes_in-push_finish es w n
takes_in-push_finish (GiveBack a b ∷ es) w n = takes_in-push_finish es w n

pub takes_in-push_give_back : (es : List Event) (w n : ℕ) → takes_in (es ++ GiveBack w n ∷ []) ≡ takes_in es
takes_in-push_give_back [] w n = refl
takes_in-push_give_back (Take a b ∷ es) w n = ap suc (takes_in-push_give_back es w n)
takes_in-push_give_back (Finish a b ∷ es) w n = takes_in-push_give_back es w n
takes_in-push_give_back (GiveBack a b ∷ es) w n = takes_in-push_give_back es w n

pub give_backs_in-push_take : (es : List Event) (w n : ℕ) → give_backs_in (es ++ Take w n ∷ []) ≡ give_backs_in es
give_backs_in-push_take [] w n = refl
give_backs_in-push_take (Take a b ∷ es) w n = give_backs_in-push_take es w n
give_backs_in-push_take (Finish a b ∷ es) w n = give_backs_in-push_take es w n
give_backs_in-push_take (GiveBack a b ∷ es) w n = ap suc (give_backs_in-push_take es w n)

pub give_backs_in-push_finish : (es : List Event) (w n : ℕ) → give_backs_in (es ++ Finish w n ∷ []) ≡ give_backs_in es
give_backs_in-push_finish [] w n = refl
give_backs_in-push_finish (Take a b ∷ es) w n = give_backs_in-push_finish es w n
give_backs_in-push_finish (Finish a b ∷ es) w n = give_backs_in-push_finish es w n
give_backs_in-push_finish (GiveBack a b ∷ es) w n = ap suc (give_backs_in-push_finish es w n)

pub give_backs_in-push_give_back : (es : List Event) (w n : ℕ) → give_backs_in (es ++ GiveBack w n ∷ []) ≡ suc (give_backs_in es)
give_backs_in-push_give_back [] w n = refl
give_backs_in-push_give_back (Take a b ∷ es) w n = give_backs_in-push_give_back es w n
give_backs_in-push_give_back (Finish a b ∷ es) w n = give_backs_in-push_give_back es w n
give_backs_in-push_give_back (GiveBack a b ∷ es) w n = ap suc (give_backs_in-push_give_back es w n)

module _ {V : Type 0} (is_value : V → Type 0) (l : LatticeMeaning V) (s : SystemMeaning V) (laws : IsLattice is_value l) (sys : IsSystem is_value l s) where
  abbrev AreValues : List V → Type 0
  AreValues = joins.AreValues is_value l laws

  abbrev IsOutput : ℕ → ℕ × V → Type 0
  IsOutput = joins.IsOutput is_value l laws

  abbrev IsWithin : List V → ℕ × V → Type 0
  IsWithin = joins.IsWithin is_value l laws

  abbrev IsUpTo : List V → List V → Type 0
  IsUpTo xs ys = AllZip (λ x y. IsTrue (l.at_most x y)) xs ys

  abbrev all_ranks : List V → ℕ
  all_ranks = queues.all_ranks is_value l s laws sys

  -- a ticket that is out: its snapshot is of values, and at most the table's
  pub record IsTicket (table : List V) (takes : ℕ) (t : TicketView V) : Type 0 where
    pub node : t.node < s.nodes
    pub values : IsOneForEach is_value (s.needs t.node) t.snapshot
    pub at_most : IsUpTo t.snapshot (values_of l table (s.needs t.node))
    pub from_one : 1 ≤ t.number
    pub number : t.number ≤ takes

  -- a ticket of the node is out with the table's values
  abbrev pub IsOutWithCurrent : State V → ℕ → Type 0
  IsOutWithCurrent st node = (t : TicketView V) × IsIn t st.out × (t.node ≡ node) × (t.snapshot ≡ values_of l st.table (s.needs node))

  -- the node waits, or works on the table's values, or has nothing to add
  abbrev pub IsPendingOrStable : State V → ℕ → Type 0
  IsPendingOrStable st node = (list_any (nat_eq node) st.queue ≡ true) ⊎ (IsOutWithCurrent st node ⊎ AllByRecursion (IsWithin st.table) (outputs_on l s st.table node))

  pub record IsSound (st : State V) : Type 0 where
    pub cells : length st.table ≡ s.cells
    pub values : AreValues st.table
    pub starts : AllByRecursion (IsWithin st.table) s.starts
    pub below : (u : List V) → IsSolution is_value l s u → IsAtMost l st.table u
    pub queue_in_range : AllByRecursion (λ n. n < s.nodes) st.queue
    pub queue_distinct : IsDistinct nat_eq st.queue
    pub tickets : AllByRecursion (IsTicket st.table st.takes) st.out
    pub numbers : Ascends st.out
    pub pending_or_stable : (node : ℕ) → node < s.nodes → value_of l st.table (reached_cell s node) ≢ l.bottom → IsPendingOrStable st node
    pub bounded : st.takes + length st.queue ≤ (s.nodes + all_ranks st.table) + give_backs_in st.journal
    pub counted : st.takes ≡ takes_in st.journal

  -- the opened state
  opened_table : List V
  opened_table = started (bottoms l s) s.starts

  starts_fit : AllByRecursion (IsOutput (length (bottoms l s))) s.starts
  starts_fit = sweeps.outputs_at is_value l s laws sys (bottoms l s) s.starts (sweeps.length-bottoms is_value l s laws sys) (sweeps.starts_are_outputs is_value l s laws sys)

  opened_within : (os : List (ℕ × V)) (t : List V) → AllByRecursion (IsOutput s.cells) os → AllByRecursion (λ o. value_of l t o.0 ≡ o.1) os → AllByRecursion (IsWithin t) os
  opened_within [] t g a = tt
  opened_within (o ∷ os) t g a = (subst (λ x. l.at_most o.1 x ≡ true) (sym a.0) (laws.reflexive o.1 g.0.1), opened_within os t g.1 a.1)

  pub opened_sound : IsSound (opened l s)
  unfolding opened opened_table
  opened_sound = record {
    cells = starts.length-started is_value l laws s.starts (bottoms l s) ∙ sweeps.length-bottoms is_value l s laws sys;
    values = starts.started_values is_value l laws s.starts (bottoms l s) (sweeps.bottoms_values is_value l s laws sys) starts_fit;
    starts = opened_within s.starts opened_table (sweeps.starts_are_outputs is_value l s laws sys) (starts.started_has is_value l laws s.starts (bottoms l s) starts_fit sys.starts_distinct);
    below = λ u sol. starts.started_least is_value l laws s.starts (bottoms l s) u starts_fit (joins.bottoms_at_most is_value l laws s.cells u sol.values) (sweeps.solution_starts is_value l s laws sys u sol);
    queue_in_range = each_filter (λ n. n < s.nodes) (is_started s) (numbers_below s.nodes) (each_is_below s.nodes);
    queue_distinct = distinct-filter (is_started s) (numbers_below s.nodes) (distinct_numbers s.nodes);
    tickets = tt;
    numbers = tt;
    pending_or_stable = λ node h ne. elim (cases_Bool (is_started s node)) [
      | inl t ↦ inl (has-filter (is_started s) node (numbers_below s.nodes) (has_below s.nodes node h) t)
      | inr f ↦ absurd (ne (starts.started_other is_value l laws s.starts (bottoms l s) (reached_cell s node) f ∙ joins.bottoms_read is_value l laws s.cells (reached_cell s node)))
    ];
    bounded = few (length (filter (is_started s) (numbers_below s.nodes))) s.nodes (all_ranks opened_table) (length (numbers_below s.nodes)) (length-filter_le (is_started s) (numbers_below s.nodes)) (length-numbers_below s.nodes);
    counted = refl;
  }
    where
      few : (q n r m : ℕ) → q ≤ m → m ≡ n → 0 + q ≤ (n + r) + 0
      few q n r m h e = omega arith

  -- a node takes
  pub taken_sound : (st : State V) (worker node : ℕ) → IsSound st → is_next st.queue node ≡ true → IsSound (taken l s st worker node)
  taken_sound st worker node w h = record {
    cells = w.cells;
    values = w.values;
    starts = w.starts;
    below = w.below;
    queue_in_range = rest_each st.queue w.queue_in_range;
    queue_distinct = distinct-rest st.queue w.queue_distinct;
    tickets = each-append (IsTicket st.table (st.takes + 1)) st.out (given ∷ []) (each_weaker (IsTicket st.table st.takes) (IsTicket st.table (st.takes + 1)) later st.out w.tickets) (new_ticket, tt);
    numbers = ascends-push st.out given w.numbers (each_weaker (IsTicket st.table st.takes) (λ t. t.number < st.takes + 1) (λ t i. less t.number st.takes i.number) st.out w.tickets);
    pending_or_stable = λ n k ne. still n (w.pending_or_stable n k ne);
    bounded = one_less (length st.queue) (length (drop 1 st.queue)) st.takes (s.nodes + all_ranks st.table) (give_backs_in st.journal) (give_backs_in (st.journal ++ Take worker node ∷ [])) (length-next st.queue h) w.bounded (give_backs_in-push_take st.journal worker node);
    counted = one_more st.takes (takes_in st.journal) (takes_in (st.journal ++ Take worker node ∷ [])) w.counted (takes_in-push_take st.journal worker node);
  }
    where
      given : TicketView V
      given = record { number = st.takes + 1; node = node; worker = worker; snapshot = values_of l st.table (s.needs node) }

      rest_each : (q : List ℕ) → AllByRecursion (λ n. n < s.nodes) q → AllByRecursion (λ n. n < s.nodes) (drop 1 q)
      rest_each [] a = tt
      rest_each (x ∷ q) a = a.1

      less : (m n : ℕ) → m ≤ n → m < n + 1
      less m n h = omega arith

      later : (t : TicketView V) → IsTicket st.table st.takes t → IsTicket st.table (st.takes + 1) t
      later t i = record { node = i.node; values = i.values; at_most = i.at_most; from_one = i.from_one; number = up t.number st.takes i.number }
        where
          up : (m n : ℕ) → m ≤ n → m ≤ n + 1
          up m n h = omega arith

      next_in_range : (q : List ℕ) → is_next q node ≡ true → AllByRecursion (λ n. n < s.nodes) q → node < s.nodes
      next_in_range [] e a = absurd (false≢true e)
      next_in_range (x ∷ q) e a = subst (λ n. n < s.nodes) (eqb-true x node e) a.0

      new_ticket : IsTicket st.table (st.takes + 1) given
      new_ticket = record {
        node = next_in_range st.queue h w.queue_in_range;
        values = sweeps.one_for_each is_value l s laws sys st.table w.values node;
        at_most = joins.values_of-at_most is_value l laws st.table st.table (joins.at_most-refl is_value l laws st.table w.values) (s.needs node);
        from_one = one_or_more st.takes;
        number = same st.takes;
      }
        where
          one_or_more : (n : ℕ) → 1 ≤ n + 1
          one_or_more n = omega arith

          same : (n : ℕ) → n + 1 ≤ n + 1
          same n = omega arith

      first_or_rest : (n : ℕ) (q : List ℕ) → is_next q node ≡ true → list_any (nat_eq n) q ≡ true → (node ≡ n) ⊎ (list_any (nat_eq n) (drop 1 q) ≡ true)
      first_or_rest n [] e k = absurd (false≢true k)
      first_or_rest n (x ∷ q) e k =
          elim (cases_Bool (nat_eq n x)) [ inl t ↦ inl (sym (eqb-true x node e) ∙ sym (eqb-true n x t)) | inr f ↦ inr (rw f at k) ]

      still : (n : ℕ) → IsPendingOrStable st n → IsPendingOrStable (taken l s st worker node) n
      still n (inl q) =
          elim (first_or_rest n st.queue h q) [
            | inl e ↦ inr (inl (given, in_last given st.out, e, ap (λ m. values_of l st.table (s.needs m)) e))
            | inr r ↦ inl r
          ]
      still n (inr (inl o)) = inr (inl (o.0, in-append_left o.0 st.out (given ∷ []) o.1, o.2, o.3))
      still n (inr (inr f)) = inr (inr f)

      length-next : (q : List ℕ) → is_next q node ≡ true → length q ≡ suc (length (drop 1 q))
      length-next [] e = absurd (false≢true e)
      length-next (x ∷ q) e = refl

      one_less : (q r t b g g' : ℕ) → q ≡ suc r → t + q ≤ b + g → g' ≡ g → (t + 1) + r ≤ b + g'
      one_less q r t b g g' e h f = omega arith

      one_more : (t a b : ℕ) → t ≡ a → b ≡ suc a → t + 1 ≡ b
      one_more t a b e f = omega arith

  -- a ticket ends
  pub finished_sound : (st : State V) (t : TicketView V) → IsSound st → IsIn t st.out → IsSound (finished l s st t)
  finished_sound st t w i = record {
    cells = joins.length-joined_all is_value l laws os st.table ∙ w.cells;
    values = v1;
    starts = joins.within_up is_value l laws st.table (joined_all l st.table os) s.cells w.values v1 up s.starts (sweeps.starts_are_outputs is_value l s laws sys) w.starts;
    below = λ u sol. joins.joined_all_least is_value l laws os st.table u w.values fit sol.values (w.below u sol)
        (sweeps.local_within is_value l s laws sys u sol.values t.node t.snapshot (values_of l u (s.needs t.node)) ticket.node ticket.values (sweeps.one_for_each is_value l s laws sys u sol.values t.node)
        (snapshot_up t ticket u sol.values (w.below u sol))
        (sweeps.solution_outputs is_value l s laws sys u sol t.node ticket.node));
    queue_in_range = queues.queue_after-in_range is_value l s laws sys os st.table st.queue outputs w.queue_in_range;
    queue_distinct = queues.queue_after-distinct is_value l s laws sys os st.table st.queue w.queue_distinct;
    tickets = each_filter (IsTicket (joined_all l st.table os) st.takes) (λ u. not (has_number t.number u)) st.out (each_weaker (IsTicket st.table st.takes) (IsTicket (joined_all l st.table os) st.takes) ticket_up st.out w.tickets);
    numbers = ascends-filter (λ u. not (has_number t.number u)) st.out w.numbers;
    pending_or_stable = pending_after;
    bounded = bound (length (queue_after l s st.table st.queue os)) (length st.queue) st.takes s.nodes (all_ranks st.table) (all_ranks (joined_all l st.table os)) (give_backs_in st.journal) (give_backs_in (st.journal ++ Finish t.worker t.number ∷ []))
        (queues.queue_after-ranks is_value l s laws sys os st.table st.queue w.cells w.values fit) w.bounded (give_backs_in-push_finish st.journal t.worker t.number);
    counted = w.counted ∙ sym (takes_in-push_finish st.journal t.worker t.number);
  }
    where
      os : List (ℕ × V)
      os = local_of s t.node t.snapshot

      ticket : IsTicket st.table st.takes t
      ticket = each_in (IsTicket st.table st.takes) t st.out w.tickets i

      outputs : AllByRecursion (IsOutput s.cells) (local_of s t.node t.snapshot)
      outputs = sweeps.local_outputs is_value l s laws sys t.node t.snapshot ticket.node ticket.values

      fit : AllByRecursion (IsOutput (length st.table)) (local_of s t.node t.snapshot)
      fit = sweeps.outputs_at is_value l s laws sys st.table (local_of s t.node t.snapshot) w.cells outputs

      v1 : AreValues (joined_all l st.table (local_of s t.node t.snapshot))
      v1 = joins.joined_all_values is_value l laws (local_of s t.node t.snapshot) st.table w.values fit

      up : IsAtMost l st.table (joined_all l st.table (local_of s t.node t.snapshot))
      up = joins.joined_all_above is_value l laws (local_of s t.node t.snapshot) st.table w.values fit

      snapshot_up : (u : TicketView V) → IsTicket st.table st.takes u → (t' : List V) → AreValues t' → IsAtMost l st.table t' → IsUpTo u.snapshot (values_of l t' (s.needs u.node))
      snapshot_up u k t' v' h =
          joins.zip-trans is_value l laws u.snapshot (values_of l st.table (s.needs u.node)) (values_of l t' (s.needs u.node)) (each_from_all is_value u.snapshot k.values.1) (joins.values_of-values is_value l laws st.table w.values (s.needs u.node)) (joins.values_of-values is_value l laws t' v' (s.needs u.node)) k.at_most (joins.values_of-at_most is_value l laws st.table t' h (s.needs u.node))

      ticket_up : (u : TicketView V) → IsTicket st.table st.takes u → IsTicket (joined_all l st.table (local_of s t.node t.snapshot)) st.takes u
      ticket_up u k = record { node = k.node; values = k.values; at_most = snapshot_up u k _ v1 up; from_one = k.from_one; number = k.number }

      first_value : (t' : List V) (cs : List ℕ) → 0 < length cs → value_of l t' (slice_index cs 0) ≡ get_or (values_of l t' cs) 0 l.bottom
      first_value t' [] h = absurd (omega arith)
      first_value t' (c ∷ cs) h = refl

      still : (n : ℕ) → n < s.nodes → values_of l (joined_all l st.table (local_of s t.node t.snapshot)) (s.needs n) ≡ values_of l st.table (s.needs n) → IsPendingOrStable st n → IsPendingOrStable (finished l s st t) n
      still n h same (inl q) = inl (queues.queue_after-keeps is_value l s laws sys (local_of s t.node t.snapshot) st.table st.queue n q)
      still n h same (inr (inl o)) =
          elim (cases_eq o.0.number t.number) [
            | inr ne ↦ inr (inl (o.0, stays st.out t o.0 ne o.1, o.2, o.3 ∙ sym same))
            | inl e ↦
                let is_this : o.0 ≡ t = one_ticket st.out o.0 t w.numbers o.1 i e in
                let is_node : t.node ≡ n = ap (λ u. u.node) (sym is_this) ∙ o.2 in
                let is_snapshot : t.snapshot ≡ values_of l (joined_all l st.table (local_of s t.node t.snapshot)) (s.needs n) = ap (λ u. u.snapshot) (sym is_this) ∙ (o.3 ∙ sym same) in
                inr (inr (subst (λ xs. AllByRecursion (IsWithin (joined_all l st.table (local_of s t.node t.snapshot))) (local_of s n xs)) is_snapshot
                (subst (λ m. AllByRecursion (IsWithin (joined_all l st.table (local_of s t.node t.snapshot))) (local_of s m t.snapshot)) is_node
                (joins.joined_all_has is_value l laws (local_of s t.node t.snapshot) st.table w.values fit))))
          ]
      still n h same (inr (inr f)) =
          inr (inr (subst (λ xs. AllByRecursion (IsWithin (joined_all l st.table (local_of s t.node t.snapshot))) (local_of s n xs)) (sym same)
          (joins.within_up is_value l laws st.table (joined_all l st.table (local_of s t.node t.snapshot)) s.cells w.values v1 up (outputs_on l s st.table n) (sweeps.local_outputs is_value l s laws sys n _ h (sweeps.one_for_each is_value l s laws sys st.table w.values n)) f)))

      pending_after : (n : ℕ) → n < s.nodes → value_of l (joined_all l st.table (local_of s t.node t.snapshot)) (reached_cell s n) ≢ l.bottom → IsPendingOrStable (finished l s st t) n
      pending_after n h ne =
          elim (queues.needs_or_queued is_value l s laws sys (local_of s t.node t.snapshot) st.table st.queue n h w.values fit) [
            | inr q ↦ inl q
            | inl same ↦ still n h same (w.pending_or_stable n h (λ b. ne (first_value _ (s.needs n) (sys.has_reached_cell n h) ∙ (ap (λ xs. get_or xs 0 l.bottom) same ∙ (sym (first_value st.table (s.needs n) (sys.has_reached_cell n h)) ∙ b)))))
          ]

      bound : (q' q t n a b g g' : ℕ) → q' + a ≤ q + b → t + q ≤ (n + a) + g → g' ≡ g → t + q' ≤ (n + b) + g'
      bound q' q t n a b g g' h k e = omega arith

  -- a ticket is given back
  pub given_back_sound : (st : State V) (t : TicketView V) → IsSound st → IsIn t st.out → IsSound (given_back st t)
  given_back_sound st t w i = record {
    cells = w.cells;
    values = w.values;
    starts = w.starts;
    below = w.below;
    queue_in_range = queues.with_node-each (λ n. n < s.nodes) st.queue t.node w.queue_in_range ticket.node;
    queue_distinct = queues.with_node-distinct st.queue t.node w.queue_distinct;
    tickets = each_filter (IsTicket st.table st.takes) (λ u. not (has_number t.number u)) st.out w.tickets;
    numbers = ascends-filter (λ u. not (has_number t.number u)) st.out w.numbers;
    pending_or_stable = λ n h ne. still n (w.pending_or_stable n h ne);
    bounded = bound (length (with_node st.queue t.node)) (length st.queue) st.takes (s.nodes + all_ranks st.table) (give_backs_in st.journal) (give_backs_in (st.journal ++ GiveBack t.worker t.number ∷ [])) (queues.with_node-length st.queue t.node) w.bounded (give_backs_in-push_give_back st.journal t.worker t.number);
    counted = w.counted ∙ sym (takes_in-push_give_back st.journal t.worker t.number);
  }
    where
      ticket : IsTicket st.table st.takes t
      ticket = each_in (IsTicket st.table st.takes) t st.out w.tickets i

      still : (n : ℕ) → IsPendingOrStable st n → IsPendingOrStable (given_back st t) n
      still n (inl q) = inl (queues.with_node-keeps st.queue t.node n q)
      still n (inr (inl o)) =
          elim (cases_eq o.0.number t.number) [
            | inr ne ↦ inr (inl (o.0, stays st.out t o.0 ne o.1, o.2, o.3))
            | inl e ↦
                let is_node : t.node ≡ n = ap (λ u. u.node) (sym (one_ticket st.out o.0 t w.numbers o.1 i e)) ∙ o.2 in
                inl (subst (λ m. list_any (nat_eq m) (with_node st.queue t.node) ≡ true) is_node (queues.has-with_node st.queue t.node))
          ]
      still n (inr (inr f)) = inr (inr f)

      bound : (q' q t b g g' : ℕ) → q' ≤ q + 1 → t + q ≤ b + g → g' ≡ suc g → t + q' ≤ b + g'
      bound q' q t b g g' h k e = omega arith

  -- each event keeps it
  pub step_sound : (st : State V) (event : Event) → IsSound st → IsSound (step l s st event)
  unfolding step
  step_sound st (Take worker node) w =
      elim (cases_Bool (is_next st.queue node)) [ inl t ↦ rw t (taken_sound st worker node w t) | inr f ↦ rw f w ]
  step_sound st (Finish worker number) w = go (find (is_given worker number) st.out) refl
    where
      go : (o : Option (TicketView V)) → find (is_given worker number) st.out ≡ o → IsSound (finished_if l s st o)
      go None e = w
      go (Some t) e = finished_sound st t w (find_passes (is_given worker number) st.out t e).0
  step_sound st (GiveBack worker number) w = go (find (is_given worker number) st.out) refl
    where
      go : (o : Option (TicketView V)) → find (is_given worker number) st.out ≡ o → IsSound (given_back_if st o)
      go None e = w
      go (Some t) e = given_back_sound st t w (find_passes (is_given worker number) st.out t e).0

  steps_sound : (events : List Event) (st : State V) → IsSound st → IsSound (steps l s st events)
  steps_sound [] st w = w
  steps_sound (event ∷ events) st w = steps_sound events (step l s st event) (step_sound st event w)

  pub replay_sound : (events : List Event) → IsSound (replay l s events)
  replay_sound events = steps_sound events (opened l s) opened_sound
