-- What follows for a state that is the replay of its journal.
use Rattle.std.proofs.Common.{◌≡◌, ℕ, suc, ◌+◌, ◌*◌, ◌<◌, ◌≤◌, inl, inr, true, List, [], ◌∷◌, ◌++◌, length, slice_index, slice_index_or, nat_eq, ◌==◌, IsTrue, refl, sym, ap, ◌∙◌, subst, arith, zero-le, true≢false, eqb-true, eq-eqb, take, drop}
use Rattle.std.specs.List.{All, AllByRecursion, list_any}
use Rattle.std.proofs.lemmas.Bool.{cases_Bool, false≢true, and_parts}
use Rattle.std.proofs.lemmas.List.{take_all, drop_all, append-nil}
use Rattle.lattice_laws.specs.Lattices.{LatticeMeaning, IsLattice}
use Rattle.lattice_laws.specs.Systems.{SystemMeaning, IsSystem, reached_cell}
use Rattle.coord_core.specs.declared.event.Event.{Event}
use Rattle.coord_core.specs.declared.event.Event.TheVariants.{Take, Finish, GiveBack}
use Rattle.coord_core.specs.Tickets.{TicketView}
use Rattle.coord_core.specs.Tables.{value_of, values_of, outputs_on, least, IsSolution, numbers_below}
use Rattle.coord_core.specs.States.{State, without, opened, taken, finished, given_back, finished_if, given_back_if, is_next, step, steps, replay, is_finished}
use Rattle.coord_core.specs.Bounds.{takes_in, give_backs_in, take_bound}
use Rattle.coord_core.proofs.Distinct.{total, total-sum_by, total_at_most, length-numbers_below}
use Rattle.coord_core.proofs.Joins as joins
use Rattle.coord_core.proofs.Sweeps as sweeps
use Rattle.coord_core.proofs.Queues as queues
use Rattle.coord_core.proofs.Sound as sound
use Rattle.coord_core.proofs.TicketLists.{IsIn, finds}

-- the ticket of a number goes
pub length-without : {V : Type 0} (ts : List (TicketView V)) (t : TicketView V) → IsIn t ts → length (without t.number ts) < length ts
length-without [] t h = absurd h
length-without (u ∷ ts) t (inl e) = rw (eq-eqb u.number t.number (ap (λ w. w.number) e)) (fewer (length (without t.number ts)) (length ts) (length-without_le ts t.number))
  where
    fewer : (m n : ℕ) → m ≤ n → m < suc n
    fewer m n h = omega arith

    length-without_le : {V : Type 0} (ts : List (TicketView V)) (n : ℕ) → length (without n ts) ≤ length ts
    length-without_le [] n = zero-le
    length-without_le (u ∷ ts) n = elim (cases_Bool (u.number == n)) [ inl e ↦ rw e (less (length (without n ts)) (length ts) (length-without_le ts n)) | inr e ↦ rw e (same (length (without n ts)) (length ts) (length-without_le ts n)) ]
      where
        less : (m n : ℕ) → m ≤ n → m ≤ suc n
        less m n h = omega arith

        same : (m n : ℕ) → m ≤ n → suc m ≤ suc n
        same m n h = omega arith
length-without (u ∷ ts) t (inr h) =
    elim (cases_Bool (u.number == t.number)) [ inl e ↦ rw e (less (length (without t.number ts)) (length ts) (length-without ts t h)) | inr e ↦ rw e (same (length (without t.number ts)) (length ts) (length-without ts t h)) ]
  where
    less : (m n : ℕ) → m < n → m < suc n
    less m n h = omega arith

    same : (m n : ℕ) → m < n → suc m < suc n
    same m n h = omega arith

pub takes_in_le : (es : List Event) → takes_in es ≤ length es
takes_in_le [] = zero-le
takes_in_le (Take a b ∷ es) = omega (arith, takes_in_le es)
takes_in_le (Finish a b ∷ es) = omega (arith, takes_in_le es)
takes_in_le (GiveBack a b ∷ es) = omega (arith, takes_in_le es)

module _ {V : Type 0} (is_value : V → Type 0) (l : LatticeMeaning V) (s : SystemMeaning V) (laws : IsLattice is_value l) (sys : IsSystem is_value l s) where
  abbrev IsSound : State V → Type 0
  IsSound = sound.IsSound is_value l s laws sys

  steps-push : (events : List Event) (st : State V) (event : Event) → steps l s st (events ++ event ∷ []) ≡ step l s (steps l s st events) event
  steps-push [] st event = refl
  steps-push (e ∷ events) st event = steps-push events (step l s st e) event

  pub replay-push : (events : List Event) (event : Event) → replay l s (events ++ event ∷ []) ≡ step l s (replay l s events) event
  replay-push events event = steps-push events (opened l s) event

  pub sound_state : (st : State V) → st ≡ replay l s st.journal → IsSound st
  sound_state st e = subst IsSound (sym e) (sound.replay_sound is_value l s laws sys st.journal)

  -- an event that is legal goes into the journal
  pub stepped : (st st' : State V) (event : Event) → st ≡ replay l s st.journal → st' ≡ step l s st event → st'.journal ≡ st.journal ++ event ∷ [] → st' ≡ replay l s st'.journal
  stepped st st' event e f j = f ∙ (ap (λ x. step l s x event) e ∙ (sym (replay-push st.journal event) ∙ ap (replay l s) (sym j)))

  -- the steps of the calls
  pub step-take : (st : State V) (worker node : ℕ) → is_next st.queue node ≡ true → step l s st (Take worker node) ≡ taken l s st worker node
  unfolding step
  step-take st worker node h = rw h refl

  pub step-finish : (st : State V) (t : TicketView V) → IsSound st → IsIn t st.out → step l s st (Finish t.worker t.number) ≡ finished l s st t
  unfolding step
  step-finish st t w h = ap (finished_if l s st) (finds st.out t w.numbers h)

  pub step-give_back : (st : State V) (t : TicketView V) → IsSound st → IsIn t st.out → step l s st (GiveBack t.worker t.number) ≡ given_back st t
  unfolding step
  step-give_back st t w h = ap (given_back_if st) (finds st.out t w.numbers h)

  -- the bound on takes
  all_ranks-bound : (t : List V) → joins.AreValues is_value l laws t → queues.all_ranks is_value l s laws sys t ≤ total (λ n. l.height * length (s.needs n)) (numbers_below s.nodes)
  all_ranks-bound t v =
      total_at_most (queues.needed_ranks is_value l s laws sys t) (λ n. l.height * length (s.needs n)) (λ n. each_need (s.needs n)) (numbers_below s.nodes)
    where
      each_need : (cs : List ℕ) → total (λ c. l.rank (value_of l t c)) cs ≤ l.height * length cs
      each_need [] = zero-le
      each_need (c ∷ cs) = one_more (l.rank (value_of l t c)) (total (λ c. l.rank (value_of l t c)) cs) l.height (length cs) (laws.rank_within _ (v c)) (each_need cs)
        where
          one_more : (r m h k : ℕ) → r ≤ h → m ≤ h * k → r + m ≤ h * suc k
          one_more r m h k p q = grind arith

  one_each : (f : ℕ → ℕ) (xs : List ℕ) → length xs + total f xs ≡ total (λ n. 1 + f n) xs
  one_each f [] = refl
  one_each f (x ∷ xs) = omega (arith, one_each f xs)

  pub takes_bounded : (st : State V) → IsSound st → takes_in st.journal ≤ take_bound l s + give_backs_in st.journal
  takes_bounded st w =
      bound (takes_in st.journal) st.takes (length st.queue) s.nodes (length (numbers_below s.nodes)) (queues.all_ranks is_value l s laws sys st.table) (total (λ n. l.height * length (s.needs n)) (numbers_below s.nodes)) (take_bound l s) (give_backs_in st.journal)
      (sym w.counted) w.bounded (length-numbers_below s.nodes) (all_ranks-bound st.table w.values) (one_each (λ n. l.height * length (s.needs n)) (numbers_below s.nodes) ∙ total-sum_by (λ n. 1 + l.height * length (s.needs n)) (numbers_below s.nodes))
    where
      bound : (j t q n m r h b g : ℕ) → j ≡ t → t + q ≤ (n + r) + g → m ≡ n → r ≤ h → m + h ≡ b → j ≤ b + g
      bound j t q n m r h b g e f i k o = omega arith

  -- where nothing waits and nothing is out
  none_of : {X : Type 0} (xs : List X) → (length xs == 0) ≡ true → xs ≡ []
  none_of [] e = refl
  none_of (x ∷ xs) e = absurd (not_zero (length xs) (eqb-true (suc (length xs)) 0 e))
    where
      not_zero : (n : ℕ) → suc n ≡ 0 → ⊥
      not_zero n e = omega arith

  pub finished_parts : (st : State V) → IsTrue (is_finished st) → (st.queue ≡ []) × (st.out ≡ [])
  finished_parts st h = let p = and_parts (length st.queue == 0) (length st.out == 0) h in (none_of st.queue p.0, none_of st.out p.1)

  stable : (st : State V) (n : ℕ) → st.queue ≡ [] → st.out ≡ [] → sound.IsPendingOrStable is_value l s laws sys st n → AllByRecursion (joins.IsWithin is_value l laws st.table) (outputs_on l s st.table n)
  stable st n q o (inl h) = absurd (true≢false (sym h ∙ ap (list_any (nat_eq n)) q))
  stable st n q o (inr (inl h)) = absurd (subst (IsIn h.0) o h.1)
  stable st n q o (inr (inr h)) = h

  pub at_rest : (st : State V) → IsSound st → IsTrue (is_finished st) → st.table ≡ least l s
  at_rest st w h =
      sweeps.same_table is_value l s laws sys st.table (least l s) w.cells (sweeps.length-least is_value l s laws sys) w.values (sweeps.least_values is_value l s laws sys) (w.below (least l s) (sweeps.least_solves is_value l s laws sys)) (sweeps.least_below is_value l s laws sys st.table solved)
    where
      parts : (st.queue ≡ []) × (st.out ≡ [])
      parts = finished_parts st h

      first_value : (cs : List ℕ) → 0 < length cs → value_of l st.table (slice_index cs 0) ≡ slice_index_or (values_of l st.table cs) 0 l.bottom
      first_value [] k = absurd (omega arith)
      first_value (c ∷ cs) k = refl

      each_is_bottom : (xs : List V) → All (λ v. v ≡ l.bottom) xs → AllByRecursion (λ v. v ≡ l.bottom) xs
      each_is_bottom [] a = tt
      each_is_bottom (x ∷ xs) a = (a 0 x (omega arith), each_is_bottom xs (λ k d h. a (suc k) d (omega arith)))

      node_done : (n : ℕ) → n < s.nodes → AllByRecursion (joins.IsWithin is_value l laws st.table) (outputs_on l s st.table n)
      node_done n k =
          elim (cases_Bool (l.at_most (value_of l st.table (reached_cell s n)) l.bottom)) [
            | inl t ↦
                joins.within_bottoms is_value l laws st.table w.values (s.gives n) (s.local n (values_of l st.table (s.needs n)))
                (each_is_bottom _ (sys.local_unreached n (values_of l st.table (s.needs n)) k (sweeps.one_for_each is_value l s laws sys st.table w.values n) (sym (first_value (s.needs n) (sys.has_reached_cell n k)) ∙ laws.antisymmetric _ _ (w.values (reached_cell s n)) laws.bottom_is_value t (laws.bottom_least _ (w.values (reached_cell s n))))))
            | inr f ↦ stable st n parts.0 parts.1 (w.pending_or_stable n k (λ e. false≢true (sym f ∙ (ap (λ x. l.at_most x l.bottom) e ∙ laws.reflexive l.bottom laws.bottom_is_value))))
          ]

      solved : IsSolution is_value l s st.table
      solved = sweeps.solves is_value l s laws sys st.table w.cells w.values w.starts node_done

-- a table that was written as a whole
pub written : {X : Type 0} (n : ℕ) (ws xs : List X) → n ≡ length xs → length ws ≡ length xs → take n (ws ++ drop (length ws) xs) ≡ ws
written n ws xs e f = rw (drop_all (length ws) xs (le f)) (rw (append-nil ws) (take_all n ws (le (e ∙ sym f))))
  where
    le : {m n : ℕ} → m ≡ n → n ≤ m
    le e = omega arith
