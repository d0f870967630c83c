-- The theorem on histories, in the words of its contract.
use Rattle.std.proofs.Common.{◌≡◌, ℕ, ◌+◌, ◌<◌, ◌≤◌, ◌⊎◌, inl, inr, List, [], ◌∷◌, ◌++◌, map, length, nat_eq, IsTrue, refl, sym, ap, ◌∙◌, subst, arith, eq-eqb}
use Rattle.std.specs.List.{AllByRecursion, AllZip, Contains, IsDistinct}
use Rattle.std.specs.List.Sorted.{IsStrictlyIncreasing}
use Rattle.lattice_laws.specs.Lattices.{LatticeMeaning, IsLattice}
use Rattle.lattice_laws.specs.Systems.{SystemMeaning, IsSystem}
use Rattle.coord_core.specs.declared.event.Event.TheVariants.{Take, Finish}
use Rattle.coord_core.specs.declared.ticket.Ticket.{Ticket}
use Rattle.coord_core.specs.Tickets.{TicketView, FinishedView, ticket_view}
use Rattle.coord_core.specs.Tables.{values_of, IsAtMost, outputs_on, least}
use Rattle.coord_core.specs.States.{State, without, taken, finished, step, replay}
use Rattle.coord_core.specs.Bounds.{give_backs_in, take_bound}
use Rattle.coord_core.specs.declared.answers.Taken.{Taken}
use Rattle.coord_core.specs.declared.answers.Taken.TheVariants.{Idle, Done}
use Rattle.coord_core.specs.declared.answers.Ended.{Ended}
use Rattle.coord_core.specs.declared.answers.Ended.TheVariants.{Joined, Stranger as NotOut}
use Rattle.coord_core.specs.Answers.{IsGot, IsTake, IsEnd}
use Rattle.coord_core.specs.Facts.{AreWithin, SnapshotsAreAtMost, IsPendingOrStable, ReachedNodesArePendingOrStable, numbers_out, NumbersRise, IsAdvance}
use Rattle.coord_core.proofs.Lists.{all_from_each, each_weaker}
use Rattle.coord_core.proofs.Distinct.{distinct_from_increasing}
use Rattle.coord_core.proofs.Sweeps as sweeps
use Rattle.coord_core.proofs.Sound as sound
use Rattle.coord_core.proofs.Histories as histories
use Rattle.coord_core.proofs.TicketLists.{IsIn, contains_from_in, in_last, increasing-numbers}

module _ {V : Type 0} (is_value : V → Type 0) (l : LatticeMeaning V) (s : SystemMeaning V) (laws : IsLattice is_value l) (sys : IsSystem is_value l s) where
  abbrev IsSound : State V → Type 0
  IsSound = sound.IsSound is_value l s laws sys

  pub at_most_least : (st : State V) → IsSound st → IsAtMost l st.table (least l s)
  at_most_least st w = w.below (least l s) (sweeps.least_solves is_value l s laws sys)

  pub at_least_starts : (st : State V) → IsSound st → AreWithin l st.table s.starts
  at_least_starts st w = all_from_each _ s.starts w.starts

  pub snapshots : (st : State V) → IsSound st → SnapshotsAreAtMost l s st
  snapshots st w =
      all_from_each _ st.out (each_weaker (sound.IsTicket is_value l s laws sys st.table st.takes) (λ t. AllZip (λ x y. IsTrue (l.at_most x y)) t.snapshot (values_of l st.table (s.needs t.node))) (λ t i. i.at_most) st.out w.tickets)

  as_stated : (st : State V) (node : ℕ) → sound.IsPendingOrStable is_value l s laws sys st node → IsPendingOrStable l s st node
  as_stated st node (inl q) = inl q
  as_stated st node (inr (inl o)) = inr (inl (o.0, contains_from_in o.0 st.out o.1, o.2, o.3))
  as_stated st node (inr (inr f)) = inr (inr (all_from_each _ (outputs_on l s st.table node) f))

  pub pending_or_stable : (st : State V) → IsSound st → ReachedNodesArePendingOrStable l s st
  pending_or_stable st w node h ne = as_stated st node (w.pending_or_stable node h ne)

  each_number : (table : List V) (takes : ℕ) (ts : List (TicketView V)) → AllByRecursion (sound.IsTicket is_value l s laws sys table takes) ts → AllByRecursion (λ n. (1 ≤ n) × (n ≤ takes)) (map (λ t. t.number) ts)
  each_number table takes [] a = tt
  each_number table takes (t ∷ ts) a = ((a.0.from_one, a.0.number), each_number table takes ts a.1)

  rising : (st : State V) → IsSound st → IsStrictlyIncreasing (numbers_out st)
  rising st w = increasing-numbers st.out w.numbers

  pub numbers : (st : State V) → IsSound st → NumbersRise st
  numbers st w = (all_from_each _ (numbers_out st) (each_number st.table st.takes st.out w.tickets), rising st w)

  pub distinct : (st : State V) → IsSound st → IsDistinct nat_eq (numbers_out st)
  distinct st w = distinct_from_increasing (numbers_out st) (rising st w)

  -- one ticket was taken with nothing out, and finished
  pub advances : (st st1 st2 : State V) (worker : ℕ) (t : Ticket V) → st ≡ replay l s st.journal → st.out ≡ [] → IsGot l s st worker t st1 → st2 ≡ step l s st1 (Finish t.worker t.number) → IsAdvance l s st st2
  advances st st1 st2 worker t is_replay none got e =
      subst (IsAdvance l s st) (sym whole) (record {
        none_out = left;
        one_more = refl;
        same_give_backs = sound.give_backs_in-push_finish (st.journal ++ Take worker t.node ∷ []) given.worker given.number ∙ sound.give_backs_in-push_take st.journal worker t.node;
        bounded = subst (λ n. n ≤ take_bound l s + give_backs_in last.journal) (sym last_sound.counted) (histories.takes_bounded is_value l s laws sys last last_sound);
      })
    where
      before : IsSound st
      before = histories.sound_state is_value l s laws sys st is_replay

      given : TicketView V
      given = record { number = st.takes + 1; node = t.node; worker = worker; snapshot = values_of l st.table (s.needs t.node) }

      between : State V
      between = taken l s st worker t.node

      first : st1 ≡ taken l s st worker t.node
      first = got.stepped ∙ histories.step-take is_value l s laws sys st worker t.node got.next

      between_sound : IsSound (taken l s st worker t.node)
      between_sound = sound.taken_sound is_value l s laws sys st worker t.node before got.next

      here : IsIn (record { number = st.takes + 1; node = t.node; worker = worker; snapshot = values_of l st.table (s.needs t.node) }) (taken l s st worker t.node).out
      here = in_last _ st.out

      last : State V
      last = finished l s (taken l s st worker t.node) (record { number = st.takes + 1; node = t.node; worker = worker; snapshot = values_of l st.table (s.needs t.node) })

      last_sound : IsSound (finished l s (taken l s st worker t.node) (record { number = st.takes + 1; node = t.node; worker = worker; snapshot = values_of l st.table (s.needs t.node) }))
      last_sound = sound.finished_sound is_value l s laws sys (taken l s st worker t.node) (record { number = st.takes + 1; node = t.node; worker = worker; snapshot = values_of l st.table (s.needs t.node) }) between_sound here

      whole : st2 ≡ finished l s (taken l s st worker t.node) (record { number = st.takes + 1; node = t.node; worker = worker; snapshot = values_of l st.table (s.needs t.node) })
      whole =
          e ∙ (ap (λ x. step l s x (Finish t.worker t.number)) first
          ∙ (ap (λ w. step l s (taken l s st worker t.node) (Finish w t.number)) got.worker
          ∙ (ap (λ n. step l s (taken l s st worker t.node) (Finish worker n)) got.number
          ∙ histories.step-finish is_value l s laws sys (taken l s st worker t.node) (record { number = st.takes + 1; node = t.node; worker = worker; snapshot = values_of l st.table (s.needs t.node) }) between_sound here)))

      left : without (st.takes + 1) (st.out ++ record { number = st.takes + 1; node = t.node; worker = worker; snapshot = values_of l st.table (s.needs t.node) } ∷ []) ≡ []
      left = rw none (rw (eq-eqb (st.takes + 1) (st.takes + 1) refl) refl)

  -- the ticket that was taken is out
  pub got_is_out : (st st1 : State V) (worker : ℕ) (t : Ticket V) → IsGot l s st worker t st1 → Contains st1.out (ticket_view t)
  got_is_out st st1 worker t got =
      subst (λ x. Contains x.out (ticket_view t)) (sym (got.stepped ∙ histories.step-take is_value l s laws sys st worker t.node got.next))
      (subst (Contains (taken l s st worker t.node).out) (sym same) (contains_from_in _ (taken l s st worker t.node).out (in_last _ st.out)))
    where
      same : ◌≡◌ {A = TicketView V} (ticket_view t) (record { number = st.takes + 1; node = t.node; worker = worker; snapshot = values_of l st.table (s.needs t.node) })
      same =
          ap (λ n. record { number = n; node = t.node; worker = t.worker; snapshot = t.snapshot.items }) got.number
          ∙ (ap (λ w. record { number = st.takes + 1; node = t.node; worker = w; snapshot = t.snapshot.items }) got.worker ∙ ap (λ xs. record { number = st.takes + 1; node = t.node; worker = worker; snapshot = xs }) got.snapshot)

  -- nothing waits and nothing is out
  pub done : (st : State V) → st ≡ replay l s st.journal → st.queue ≡ [] → st.out ≡ [] → st.table ≡ least l s
  done st is_replay q o = histories.at_rest is_value l s laws sys st (histories.sound_state is_value l s laws sys st is_replay) (rw (q, o) refl)

  -- a take with nothing out that gave no ticket
  pub nothing_left : (st st1 : State V) (worker : ℕ) (answer : Taken V) → st ≡ replay l s st.journal → st.out ≡ [] → IsTake l s st worker answer st1 → ((n : ℕ) × (answer ≡ Idle n)) ⊎ (answer ≡ Done) → st1.table ≡ least l s
  nothing_left st st1 worker answer is_replay none take (inl i) =
      let idle : IsTake l s st worker (Idle i.0) st1 = subst (λ a. IsTake l s st worker a st1) i.1 take in
      absurd (none_idle i.0 (length st.out) idle.1 (ap length none) idle.2)
    where
      none_idle : (n m : ℕ) → n ≡ m → m ≡ 0 → 0 < n → ⊥
      none_idle n m e f h = omega arith
  nothing_left st st1 worker answer is_replay none take (inr e) =
      let nothing : IsTake l s st worker Done st1 = subst (λ a. IsTake l s st worker a st1) e take in
      ap (λ x. x.table) nothing.2 ∙ done st is_replay nothing.0 nothing.1

  -- a finish of a ticket that is out
  pub ended : {A : Type 0} (st1 st2 : State V) (f : FinishedView V) (answer : Ended A V) (t : TicketView V) → f.ticket ≡ t → Contains st1.out t → IsEnd l s st1 f answer st2 → st2 ≡ step l s st1 (Finish t.worker t.number)
  ended st1 st2 f (Joined n) t e h k = k.1 ∙ ap (λ u. step l s st1 (Finish u.worker u.number)) e
  ended st1 st2 f (NotOut n back) t e h k = absurd (k.0 (subst (Contains st1.out) (sym e) h))
