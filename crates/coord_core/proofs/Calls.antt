-- What the coordinator's calls leave is the step of their event.
use Rattle.std.proofs.Common.{◌≡◌, ℕ, ◌+◌, ◌<◌, ◌≤◌, ◌^◌, Bool, false, not, List, [], ◌∷◌, ◌++◌, map, length, drop, take, get_or, IsTrue, refl, sym, ap, ◌∙◌, subst, arith, Fits, w64, ◌==◌, true≢false, eq-eqb}
use Rattle.std.specs.List.{All, Contains, filter, zip}
use Rattle.std.proofs.lemmas.List.{map-append, length-map}
use Rattle.lattice_laws.specs.Lattices.{LatticeMeaning, IsLattice}
use Rattle.lattice_laws.specs.Systems.{SystemMeaning, IsSystem}
use Rattle.coord_core.specs.declared.event.Event.{Event}
use Rattle.coord_core.specs.declared.event.Event.TheVariants.{Take, Finish, GiveBack}
use Rattle.coord_core.specs.declared.ticket.Ticket.{Ticket}
use Rattle.coord_core.specs.Tickets.{TicketView, ticket_view}
use Rattle.coord_core.specs.Tables.{values_of, joined_all, local_of}
use Rattle.coord_core.specs.States.{State, is_next, with_node, queue_after, without, taken, finished, given_back, step, replay, risen}
use Rattle.coord_core.proofs.Joins as joins
use Rattle.coord_core.proofs.Histories as histories
use Rattle.coord_core.proofs.Sound as sound
use Rattle.coord_core.proofs.TicketLists.{in_from_contains, each_in}
use Rattle.coord_core.proofs.TicketViews.{views-without}

-- the tickets that are left where one ends
pub ended_views : {V : Type 0} (outs outs' : List (Ticket V)) (number : ℕ) → outs' ≡ filter (λ u. not (u.number == number)) outs → map ticket_view outs' ≡ without number (map ticket_view outs)
ended_views outs outs' number e = ap (map ticket_view) e ∙ views-without number outs

pub ended_fewer : {V : Type 0} (outs outs' : List (Ticket V)) (t : TicketView V) → outs' ≡ filter (λ u. not (u.number == t.number)) outs → Contains (map ticket_view outs) t → length outs' + 1 ≤ length outs
ended_fewer outs outs' t e h =
    fewer (length outs') (length outs) (length (map ticket_view outs')) (length (map ticket_view outs)) (length-map outs' ticket_view) (length-map outs ticket_view)
    (subst (λ ts. length ts < length (map ticket_view outs)) (sym (ended_views outs outs' t.number e)) (histories.length-without (map ticket_view outs) t (in_from_contains t (map ticket_view outs) h)))
  where
    fewer : (a b m n : ℕ) → m ≡ a → n ≡ b → m < n → a + 1 ≤ b
    fewer a b m n e f h = omega arith

-- the first ticket is out
pub first_is_out : {V : Type 0} (outs : List (Ticket V)) (t : Ticket V) → 0 < length outs → t ≡ get_or outs 0 t → Contains (map ticket_view outs) (ticket_view t)
first_is_out [] t h e = absurd (omega arith)
first_is_out (u ∷ outs) t h e = (0, omega arith, ap ticket_view (sym e))

pub not_empty : {X : Type 0} (xs : List X) (n : ℕ) (b : Bool) → n ≡ length xs → b ≡ (n == 0) → b ≡ false → 0 < length xs
not_empty [] n b e t f = absurd (true≢false (sym (eq-eqb n 0 e) ∙ (sym t ∙ f)))
not_empty (x ∷ xs) n b e t f = omega arith

pub fewer_views : {V : Type 0} (outs outs' : List (Ticket V)) → length outs' + 1 ≤ length outs → length (map ticket_view outs') + 1 ≤ length (map ticket_view outs)
fewer_views outs outs' h = rw (length-map outs' ticket_view, length-map outs ticket_view) h

module _ {V : Type 0} (is_value : V → Type 0) (l : LatticeMeaning V) (s : SystemMeaning V) (laws : IsLattice is_value l) (sys : IsSystem is_value l s) (st : State V) (is_replay : st ≡ replay l s st.journal) where
  pub is_sound : sound.IsSound is_value l s laws sys st
  is_sound = histories.sound_state is_value l s laws sys st is_replay

  -- the cells that a node needs are in the table
  pub needs_fit : (node : ℕ) (needs : List ℕ) (table : List V) → node < s.nodes → needs ≡ s.needs node → table ≡ st.table → All (λ cell. cell < length table) needs
  needs_fit node needs table h e f =
      subst (λ cs. All (λ cell. cell < length table) cs) (sym e) (subst (λ n. All (λ cell. cell < n) (s.needs node)) (sym (ap length f ∙ is_sound.cells)) (sys.needs_in_range node h))

  -- the next number fits where the journal has room for one more event
  pub next_number_fits : (room : ℕ) → length st.journal + 1 ≤ room → room < 2 ^ 63 → Fits w64 (st.takes + 1)
  next_number_fits room h k = bound st.takes (length st.journal) room (subst (λ n. n ≤ length st.journal) (sym is_sound.counted) (histories.takes_in_le st.journal)) h k
    where
      bound : (t j r : ℕ) → t ≤ j → j + 1 ≤ r → r < 2 ^ 63 → Fits w64 (t + 1)
      bound t j r h k i = omega arith

  -- a ticket that is out is of a node, and has a value for each of its needs
  pub out_ticket : (t : TicketView V) → Contains st.out t → sound.IsTicket is_value l s laws sys st.table st.takes t
  out_ticket t h = each_in (sound.IsTicket is_value l s laws sys st.table st.takes) t st.out is_sound.tickets (in_from_contains t st.out h)

  taken_state : (queue : List ℕ) (out : List (TicketView V)) (journal : List Event) (worker node : ℕ) → queue ≡ drop 1 st.queue → out ≡ st.out ++ record { number = st.takes + 1; node = node; worker = worker; snapshot = values_of l st.table (s.needs node) } ∷ [] → journal ≡ st.journal ++ Take worker node ∷ [] → ◌≡◌ {A = State V} record { table = st.table; queue = queue; out = out; takes = st.takes + 1; journal = journal } (taken l s st worker node)
  taken_state queue out journal worker node e f g = rw (e, f, g) refl

  pub takes_step : (queue : List ℕ) (outs : List (Ticket V)) (t : Ticket V) (out : List (Ticket V)) (journal : List Event) (worker node : ℕ) → IsTrue (is_next st.queue node) → queue ≡ drop 1 st.queue → map ticket_view outs ≡ st.out → out ≡ outs ++ t ∷ [] → ticket_view t ≡ record { number = st.takes + 1; node = node; worker = worker; snapshot = values_of l st.table (s.needs node) } → journal ≡ st.journal ++ Take worker node ∷ [] → ◌≡◌ {A = State V} record { table = st.table; queue = queue; out = map ticket_view out; takes = st.takes + 1; journal = journal } (step l s st (Take worker node))
  takes_step queue outs t out journal worker node next e o f v g =
      taken_state queue (map ticket_view out) journal worker node e
      (ap (map ticket_view) f ∙ (map-append ticket_view outs (t ∷ []) ∙ (ap (λ us. us ++ ticket_view t ∷ []) o ∙ ap (λ u. st.out ++ u ∷ []) v)))
      g
      ∙ sym (histories.step-take is_value l s laws sys st worker node next)

  pub ends_step : (t : TicketView V) (table : List V) (queue : List ℕ) (out : List (TicketView V)) (journal : List Event) → Contains st.out t → table ≡ joined_all l st.table (local_of s t.node t.snapshot) → queue ≡ queue_after l s st.table st.queue (local_of s t.node t.snapshot) → out ≡ without t.number st.out → journal ≡ st.journal ++ Finish t.worker t.number ∷ [] → ◌≡◌ {A = State V} record { table = table; queue = queue; out = out; takes = st.takes; journal = journal } (step l s st (Finish t.worker t.number))
  ends_step t table queue out journal h e f g j =
      finished_state t table queue out journal e f g j ∙ sym (histories.step-finish is_value l s laws sys st t is_sound (in_from_contains t st.out h))
    where
      finished_state : (t : TicketView V) (table : List V) (queue : List ℕ) (out : List (TicketView V)) (journal : List Event) → table ≡ joined_all l st.table (local_of s t.node t.snapshot) → queue ≡ queue_after l s st.table st.queue (local_of s t.node t.snapshot) → out ≡ without t.number st.out → journal ≡ st.journal ++ Finish t.worker t.number ∷ [] → ◌≡◌ {A = State V} record { table = table; queue = queue; out = out; takes = st.takes; journal = journal } (finished l s st t)
      finished_state t table queue out journal e f g j = rw (e, f, g, j) refl

  pub returns_step : (t : TicketView V) (queue : List ℕ) (out : List (TicketView V)) (journal : List Event) → Contains st.out t → queue ≡ with_node st.queue t.node → out ≡ without t.number st.out → journal ≡ st.journal ++ GiveBack t.worker t.number ∷ [] → ◌≡◌ {A = State V} record { table = st.table; queue = queue; out = out; takes = st.takes; journal = journal } (step l s st (GiveBack t.worker t.number))
  returns_step t queue out journal h e f j =
      given_back_state t queue out journal e f j ∙ sym (histories.step-give_back is_value l s laws sys st t is_sound (in_from_contains t st.out h))
    where
      given_back_state : (t : TicketView V) (queue : List ℕ) (out : List (TicketView V)) (journal : List Event) → queue ≡ with_node st.queue t.node → out ≡ without t.number st.out → journal ≡ st.journal ++ GiveBack t.worker t.number ∷ [] → ◌≡◌ {A = State V} record { table = st.table; queue = queue; out = out; takes = st.takes; journal = journal } (given_back st t)
      given_back_state t queue out journal e f j = rw (e, f, j) refl

  -- what a node made of the snapshot of a ticket that is out is one value for each cell that it gives
  pub outputs_fit : (t : TicketView V) (outputs : List V) → Contains st.out t → outputs ≡ s.local t.node t.snapshot → length outputs ≡ length (s.gives t.node)
  outputs_fit t outputs h e = ap length e ∙ (sys.local_gives t.node t.snapshot (out_ticket t h).node (out_ticket t h).values).0

  -- the table that is left where a slice of it was written
  pub table_after : (n : ℕ) (t : TicketView V) (before after outputs : List V) → n ≡ length st.table → before ≡ st.table → outputs ≡ s.local t.node t.snapshot → after ≡ joined_all l before (zip (s.gives t.node) outputs) → take n (after ++ drop (length after) st.table) ≡ joined_all l st.table (local_of s t.node t.snapshot)
  table_after n t before after outputs e b o f =
      histories.written n after st.table e (ap length whole ∙ joins.length-joined_all is_value l laws (local_of s t.node t.snapshot) st.table) ∙ whole
    where
      whole : after ≡ joined_all l st.table (local_of s t.node t.snapshot)
      whole = f ∙ (ap (λ u. joined_all l u (zip (s.gives t.node) outputs)) b ∙ ap (λ xs. joined_all l st.table (zip (s.gives t.node) xs)) o)

  pub queue_after_outputs : (t : TicketView V) (before outputs : List V) (queue : List ℕ) → before ≡ st.table → outputs ≡ s.local t.node t.snapshot → queue ≡ queue_after l s before st.queue (zip (s.gives t.node) outputs) → queue ≡ queue_after l s st.table st.queue (local_of s t.node t.snapshot)
  queue_after_outputs t before outputs queue b o f = f ∙ (ap (λ u. queue_after l s u st.queue (zip (s.gives t.node) outputs)) b ∙ ap (λ xs. queue_after l s st.table st.queue (zip (s.gives t.node) xs)) o)

  pub risen_after : (t : TicketView V) (before outputs : List V) (n : ℕ) → before ≡ st.table → outputs ≡ s.local t.node t.snapshot → n ≡ risen l before (zip (s.gives t.node) outputs) → n ≡ risen l st.table (local_of s t.node t.snapshot)
  risen_after t before outputs n b o f = f ∙ (ap (λ u. risen l u (zip (s.gives t.node) outputs)) b ∙ ap (λ xs. risen l st.table (zip (s.gives t.node) xs)) o)
