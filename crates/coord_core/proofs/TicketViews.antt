-- Tickets in a list, and their views.
use Rattle.std.proofs.Common.{◌≡◌, ◌==◌, not, List, [], ◌∷◌, map, refl, ap, ℕ, inl, inr}
use Rattle.std.specs.List.{filter}
use Rattle.std.proofs.lemmas.Bool.{cases_Bool}
use Rattle.coord_core.specs.declared.ticket.Ticket.{Ticket}
use Rattle.coord_core.specs.Tickets.{ticket_view}
use Rattle.coord_core.specs.States.{without}

pub views-without : {V : Type 0} (number : ℕ) (ts : List (Ticket V)) → map ticket_view (filter (λ t. not (t.number == number)) ts) ≡ without number (map ticket_view ts)
views-without number [] = refl
views-without number (t ∷ ts) =
    elim (cases_Bool (t.number == number)) [ inl e ↦ rw e (views-without number ts) | inr e ↦ rw e (ap (λ us. ticket_view t ∷ us) (views-without number ts)) ]
