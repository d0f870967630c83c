-- How many tickets a coordinator gives at most.
use Rattle.std.specs.Prelude.{ℕ, suc, ◌+◌, ◌*◌, List, [], ◌∷◌, length, sum_by}
use Rattle.lattice_laws.specs.Lattices.{LatticeMeaning}
use Rattle.lattice_laws.specs.Systems.{SystemMeaning}
use Rattle.coord_core.specs.declared.event.Event.{Event}
use Rattle.coord_core.specs.declared.event.Event.TheVariants.{Take, Finish, GiveBack}
use Rattle.coord_core.specs.Tables.{numbers_below}

-- how many of the events are takes
abbrev pub takes_in : List Event → ℕ
takes_in [] = 0
takes_in (Take worker node ∷ events) = suc (takes_in events)
takes_in (Finish worker number ∷ events) = takes_in events
takes_in (GiveBack worker number ∷ events) = takes_in events

-- how many of the events give a ticket back
abbrev pub give_backs_in : List Event → ℕ
give_backs_in [] = 0
give_backs_in (Take worker node ∷ events) = give_backs_in events
give_backs_in (Finish worker number ∷ events) = give_backs_in events
give_backs_in (GiveBack worker number ∷ events) = suc (give_backs_in events)

-- one take for each node, and one for each rise that each of its needs can make
abbrev pub take_bound : {V : Type 0} → LatticeMeaning V → SystemMeaning V → ℕ
take_bound l s = sum_by (λ node. 1 + l.height * length (s.needs node)) (numbers_below s.nodes)
