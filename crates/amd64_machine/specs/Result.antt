-- What a run answers, the lines of what was displayed, and the line of its result.
use Rattle.std.specs.Prelude.{ℕ, List, [], ◌++◌, flat_map, Option, Some, None, unwrap_or, codes}
use Rattle.hipe_terms.specs.Terms.{Term}
use Rattle.hipe_terms.specs.Shown.{Names}
use Rattle.hipe_terms.specs.Classes.{class_name}
use Rattle.machine_services.specs.Services.{Returned, Raised, HeapFull, StackFull}
use Rattle.machine_services.specs.Served.{line_of}
use Rattle.amd64_machine.specs.declared.machine.End.{End}
use Rattle.amd64_machine.specs.declared.machine.End.TheVariants as ends
use Rattle.amd64_machine.specs.Machine.{State, On, Over, Ending, ByService, MachineFault}

abbrev pub ending_answer : Ending → End
ending_answer (ByService (Returned value)) = ends.Returned
ending_answer (ByService (Raised class reason)) = ends.Raised class
ending_answer (ByService HeapFull) = ends.HeapFull
ending_answer (ByService StackFull) = ends.StackFull
ending_answer (MachineFault at) = ends.MachineFault at

-- the end of a run that is over
abbrev pub end_of : State → Option End
end_of (On at registers flags regions displayed) = None
end_of (Over ending displayed) = Some (ending_answer ending)

-- what a run answers
abbrev pub answer_of : State → End
answer_of state = unwrap_or (end_of state) ends.StepsSpent

-- the terms displayed so far
abbrev pub displayed_by : State → List Term
displayed_by (On at registers flags regions displayed) = displayed
displayed_by (Over ending displayed) = displayed

-- the state where these terms were displayed before
abbrev pub after : List Term → State → State
after ts (On at registers flags regions displayed) = On at registers flags regions (ts ++ displayed)
after ts (Over ending displayed) = Over ending (ts ++ displayed)

-- each term in a line of its own
abbrev pub lines : Names → List Term → List ℕ
lines names terms = flat_map (line_of names) terms

-- the run ended with a value or a raise
abbrev pub HasResult : State → Type 0
HasResult (Over (ByService (Returned value)) displayed) = Unit {0}
HasResult (Over (ByService (Raised class reason)) displayed) = Unit {0}
HasResult _ = ⊥

-- the line of the result that a run ended with, where it did
abbrev pub result_line : Names → State → List ℕ
result_line names (Over (ByService (Returned value)) displayed) = codes "value" ++ codes " " ++ line_of names value
result_line names (Over (ByService (Raised class reason)) displayed) = class_name class ++ codes " " ++ line_of names reason
result_line names _ = []
