-- The text of what a run prints, and of how it ends.
use Rattle.std.specs.Prelude.{ℕ, List, [], ◌∷◌, ◌++◌, map, flat_map, codes, Option, Some, None}
use Rattle.hipe_terms.specs.Terms.{Term}
use Rattle.hipe_terms.specs.Shown.{Names, shown}
use Rattle.hipe_terms.specs.Classes.{class_name}
use Rattle.core_meaning.specs.Procedures.{Program}
use Rattle.core_meaning.specs.Meaning.{Ending}

-- the names of a module's own functions, by which its funs are shown
abbrev pub shown_names : Program → Names
shown_names program = map (λ f. (f.name, f.arity)) program.own

abbrev pub new_line : List ℕ
new_line = 10 ∷ []

-- each printed term on a line of its own
abbrev pub printed_lines : Names → List Term → List ℕ
printed_lines names ts = flat_map (λ t. shown names t ++ new_line) ts

-- the line of a run that returned one value or raised a class; no other run has one
abbrev pub result_line : Names → Ending → Option (List ℕ)
result_line names (Ending.values (t ∷ [])) = Some (codes "value " ++ shown names t ++ new_line)
result_line names (Ending.raised class reason) = Some (class_name class ++ codes " " ++ shown names reason ++ new_line)
result_line names e = None
