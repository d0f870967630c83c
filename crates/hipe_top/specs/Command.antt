-- The arguments of the program's commands.
use Rattle.std.specs.Prelude.{◌≡◌, ℕ, List, [], ◌∷◌, codes}
use Rattle.hipe_top.specs.declared.arguments.Mode.{Mode}
use Rattle.hipe_top.specs.declared.arguments.Mode.TheVariants.{Check, Run}

-- the arguments of each mode: `check`, and `run` with the call `'main'()`
abbrev pub arguments_of : Mode → List (List ℕ)
arguments_of Check = codes "check" ∷ []
arguments_of Run = codes "run" ∷ codes "'main'()" ∷ []

-- the arguments are those of a mode
abbrev pub IsCommand : List (List ℕ) → Type 0
IsCommand arguments = (mode : Mode) × (arguments ≡ arguments_of mode)
