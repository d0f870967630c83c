-- What is printed reads back.
use Rattle.std.specs.Prelude.{◌≡◌, ℕ, List, true}
use Rattle.hipe_base.specs.declared.limits.TheConstants.{LEVEL_LIMIT}
use Rattle.core_ast.specs.declared.tree.Module.{Module}
use Rattle.core_ast.specs.Trees.{module_of}
use Rattle.core_ast.specs.SameTree.{SameTree}
use Rattle.core_ast.specs.WellFormed.{well_formed_attributes}
use Rattle.core_print.specs.Printed.{printed}
use Rattle.core_reader.specs.Language.{Reads}
use Rattle.core_round_trip.specs.Fits.{ModuleFits}

-- some text reads as this module, places aside
abbrev pub IsOfText : Module → Type 0
IsOfText m = (s : List ℕ) × (n : Module) × Reads s n × SameTree n m

-- a text reads as a module that differs from this one in places alone
abbrev pub ReadsBack : List ℕ → Module → Type 0
ReadsBack s m = (n : Module) × Reads s n × SameTree n m

-- where some text reads as a module, places aside, the text that it is printed as reads back
abbrev pub PrintedReadsBack : Type 0
PrintedReadsBack = (m : Module) → IsOfText m → ReadsBack (printed (module_of m)) m

-- a module whose parts, names and integers are within the limits of texts, and whose lists are as the reader gives them
abbrev pub IsWithinLimits : Module → Type 0
IsWithinLimits m = (well_formed_attributes m.attributes ≡ true) × ModuleFits LEVEL_LIMIT (module_of m)

-- where a module is within the limits, whether or not some text reads as it, the text that it is printed as reads back
abbrev pub WithinLimitsReadsBack : Type 0
WithinLimitsReadsBack = (m : Module) → IsWithinLimits m → ReadsBack (printed (module_of m)) m
