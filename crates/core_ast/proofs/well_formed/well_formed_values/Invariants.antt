use Rattle.std.proofs.Common.{◌≡◌, drop}
use Rattle.core_ast.specs.WellFormed.{well_formed_attributes}
use Rattle.core_ast.proofs.well_formed.well_formed_values.Given as goal

abbrev pub invariant-loop-attribute : goal.invariant-loop-attribute
invariant-loop-attribute l = well_formed_attributes (drop l.attribute-index l.list) ≡ well_formed_attributes l.list
