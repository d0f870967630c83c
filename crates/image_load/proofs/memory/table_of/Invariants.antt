use Rattle.std.proofs.Common.{◌≡◌, ◌++◌, drop}
use Rattle.image_load.specs.Loading.{table_of}
use Rattle.image_load.proofs.memory.table_of.Given as goal

abbrev pub invariant-loop-function : goal.invariant-loop-function
invariant-loop-function l = l.table.items ++ table_of (drop l.function-index l.functions) ≡ table_of l.functions
