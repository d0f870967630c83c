use Rattle.std.proofs.Common.{◌≡◌, ◌++◌, drop, map}
use Rattle.heap_terms.specs.Seen.{name_of}
use Rattle.image_load.specs.Loading.{definitions_of}
use Rattle.image_load.proofs.symbols.definitions_of.Given as goal

abbrev pub invariant-loop-function : goal.invariant-loop-function
invariant-loop-function l =
    map name_of l.names.items ++ definitions_of l.table (drop l.function-index l.functions) ≡ definitions_of l.table l.functions
