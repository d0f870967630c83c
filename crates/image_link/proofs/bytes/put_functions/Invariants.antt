use Rattle.std.proofs.Common.{◌≡◌, ◌++◌, drop}
use Rattle.std.specs.Prelude.{flat_map}
use Rattle.image_link.specs.Format.{function_bytes}
use Rattle.image_link.proofs.bytes.put_functions.Given as goal

abbrev pub invariant-loop-function : goal.invariant-loop-function
invariant-loop-function l =
    l.bytes.items ++ flat_map (function_bytes) (drop l.function-index l.functions) ≡ l.initial.bytes.items ++ flat_map (function_bytes) l.functions
