use Rattle.std.proofs.Common.{◌≡◌, ◌++◌, string_bytes}
use Rattle.core_print.specs.Printed.{indentation}
use Rattle.core_print.proofs.piece.line.Given as goal

abbrev pub invariant-loop : goal.invariant-loop
invariant-loop l = string_bytes l.out ≡ string_bytes l.initial.out ++ indentation l.counter
