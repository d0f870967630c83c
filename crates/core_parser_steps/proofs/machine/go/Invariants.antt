use Rattle.std.proofs.Common.{◌≡◌, length}
use Rattle.core_parser.specs.Machine.{move}
use Rattle.core_parser_steps.proofs.machine.go.Given as goal

abbrev pub invariant-loop-symbol : goal.invariant-loop-symbol
invariant-loop-symbol l = move l.symbols l.values l.t.kind l.t.at ≡ move l.fn.symbols l.fn.values l.t.kind l.t.at

abbrev pub decreases-loop-symbol : goal.decreases-loop-symbol
decreases-loop-symbol l = length l.symbols
