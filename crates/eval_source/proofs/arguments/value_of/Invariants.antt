use Rattle.std.proofs.Common.{◌≡◌, ◌<◌, ◌^◌, drop}
use Rattle.eval_source.specs.Arguments.{with_digits}
use Rattle.eval_source.proofs.arguments.value_of.Given as goal

abbrev pub invariant-loop-b : goal.invariant-loop-b
invariant-loop-b l = record {
  fits : l.n < 2 ^ 64;
  same_value : with_digits l.n (drop l.b-index l.digits) ≡ with_digits 0 l.digits;
}
