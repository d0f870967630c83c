use Rattle.std.proofs.Common.{◌≡◌, ◌≤◌, ◌<◌, drop}
use Rattle.core_text.specs.CodePoints.{with_bits}
use Rattle.core_text.proofs.code_point.with_bits.Given as goal

abbrev pub invariant-loop-b : goal.invariant-loop-b
invariant-loop-b l = record {
  rest : with_bits l.bits (drop l.b-index l.bytes) ≡ with_bits l.fn.bits l.bytes;
  before_first : l.b-index ≤ 0 → l.bits < 128;
  before_second : l.b-index ≤ 1 → l.bits < 8320;
  before_third : l.b-index ≤ 2 → l.bits < 532608;
  behind_third : l.b-index ≤ 3 → l.bits < 34087040;
}
