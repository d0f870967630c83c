use Rattle.std.proofs.Common.{◌≡◌, ◌≤◌, ◌-◌, [], length, drop}
use Rattle.core_text.specs.Walks.{walk}
use Rattle.core_text.specs.CodePoints.{value_step, value_end}
use Rattle.core_text.proofs.code_point.values_between.Given as goal

abbrev pub invariant-loop-offset : goal.invariant-loop-offset
invariant-loop-offset l = record {
  rest : walk value_step value_end (drop l.offset l.text) 0 l.values.items ≡ walk value_step value_end l.text 0 [];
  within : l.offset ≤ length l.text;
}

abbrev pub decreases-loop-offset : goal.decreases-loop-offset
decreases-loop-offset l = length l.text - l.offset
