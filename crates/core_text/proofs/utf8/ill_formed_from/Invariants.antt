use Rattle.std.proofs.Common.{◌≡◌, ◌≤◌, ◌+◌, ◌-◌, length, drop}
use Rattle.core_text.specs.Walks.{walk}
use Rattle.core_text.specs.Utf8.{character_step, no_place}
use Rattle.core_text.proofs.utf8.ill_formed_from.Given as goal

abbrev pub invariant-loop-offset : goal.invariant-loop-offset
invariant-loop-offset l = record {
  rest : walk character_step no_place (drop l.offset l.text) 0 l.at ≡ walk character_step no_place l.text 0 l.initial.at;
  few_lines : l.at.line ≤ l.initial.at.line + l.offset;
  few_columns : l.at.col ≤ l.initial.at.col + l.offset;
}

abbrev pub decreases-loop-offset : goal.decreases-loop-offset
decreases-loop-offset l = length l.text - l.offset
