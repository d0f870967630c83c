use Rattle.std.proofs.Common.{◌≡◌, ◌≤◌, ◌+◌, drop}
use Rattle.core_text.specs.Places.{place_after}
use Rattle.core_text.proofs.place.place_after.Given as goal

abbrev pub invariant-loop-b : goal.invariant-loop-b
invariant-loop-b l = record {
  rest : place_after l.at (drop l.b-index l.bytes) ≡ place_after l.initial.at l.bytes;
  few_lines : l.at.line ≤ l.initial.at.line + l.b-index;
  few_columns : l.at.col ≤ l.initial.at.col + l.b-index;
}
