use Rattle.std.proofs.Common.{◌≡◌, ◌≤◌, ◌+◌, ◌-◌, length, drop}
use Rattle.std.specs.List.{prefix_len}
use Rattle.core_text.specs.Bytes.{is_before_line_end}
use Rattle.core_text.specs.Utf8.{ArePassed}
use Rattle.core_token.proofs.scan.line_at.Given as goal

abbrev pub invariant-loop-length : goal.invariant-loop-length
invariant-loop-length l = record {
  passed : ArePassed l.text l.initial.at l.length l.at;
  line : prefix_len is_before_line_end l.text ≡ l.length + prefix_len is_before_line_end (drop l.length l.text);
  within : l.length ≤ length l.text;
  few_lines : l.at.line ≤ l.initial.at.line + l.length;
  few_columns : l.at.col ≤ l.initial.at.col + l.length;
}

abbrev pub decreases-loop-length : goal.decreases-loop-length
decreases-loop-length l = length l.text - l.length
