use Rattle.std.proofs.Common.{◌≡◌, ◌≤◌, ◌+◌, ◌-◌, length, drop}
use Rattle.core_text.specs.Walks.{walk}
use Rattle.core_text.specs.Utf8.{ill_formed_from, ill_formed}
use Rattle.core_token.specs.Reading.{scan_step, scan_end, scanned}
use Rattle.core_token.proofs.scan.tokens.Given as goal

abbrev pub invariant-loop-scan : goal.invariant-loop-scan
invariant-loop-scan l = record {
  rest : walk scan_step scan_end (drop l.scan.offset l.text) 0 l.scan ≡ scanned l.text;
  utf8 : ill_formed_from l.scan.at (drop l.scan.offset l.text) ≡ ill_formed l.text;
  within : l.scan.offset ≤ length l.text;
  few_lines : l.scan.at.line ≤ l.scan.offset + 1;
  few_columns : l.scan.at.col ≤ l.scan.offset + 1;
}

abbrev pub decreases-loop-scan : goal.decreases-loop-scan
decreases-loop-scan l = length l.text - l.scan.offset
