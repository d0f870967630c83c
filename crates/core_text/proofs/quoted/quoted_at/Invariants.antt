use Rattle.std.proofs.Common.{◌≡◌, ◌≤◌, ◌-◌, length, drop}
use Rattle.core_text.specs.Walks.{walk}
use Rattle.core_text.specs.Quotes.{quoted_step, no_quote, nothing}
use Rattle.core_text.proofs.quoted.quoted_at.Given as goal

abbrev pub invariant-loop-length : goal.invariant-loop-length
invariant-loop-length l = record {
  rest : walk (quoted_step l.quote) no_quote (drop l.length l.text) 0 (record { length = l.length; code_points = l.code_points }) ≡ walk (quoted_step l.quote) no_quote l.text 0 nothing;
  within : l.length ≤ length l.text;
  few : l.code_points ≤ l.length;
}

abbrev pub decreases-loop-length : goal.decreases-loop-length
decreases-loop-length l = length l.text - l.length
