use Rattle.std.proofs.Common.{◌≡◌, ◌≤◌, ◌+◌, ◌*◌, length, string_bytes, take}
use Rattle.std.specs.Prelude.{sum_by}
use Rattle.image_link.proofs.bytes.whole_length.Given as goal

abbrev pub invariant-loop-text : goal.invariant-loop-text
invariant-loop-text l = record {
  length : l.length ≡ l.initial.length + sum_by (λ text. 2 + length (string_bytes text)) (take l.text-index l.text-items);
  bound : l.length ≤ l.initial.length + 1022 * l.text-index;
}
