use Rattle.std.proofs.Common.{◌≡◌, ◌++◌, true, drop, string_bytes, encode_utf8_all}
use Rattle.std.specs.Str.{all_scalars}
use Rattle.core_reader.proofs.terminal.text_of.Given as goal

abbrev pub invariant-loop-point : goal.invariant-loop-point
invariant-loop-point l =
    (string_bytes l.text ++ encode_utf8_all (drop l.point-index l.points) ≡ encode_utf8_all l.points)
    × (all_scalars (drop l.point-index l.points) ≡ true)
