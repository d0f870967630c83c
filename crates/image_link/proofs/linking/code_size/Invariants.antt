use Rattle.std.proofs.Common.{◌≡◌, ◌+◌, ◌-◌, ◌^◌, min, length, take}
use Rattle.std.specs.Prelude.{sum_by}
use Rattle.image_link.specs.Code.{exit_bytes}
use Rattle.image_link.specs.Linking.{size}
use Rattle.image_link.proofs.linking.code_size.Given as goal

abbrev pub invariant-loop-part : goal.invariant-loop-part
invariant-loop-part l = l.size ≡ min (length exit_bytes + sum_by size (take l.part-index l.parts)) (2 ^ 64 - 1)
