use Rattle.std.proofs.Common.{◌≡◌, map}
use Rattle.std.specs.List.{range_with_len}
use Rattle.image_link.specs.Linking.{start_of}
use Rattle.image_link.proofs.linking.starts.Given as goal

abbrev pub invariant-loop-part : goal.invariant-loop-part
invariant-loop-part l = record {
  starts : l.starts.items ≡ map (start_of l.parts) (range_with_len 0 l.part-index);
  start : l.start ≡ start_of l.parts l.part-index;
}
