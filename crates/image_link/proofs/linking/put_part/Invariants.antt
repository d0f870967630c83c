use Rattle.std.proofs.Common.{◌≡◌, ◌+◌, ◌++◌, length, take}
use Rattle.std.specs.Prelude.{fold}
use Rattle.image_link.specs.Linking.{filled, size}
use Rattle.image_link.proofs.linking.put_part.Given as goal

abbrev pub invariant-loop-call : goal.invariant-loop-call
invariant-loop-call l = record {
  code : l.code.items ≡ l.fn.code.items ++ fold (filled l.starts l.start) l.part.bytes (take l.call-index l.part.calls);
  length : length l.code.items ≡ l.start + size l.part;
}
