use Rattle.std.proofs.Common.{◌≡◌, ◌++◌, drop, length}
use Rattle.image_link.specs.Code.{exit_bytes}
use Rattle.image_link.specs.Linking.{code_from, start_of}
use Rattle.image_link.proofs.linking.join.Given as goal

abbrev pub invariant-loop-part : goal.invariant-loop-part
invariant-loop-part l = record {
  code : l.code.items ++ code_from l.parts l.part-index (drop l.part-index l.parts) ≡ exit_bytes ++ code_from l.parts 0 l.parts;
  length : length l.code.items ≡ start_of l.parts l.part-index;
}
