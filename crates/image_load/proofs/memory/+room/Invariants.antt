use Rattle.std.proofs.Common.{◌≡◌, drop, map, sum}
use Rattle.hipe_terms.specs.Words.{words_of}
use Rattle.image_load.specs.Room.{left}
use Rattle.image_load.proofs.memory.+room.Given as goal

abbrev pub invariant-left_by_each-loop-part : goal.invariant-left_by_each-loop-part
invariant-left_by_each-loop-part l = left l.room (sum (map words_of (drop l.part-index l.parts))) ≡ left l.initial.room (sum (map words_of l.parts))
