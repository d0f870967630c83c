use Rattle.std.proofs.Common.{arith}
use Rattle.core_text.proofs.Numbers.{times_small}
use Rattle.core_text.proofs.bytes.number_up_to.Goals as goal

pub overflow_mul-more : goal.overflow_mul-more
overflow_mul-more c = omega (arith, times_small c.loop-d.n c.args.base c.args.most c.loop-d.invariant.within c.requires.small c.requires.small_base)

pub overflow_add-more : goal.overflow_add-more
overflow_add-more c = omega (arith, times_small c.loop-d.n c.args.base c.args.most c.loop-d.invariant.within c.requires.small c.requires.small_base)
