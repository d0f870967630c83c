use Rattle.std.proofs.Common.{sym, subst}
use Rattle.region_memory.specs.Regions.{IsWithinLimits}
use Rattle.region_memory.proofs.Words.{opened_parts, opened_within}
use Rattle.region_memory.proofs.region.Region.open.Goals as goal

pub invariant_of-result : goal.invariant_of-result
invariant_of-result c =
    subst IsWithinLimits
    (sym (opened_parts c.new.result.items c.new-2.result.items c.in_ok-zero_words.field-0.items c.in_ok-zero_words-2.field-0.items c.in_ok-zero_words-3.field-0.items c.args.heap c.args.stack c.new.ensures.items c.new-2.ensures.items c.in_ok-zero_words.ensures c.in_ok-zero_words-2.ensures c.in_ok-zero_words-3.ensures))
    (opened_within c.args.heap c.args.stack c.requires.heap c.requires.stack_least c.requires.stack)

pub returns : goal.returns
returns c = opened_parts c.new.result.items c.new-2.result.items c.in_ok-zero_words.field-0.items c.in_ok-zero_words-2.field-0.items c.in_ok-zero_words-3.field-0.items c.args.heap c.args.stack c.new.ensures.items c.new-2.ensures.items c.in_ok-zero_words.ensures c.in_ok-zero_words-2.ensures c.in_ok-zero_words-3.ensures
