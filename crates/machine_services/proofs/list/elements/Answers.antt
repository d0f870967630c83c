use Rattle.std.proofs.Common.{sym, ap, ◌∙◌}
use Rattle.heap_terms.specs.Seen.{symbols_of, reference_of}
use Rattle.machine_services.specs.Lists.{spine_at, spine_below}
use Rattle.machine_services.proofs.Spines.{put_before, put_more, put_all}
use Rattle.machine_services.proofs.list.elements.Goals as goal

pub loop-head-preserved : goal.loop-head-preserved
loop-head-preserved c =
    ap (λ l. put_before l (spine_below (symbols_of c.args.symbols.now) c.args.heap.now (reference_of c.in-Cell.tail))) c.in_ok-push.ensures.items
    ∙ put_more c.loop-head.found.items c.in-Cell.head _
    ∙ ap (put_before c.loop-head.found.items) (sym c.in-Cell.ensures.level)
    ∙ c.loop-head.invariant

pub returns : goal.returns
returns c =
    put_all (spine_below (symbols_of c.args.symbols.now) c.args.heap.now) c.link_at.result c.loop-head.found.items _ (spine_at (symbols_of c.args.symbols.now) c.args.heap.now c.args.word)
    c.link_at.ensures.level c.in_default.not-Cell c.loop-head.invariant c.requires.proper
