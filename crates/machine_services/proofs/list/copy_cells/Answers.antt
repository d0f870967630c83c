use Rattle.std.proofs.Common.{ap, subst, arith}
use Rattle.heap_terms.specs.Seen.{symbols_of, reference_of}
use Rattle.machine_services.specs.Ends.{FallsBelow, link_spine}
use Rattle.machine_services.specs.Lists.{spine_below}
use Rattle.machine_services.proofs.Frames.{copy_step}
use Rattle.machine_services.proofs.list.copy_cells.Goals as goal

pub loop-link-preserved : goal.loop-link-preserved
loop-link-preserved c =
    let i = c.loop-link.invariant.1 in
    let is = ap (link_spine (spine_below (symbols_of c.args.symbols.now) c.loop-link.heap)) c.in-Cell.is in (
      omega arith,
      copy_step (symbols_of c.args.symbols.now) c.args.at c.args.free c.args.tail _ c.loop-link.heap c.in-Cell.head (reference_of c.in-Cell.rest) c.link_at-link.result c.loop-link.left c.list_word.result c.loop-link.link
          i is (subst (FallsBelow c.args.at) c.in-Cell.is i.below) c.link_at-link.ensures.level c.link_at-link.ensures.falls c.list_word.ensures,
    )
