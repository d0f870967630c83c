use Rattle.std.proofs.Common.{◌∙◌, sym, arith}
use Rattle.heap_terms.specs.Parts.{size_below}
use Rattle.heap_terms.specs.Seen.{symbols_of}
use Rattle.machine_services.specs.Comparing.{compared, compared_below}
use Rattle.machine_services.proofs.Comparing.{decided, undecided, taken, taken_size}
use Rattle.machine_services.proofs.compare.compare.Goals as goal

pub returns-then-decides : goal.returns-then-decides
returns-then-decides c =
    decided c.in_ok-found.found (compared (symbols_of c.args.symbols.now) c.args.heap.now c.args.a c.args.b) _ _
    (sym c.decides.ensures ∙ c.if-decides.true)
    c.in_ok-found.ensures.order
    (taken (compared_below (symbols_of c.args.symbols.now) c.args.heap.now) c.pop.new.self.items c.in-Some.next c.loop-next.pending.items _ c.in-Some.ensures.items c.loop-next.invariant)

pub loop-next-preserved : goal.loop-next-preserved
loop-next-preserved c =
    undecided c.in_ok-found.found (compared (symbols_of c.args.symbols.now) c.args.heap.now c.args.a c.args.b) _ _
    (sym c.decides.ensures ∙ c.if-decides.false)
    c.in_ok-found.ensures.order
    (taken (compared_below (symbols_of c.args.symbols.now) c.args.heap.now) c.pop.new.self.items c.in-Some.next c.loop-next.pending.items _ c.in-Some.ensures.items c.loop-next.invariant)

pub loop-next-smaller : goal.loop-next-smaller
loop-next-smaller c =
    let e = taken_size (size_below (symbols_of c.args.symbols.now) c.args.heap.now) c.pop.new.self.items c.in-Some.next c.loop-next.pending.items c.in-Some.ensures.items in
    omega (arith, e, c.in_ok-found.ensures.falls)
