use Rattle.std.proofs.Common.{Some, map, ap, sym, ◌∙◌, subst, ◌<◌, ◌+◌}
use Rattle.heap_terms.specs.Parts.{size_below}
use Rattle.heap_terms.specs.Seen.{symbols_of}
use Rattle.heap_terms.specs.Shapes.{parts}
use Rattle.machine_services.specs.Comparing.{compared_below, then_on}
use Rattle.machine_services.specs.Pending.{pending_seen, pending_order, pending_size, order_last, size_last, parted}
use Rattle.machine_services.proofs.Comparing.{parts_split, goes_on, parted_size, pushed_size}
use Rattle.machine_services.proofs.compare.compare_next.Goals as goal

pub returns-in_ok-compare_parts-in-Parts-clause-order : goal.returns-in_ok-compare_parts-in-Parts-clause-order
returns-in_ok-compare_parts-in-Parts-clause-order c =
    let left = parts c.in-Parts.left.below c.in-Parts.left.words.now in
    let right = parts c.in-Parts.right.below c.in-Parts.right.words.now in
    let order = compared_below (symbols_of c.args.symbols.now) c.args.heap.now in
    goes_on order c.in_ok-compare_parts-in-Parts.field-0 (pending_order order (pending_seen c.args.next)) (map pending_seen c.args.pending.now.items) (parted left right) (map pending_seen c.compare_parts.new.pending.items)
    (ap (λ p. pending_order order (pending_seen p)) c.in-Parts.is ∙ parts_split order left right ∙ ap (λ r. then_on (Some r) (order_last order (parted left right))) (sym c.in_ok-compare_parts-in-Parts.ensures.found))
    c.in_ok-compare_parts-in-Parts.ensures.pushed

pub returns-in_ok-compare_parts-in-Parts-clause-falls : goal.returns-in_ok-compare_parts-in-Parts-clause-falls
returns-in_ok-compare_parts-in-Parts-clause-falls c =
    let left = parts c.in-Parts.left.below c.in-Parts.left.words.now in
    let right = parts c.in-Parts.right.below c.in-Parts.right.words.now in
    let size = size_below (symbols_of c.args.symbols.now) c.args.heap.now in
    subst (λ p. size_last size (map pending_seen c.compare_parts.new.pending.items) < pending_size size (pending_seen p) + size_last size (map pending_seen c.args.pending.now.items)) (sym c.in-Parts.is)
    (pushed_size size (map pending_seen c.args.pending.now.items) (parted left right) (map pending_seen c.compare_parts.new.pending.items) _
    c.in_ok-compare_parts-in-Parts.ensures.pushed
    (parted_size size left right))
