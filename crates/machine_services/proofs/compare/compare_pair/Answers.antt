use Rattle.std.proofs.Common.{Some, map, sym, ap, ◌∙◌, arith}
use Rattle.std.specs.declared.cmp.Ordering.TheVariants.{Equal}
use Rattle.heap_terms.specs.Parts.{size_below}
use Rattle.heap_terms.specs.Seen.{symbols_of, reference_of, one_seen}
use Rattle.machine_services.specs.Comparing.{compared_below, then_on}
use Rattle.machine_services.specs.Pending.{pending_seen, order_last, order_pending, opened}
use Rattle.machine_services.proofs.Comparing.{no_left, no_right, both_seen, goes_on, found_first, size_positive, opened_size, pushed_size, unseen}
use Rattle.machine_services.proofs.compare.compare_pair.Goals as goal

pub returns-in_default-clause-order : goal.returns-in_default-clause-order
returns-in_default-clause-order c =
    ap (λ r. then_on r (order_pending (symbols_of c.args.symbols.now) c.args.heap.now c.args.pending.now.items))
    (sym (no_left _ _ (reference_of c.args.a) (reference_of c.args.b) (sym c.shape_at.ensures ∙ unseen c.shape_at.result c.in_default.not-Some)))

pub returns-in_default-clause-falls : goal.returns-in_default-clause-falls
returns-in_default-clause-falls c =
    omega (arith, size_positive (symbols_of c.args.symbols.now) c.args.heap.now (reference_of c.args.a))

pub returns-in_default-shape_at-clause-order : goal.returns-in_default-shape_at-clause-order
returns-in_default-shape_at-clause-order c =
    ap (λ r. then_on r (order_pending (symbols_of c.args.symbols.now) c.args.heap.now c.args.pending.now.items))
    (sym (no_right _ _ (reference_of c.args.a) (reference_of c.args.b) (one_seen c.in-Some.left) (sym c.in-Some.ensures) (sym c.shape_at-2.ensures ∙ unseen c.shape_at-2.result c.in_default-shape_at.not-Some)))

pub returns-in_default-shape_at-clause-falls : goal.returns-in_default-shape_at-clause-falls
returns-in_default-shape_at-clause-falls c =
    omega (arith, size_positive (symbols_of c.args.symbols.now) c.args.heap.now (reference_of c.args.a))

pub returns-in_default-first_order : goal.returns-in_default-first_order
returns-in_default-first_order c =
    let s = one_seen c.in-Some.left in
    let t = one_seen c.in-Some-shape_at.right in
    let order = compared_below (symbols_of c.args.symbols.now) c.args.heap.now in
    record {
      order = found_first c.first_order.result (order (reference_of c.args.a) (reference_of c.args.b)) (order_last order (opened s t)) _
          (both_seen _ _ (reference_of c.args.a) (reference_of c.args.b) s t (sym c.in-Some.ensures) (sym c.in-Some-shape_at.ensures)
          ∙ ap (λ r. then_on (Some r) (order_last order (opened s t))) (sym c.first_order.ensures))
          c.in_default-first_order.not-Equal;
      falls = omega (arith, size_positive (symbols_of c.args.symbols.now) c.args.heap.now (reference_of c.args.a));
    }

pub returns-clause-order : goal.returns-clause-order
returns-clause-order c =
    let s = one_seen c.in-Some.left in
    let t = one_seen c.in-Some-shape_at.right in
    let order = compared_below (symbols_of c.args.symbols.now) c.args.heap.now in
    goes_on order Equal (order (reference_of c.args.a) (reference_of c.args.b)) (map pending_seen c.args.pending.now.items) (opened s t) (map pending_seen c.push_opened.new.pending.items)
    (both_seen _ _ (reference_of c.args.a) (reference_of c.args.b) s t (sym c.in-Some.ensures) (sym c.in-Some-shape_at.ensures)
    ∙ ap (λ r. then_on (Some r) (order_last order (opened s t))) (sym c.first_order.ensures ∙ c.in-Equal.is))
    c.in_ok-push_opened-in-Equal.ensures

pub returns-clause-falls : goal.returns-clause-falls
returns-clause-falls c =
    let s = one_seen c.in-Some.left in
    let t = one_seen c.in-Some-shape_at.right in
    pushed_size (size_below (symbols_of c.args.symbols.now) c.args.heap.now) (map pending_seen c.args.pending.now.items) (opened s t) (map pending_seen c.push_opened.new.pending.items) _
    c.in_ok-push_opened-in-Equal.ensures
    (opened_size (symbols_of c.args.symbols.now) c.args.heap.now (reference_of c.args.a) s t (sym c.in-Some.ensures))
