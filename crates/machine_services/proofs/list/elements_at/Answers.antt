use Rattle.std.proofs.Common.{◌<◌, length, Some, sym, ap, ◌∙◌, arith}
use Rattle.std.proofs.lemmas.Bool.Decides.{nat_tests}
use Rattle.heap_terms.specs.Seen.{symbols_of, one_seen}
use Rattle.heap_terms.specs.Shapes.{shape_at, from_outside}
use Rattle.machine_services.proofs.Tuples.{tuple_place}
use Rattle.machine_services.proofs.list.elements_at.Goals as goal

pub returns-else-is_empty : goal.returns-else-is_empty
returns-else-is_empty c =
    let some : 0 < length c.in-Tuple.elements.now = grind (arith, nat_tests) in
    tuple_place (symbols_of c.args.symbols.now) c.args.heap.now (from_outside c.args.heap.now c.args.word) c.in-Tuple.below c.in-Tuple.elements.now
    (ap (shape_at (symbols_of c.args.symbols.now) c.args.heap.now) (sym c.from_outside.ensures) ∙ sym c.in-Some.ensures ∙ ap (λ s. Some (one_seen s)) c.in-Tuple.is)
    some

pub overflow_add-result : goal.overflow_add-result
overflow_add-result c =
    let some : 0 < length c.in-Tuple.elements.now = grind (arith, nat_tests) in
    let place = tuple_place (symbols_of c.args.symbols.now) c.args.heap.now (from_outside c.args.heap.now c.args.word) c.in-Tuple.below c.in-Tuple.elements.now
    (ap (shape_at (symbols_of c.args.symbols.now) c.args.heap.now) (sym c.from_outside.ensures) ∙ sym c.in-Some.ensures ∙ ap (λ s. Some (one_seen s)) c.in-Tuple.is)
    some in
    omega (arith, place.0)
