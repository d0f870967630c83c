use Rattle.std.proofs.Common.{sym, ap, ◌∙◌}
use Rattle.std.specs.Prelude.{Some, None, is_some, slice_set}
use Rattle.std.specs.Option.{unwrap_or}
use Rattle.region_memory.specs.declared.region.Place.TheVariants as places
use Rattle.region_memory.specs.Regions.{Regions}
use Rattle.region_memory.proofs.Words.{write_as}
use Rattle.region_memory.proofs.region.Region.write.Goals as goal

pub returns-in-Some-Stack-clause-answer : goal.returns-in-Some-Stack-clause-answer
returns-in-Some-Stack-clause-answer c =
    ap is_some (sym (write_as c.args.self.now c.args.address c.args.word c.place.result (Some (places.Stack c.in-Some-Stack.at)) c.place.ensures.spot (c.in-Some-Stack.is ∙ ap Some c.in-Some-Stack.field-0-is)))

pub returns-in-Some-Stack-clause-regions : goal.returns-in-Some-Stack-clause-regions
returns-in-Some-Stack-clause-regions c =
    ap (λ (r : Regions). record r { stack = slice_set r.stack c.in-Some-Stack.at c.args.word }) c.self.view_is
    ∙ ap (λ o. unwrap_or o c.args.self.now) (sym (write_as c.args.self.now c.args.address c.args.word c.place.result (Some (places.Stack c.in-Some-Stack.at)) c.place.ensures.spot (c.in-Some-Stack.is ∙ ap Some c.in-Some-Stack.field-0-is)))

pub returns-in-Some-Heap-clause-answer : goal.returns-in-Some-Heap-clause-answer
returns-in-Some-Heap-clause-answer c =
    ap is_some (sym (write_as c.args.self.now c.args.address c.args.word c.place.result (Some (places.Heap c.in-Some-Heap.at)) c.place.ensures.spot (c.in-Some-Heap.is ∙ ap Some c.in-Some-Heap.field-0-is)))

pub returns-in-Some-Heap-clause-regions : goal.returns-in-Some-Heap-clause-regions
returns-in-Some-Heap-clause-regions c =
    ap (λ (r : Regions). record r { heap = slice_set r.heap c.in-Some-Heap.at c.args.word }) c.self.view_is
    ∙ ap (λ o. unwrap_or o c.args.self.now) (sym (write_as c.args.self.now c.args.address c.args.word c.place.result (Some (places.Heap c.in-Some-Heap.at)) c.place.ensures.spot (c.in-Some-Heap.is ∙ ap Some c.in-Some-Heap.field-0-is)))

pub returns-in-Some-Arguments-clause-answer : goal.returns-in-Some-Arguments-clause-answer
returns-in-Some-Arguments-clause-answer c =
    ap is_some (sym (write_as c.args.self.now c.args.address c.args.word c.place.result (Some (places.Arguments c.in-Some-Arguments.at)) c.place.ensures.spot (c.in-Some-Arguments.is ∙ ap Some c.in-Some-Arguments.field-0-is)))

pub returns-in-Some-Arguments-clause-regions : goal.returns-in-Some-Arguments-clause-regions
returns-in-Some-Arguments-clause-regions c =
    ap (λ (r : Regions). record r { arguments = slice_set r.arguments c.in-Some-Arguments.at c.args.word }) c.self.view_is
    ∙ ap (λ o. unwrap_or o c.args.self.now) (sym (write_as c.args.self.now c.args.address c.args.word c.place.result (Some (places.Arguments c.in-Some-Arguments.at)) c.place.ensures.spot (c.in-Some-Arguments.is ∙ ap Some c.in-Some-Arguments.field-0-is)))

pub returns-in-Some-Table-clause-answer : goal.returns-in-Some-Table-clause-answer
returns-in-Some-Table-clause-answer c =
    ap is_some (sym (write_as c.args.self.now c.args.address c.args.word c.place.result (Some (places.Table c.in-Some-Table.field-0-0)) c.place.ensures.spot (c.in-Some-Table.is ∙ ap Some c.in-Some-Table.field-0-is)))

pub returns-in-Some-Table-clause-regions : goal.returns-in-Some-Table-clause-regions
returns-in-Some-Table-clause-regions c =
    ap (λ o. unwrap_or o c.args.self.now) (sym (write_as c.args.self.now c.args.address c.args.word c.place.result (Some (places.Table c.in-Some-Table.field-0-0)) c.place.ensures.spot (c.in-Some-Table.is ∙ ap Some c.in-Some-Table.field-0-is)))

pub returns-in-Some-Code-clause-answer : goal.returns-in-Some-Code-clause-answer
returns-in-Some-Code-clause-answer c =
    ap is_some (sym (write_as c.args.self.now c.args.address c.args.word c.place.result (Some (places.Code c.in-Some-Code.field-0-0)) c.place.ensures.spot (c.in-Some-Code.is ∙ ap Some c.in-Some-Code.field-0-is)))

pub returns-in-Some-Code-clause-regions : goal.returns-in-Some-Code-clause-regions
returns-in-Some-Code-clause-regions c =
    ap (λ o. unwrap_or o c.args.self.now) (sym (write_as c.args.self.now c.args.address c.args.word c.place.result (Some (places.Code c.in-Some-Code.field-0-0)) c.place.ensures.spot (c.in-Some-Code.is ∙ ap Some c.in-Some-Code.field-0-is)))

pub returns-in-None-clause-answer : goal.returns-in-None-clause-answer
returns-in-None-clause-answer c = ap is_some (sym (write_as c.args.self.now c.args.address c.args.word c.place.result None c.place.ensures.spot c.in-None.is))

pub returns-in-None-clause-regions : goal.returns-in-None-clause-regions
returns-in-None-clause-regions c = ap (λ o. unwrap_or o c.args.self.now) (sym (write_as c.args.self.now c.args.address c.args.word c.place.result None c.place.ensures.spot c.in-None.is))
