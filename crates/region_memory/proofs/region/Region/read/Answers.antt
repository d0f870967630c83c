use Rattle.std.proofs.Common.{◌≡◌, sym, ap, ◌∙◌, subst, refl, get_or, length, take, drop}
use Rattle.std.specs.Prelude.{Some, None}
use Rattle.std.specs.Int.{w64, from_le_bytes}
use Rattle.std.proofs.lemmas.Option.{slice_get_read}
use Rattle.region_memory.specs.declared.region.Place.TheVariants as places
use Rattle.region_memory.specs.Regions.{Regions}
use Rattle.region_memory.proofs.Words.{read_as}
use Rattle.region_memory.proofs.region.Region.read.Goals as goal

pub returns-in-Stack : goal.returns-in-Stack
returns-in-Stack c =
    let r = c.args.self.now in
    let lies = rw c.in-Stack.is at c.in_ok-word.ensures.lies in
    let value = subst (λ (r : Regions). c.index.result.now ≡ get_or r.stack c.in-Stack.word c.index.result.now) c.self.view_is c.index.ensures in
    sym (read_as r c.args.address c.place.result (Some (places.Stack c.in-Stack.word)) c.place.ensures.spot (c.in_ok-word.was ∙ ap Some c.in-Stack.is) ∙ slice_get_read r.stack (length r.stack) c.in-Stack.word c.index.result.now refl lies value)

pub returns-in-Heap : goal.returns-in-Heap
returns-in-Heap c =
    let r = c.args.self.now in
    let lies = rw c.in-Heap.is at c.in_ok-word.ensures.lies in
    let value = subst (λ (r : Regions). c.index-in-Heap.result.now ≡ get_or r.heap c.in-Heap.word c.index-in-Heap.result.now) c.self.view_is c.index-in-Heap.ensures in
    sym (read_as r c.args.address c.place.result (Some (places.Heap c.in-Heap.word)) c.place.ensures.spot (c.in_ok-word.was ∙ ap Some c.in-Heap.is) ∙ slice_get_read r.heap (length r.heap) c.in-Heap.word c.index-in-Heap.result.now refl lies value)

pub returns-in-Arguments : goal.returns-in-Arguments
returns-in-Arguments c =
    let r = c.args.self.now in
    let lies = rw c.in-Arguments.is at c.in_ok-word.ensures.lies in
    let value = subst (λ (r : Regions). c.index-in-Arguments.result.now ≡ get_or r.arguments c.in-Arguments.word c.index-in-Arguments.result.now) c.self.view_is c.index-in-Arguments.ensures in
    sym (read_as r c.args.address c.place.result (Some (places.Arguments c.in-Arguments.word)) c.place.ensures.spot (c.in_ok-word.was ∙ ap Some c.in-Arguments.is) ∙ slice_get_read r.arguments (length r.arguments) c.in-Arguments.word c.index-in-Arguments.result.now refl lies value)

pub returns-in-Table : goal.returns-in-Table
returns-in-Table c =
    let r = c.args.self.now in
    let lies = rw c.in-Table.is at c.in_ok-word.ensures.lies in
    let value = subst (λ (r : Regions). c.index-in-Table.result.now ≡ get_or r.table c.in-Table.word c.index-in-Table.result.now) c.self.view_is c.index-in-Table.ensures in
    sym (read_as r c.args.address c.place.result (Some (places.Table c.in-Table.word)) c.place.ensures.spot (c.in_ok-word.was ∙ ap Some c.in-Table.is) ∙ slice_get_read r.table (length r.table) c.in-Table.word c.index-in-Table.result.now refl lies value)

pub returns-in-Code : goal.returns-in-Code
returns-in-Code c =
    let r = c.args.self.now in
    let bytes = c.deref.ensures.value ∙ ap (λ (r : Regions). r.code) c.self.view_is in
    let value = c.word_of_code.ensures ∙ ap (λ s. from_le_bytes w64 (take 8 (drop c.in-Code.byte s))) bytes in
    sym (read_as r c.args.address c.place.result (Some (places.Code c.in-Code.byte)) c.place.ensures.spot (c.in_ok-word.was ∙ ap Some c.in-Code.is) ∙ ap Some (sym value))

pub returns-in_err-word : goal.returns-in_err-word
returns-in_err-word c = c.from_residual.ensures ∙ sym (read_as c.args.self.now c.args.address c.place.result None c.place.ensures.spot c.in_err-word.was)
