use Rattle.std.proofs.Common.{◌≡◌, ◌∙◌, ap, sym}
use Rattle.std.specs.Prelude.{None, Some}
use Rattle.image_link.specs.Atoms.{number_of}
use Rattle.image_load.specs.Entry.{exported_numbered}
use Rattle.image_load.proofs.Exports.{found_by_number, none_by_name}
use Rattle.image_load.proofs.entry.exported.Goals as goal

pub returns-in_err-number-clause-first : goal.returns-in_err-number-clause-first
returns-in_err-number-clause-first c =
    let none : number_of c.args.call.now.name c.args.image.now.atoms ≡ None =
    ap (number_of c.args.call.now.name) (sym c.atoms.ensures) ∙ sym c.number.ensures ∙ c.in_err-number.was in
    c.from_residual.ensures ∙ sym (none_by_name c.args.image.now c.args.call.now.name _ c.args.image.now.exports c.rules.ensures none)

pub returns-clause-first : goal.returns-clause-first
returns-clause-first c =
    let some : number_of c.args.call.now.name c.args.image.now.atoms ≡ Some c.in_ok-number.number =
    ap (number_of c.args.call.now.name) (sym c.atoms.ensures) ∙ sym c.number.ensures ∙ c.in_ok-number.was in
    c.exported_numbered.ensures.first
    ∙ ap (λ functions. exported_numbered functions c.in_ok-number.number c.len.result c.exports.result.now) c.functions.ensures
    ∙ ap (λ arity. exported_numbered c.args.image.now.functions c.in_ok-number.number arity c.exports.result.now) c.len.ensures
    ∙ ap (exported_numbered c.args.image.now.functions c.in_ok-number.number _) c.exports.ensures
    ∙ found_by_number c.args.image.now c.args.call.now.name c.in_ok-number.number _ c.args.image.now.exports c.rules.ensures some
