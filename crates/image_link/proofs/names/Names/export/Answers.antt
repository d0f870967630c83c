use Rattle.std.proofs.Common.{◌<◌, ℕ, List, All, sym, subst}
use Rattle.image_link.specs.Names.{ProgramNames, AreNames, NamesDefinition}
use Rattle.image_link.proofs.Rules.{with_export_rules}
use Rattle.image_link.proofs.names.Names.export.Goals as goal

pub invariant_of-self-2 : goal.invariant_of-self-2
invariant_of-self-2 c =
    let before : ProgramNames = record {
      atoms = c.self.inside.atoms;
      module_atom = c.self.inside.module;
      functions = c.self.inside.functions.items;
      exports = c.self.inside.exports.items;
    } in
    let definition : NamesDefinition before.functions c.args.function =
    subst (λ n. NamesDefinition n.functions c.args.function) (sym c.self.view_is) c.requires.definition in
    let order : All (λ e. e < c.args.function) before.exports =
    subst (λ n. All (λ e. e < c.args.function) n.exports) (sym c.self.view_is) c.requires.order in
    let P : List ℕ → Type 0 = λ es. AreNames (record before { exports = es }) in
    subst P (sym c.in_ok-push.ensures.items) (with_export_rules before c.args.function c.self.invariant definition order)
