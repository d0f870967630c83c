use Rattle.std.proofs.Common.{◌<◌, ◌+◌, ◌^◌, sym, subst, length, arith, List, All}
use Rattle.image_link.specs.declared.names.FunctionEntry.{FunctionEntry}
use Rattle.image_link.specs.Names.{ProgramNames, AreNames, IsEntry, IsDefinition}
use Rattle.image_link.proofs.Rules.{with_function_rules}
use Rattle.image_link.proofs.names.Names.add.Goals as goal

pub invariant_of-self-2 : goal.invariant_of-self-2
invariant_of-self-2 c =
    let before : ProgramNames = record {
      atoms = c.self.inside.atoms;
      module_atom = c.self.inside.module;
      functions = c.self.inside.functions.items;
      exports = c.self.inside.exports.items;
    } in
    let few : length c.self.inside.functions.items + 1 < 2 ^ 32 = omega (arith, c.len-number.ensures, c.if-number.false) in
    let entry : IsEntry (length before.atoms) c.args.function = subst (λ n. IsEntry (length n.atoms) c.args.function) (sym c.self.view_is) c.requires.entry in
    let order : (IsDefinition c.args.function → All IsDefinition before.functions) =
    subst (λ n. IsDefinition c.args.function → All IsDefinition n.functions) (sym c.self.view_is) c.requires.order in
    let P : List FunctionEntry → Type 0 = λ fs. AreNames (record before { functions = fs }) in
    subst P (sym c.in_ok-push.ensures.items) (with_function_rules before c.args.function c.self.invariant entry order few)
