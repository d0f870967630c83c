use Rattle.std.proofs.Common.{◌∷◌, [], not, ap, sym, ◌∙◌, subst, rules}
use Rattle.std.specs.List.{list_any}
use Rattle.core_lint.specs.Keys.{IsKnown, key_of, keys, same_key}
use Rattle.core_lint.proofs.Known.{entered_known, restored_known, hides_is, keys-append, where_pushed}
use Rattle.core_lint.proofs.scope.Scope.enter.Goals as goal

-- there was no memory for the name, which is taken out again
pub invariant_of-self-then-new : goal.invariant_of-self-then-new
invariant_of-self-then-new c =
    subst (λ items. IsKnown items c.remove.new.self) (search rules)
    (restored_known c.self.inside.names.items c.self.inside.known c.insert.new.self c.remove.new.self c.args.name c.self.invariant (search rules) (search rules) (search rules))

pub invariant_of-self-else-is_err : goal.invariant_of-self-else-is_err
invariant_of-self-else-is_err c =
    subst (λ items. IsKnown items c.insert.new.self) (sym (where_pushed c.push.result _ _ c.if-is_err.ensures.value c.push.ensures.items))
    (entered_known c.self.inside.names.items c.self.inside.known c.insert.new.self c.args.name c.in-Ok.new c.self.invariant (search rules) (search rules))

pub returns-clause-entered : goal.returns-clause-entered
returns-clause-entered c =
    ap (keys []) (where_pushed c.push.result _ _ c.if-is_err.ensures.value c.push.ensures.items) ∙ keys-append [] c.self.inside.names.items (record { name = c.args.name; hides = not c.in-Ok.new }) ∙ ap (λ ks. key_of c.args.name ∷ ks) c.self.view_is

pub returns-clause-hides : goal.returns-clause-hides
returns-clause-hides c =
    hides_is c.self.inside.names.items c.self.inside.known c.args.name c.in-Ok.new c.self.invariant (search rules)
    ∙ ap (λ ks. list_any (λ k. same_key (key_of c.args.name) k) ks) c.self.view_is
