use Rattle.std.proofs.Common.{[], drop, ap, sym, ◌∙◌, subst, rules}
use Rattle.core_lint.specs.Keys.{IsKnown, keys}
use Rattle.core_lint.proofs.Known.{left_known, shown_known, keys-append}
use Rattle.core_lint.proofs.scope.Scope.leave.Goals as goal

pub invariant_of-self : goal.invariant_of-self
invariant_of-self c =
    left_known c.pop.new.self.items c.self.inside.known c.remove.new.self c.in-Some.last
    (subst (λ items. IsKnown items c.self.inside.known) c.in-Some.ensures.items c.self.invariant) (search rules) c.remove.ensures.updates

pub invariant_of-self-else-not-last : goal.invariant_of-self-else-not-last
invariant_of-self-else-not-last c =
    shown_known c.pop.new.self.items c.self.inside.known c.in-Some.last
    (subst (λ items. IsKnown items c.self.inside.known) c.in-Some.ensures.items c.self.invariant) (search rules)

pub returns-then-not-last : goal.returns-then-not-last
returns-then-not-last c = sym (ap (λ ks. drop 1 ks) (sym c.self.view_is ∙ ap (keys []) c.in-Some.ensures.items ∙ keys-append [] c.pop.new.self.items c.in-Some.last))

pub returns-else-not-last : goal.returns-else-not-last
returns-else-not-last c = sym (ap (λ ks. drop 1 ks) (sym c.self.view_is ∙ ap (keys []) c.in-Some.ensures.items ∙ keys-append [] c.pop.new.self.items c.in-Some.last))
