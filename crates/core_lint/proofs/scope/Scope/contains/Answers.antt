use Rattle.std.proofs.Common.{ap, ◌∙◌}
use Rattle.std.specs.List.{list_any}
use Rattle.core_lint.specs.Keys.{same_key, key_of}
use Rattle.core_lint.proofs.scope.Scope.contains.Goals as goal

-- a name is in scope if and only if the set has it
pub returns : goal.returns
returns c = c.contains.ensures ∙ c.self.invariant.0 c.args.name ∙ ap (λ ks. list_any (λ k. same_key (key_of c.args.name) k) ks) c.self.view_is
