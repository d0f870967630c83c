use Rattle.std.proofs.Common.{None, sym, ap, ◌∙◌}
use Rattle.std.specs.Prelude.{if◌then◌else◌}
use Rattle.hipe_terms.specs.Bifs.{built_in, built_ins, first_named}
use Rattle.eval_contexts.proofs.table.built_in.Goals as goal

pub returns-then-has_text : goal.returns-then-has_text
unfolding built_in
returns-then-has_text c = c.first_named.ensures ∙ sym (ap (λ b. if b then first_named c.args.name.now c.args.arity built_ins else None) (sym c.has_text.ensures ∙ c.if-has_text.true))

pub returns-else-has_text : goal.returns-else-has_text
unfolding built_in
returns-else-has_text c = sym (ap (λ b. if b then first_named c.args.name.now c.args.arity built_ins else None) (sym c.has_text.ensures ∙ c.if-has_text.false))
