use Rattle.std.proofs.Common.{sym, ap, ◌∙◌}
use Rattle.eval_values.specs.Results.{arity_in}
use Rattle.eval_contexts.proofs.Tables.{arity_at}
use Rattle.eval_contexts.proofs.program.Program.arity_of.Goals as goal

pub returns-in-Some : goal.returns-in-Some
returns-in-Some c = ap arity_in (sym c.in-Some.is ∙ c.number_at.ensures) ∙ arity_at c.args.self.now c.args.n

pub returns-in-None : goal.returns-in-None
returns-in-None c = ap arity_in (sym c.in-None.is ∙ c.number_at.ensures) ∙ arity_at c.args.self.now c.args.n
