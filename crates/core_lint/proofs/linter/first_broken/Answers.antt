use Rattle.std.proofs.lemmas.Result.{IfOk-weaker}
use Rattle.core_ast.specs.Trees.{module_of}
use Rattle.core_lint.proofs.Linted.{linted}
use Rattle.core_lint.proofs.linter.first_broken.Goals as goal

pub returns : goal.returns
returns c = IfOk-weaker c.names.result _ _ (λ answer is. linted (module_of c.args.m.now) c.counts.result answer c.counts.ensures is) c.names.ensures
