use Rattle.eval_contexts.proofs.Tables.{arities_are}
use Rattle.eval_contexts.proofs.program.Program.ground.Goals as goal

pub returns : goal.returns
returns c = arities_are c.args.self.now
