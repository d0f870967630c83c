use Rattle.std.proofs.Common.{◌≡◌}
use Rattle.eval_run.specs.Configurations.{goes_on}
use Rattle.eval_run.proofs.run.Evaluator.run.Given as goal

abbrev pub invariant-loop : goal.invariant-loop
invariant-loop l = goes_on l.self l.run l.next ≡ goes_on l.self l.fn.run l.fn.control
