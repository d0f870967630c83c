use Rattle.std.proofs.Common.{sym, subst}
use Rattle.amd64_machine.proofs.Results.{IsResult, has_result}
use Rattle.amd64_machine_tests.proofs.tried.Goals as goal

pub write_result-requires : goal.write_result-requires
write_result-requires c = has_result c.args.steps _ c.run.new.self _ c.run.result c.run.ensures.run (subst IsResult (sym c.in-Returned.is) tt)

pub write_result-requires-in-Raised : goal.write_result-requires-in-Raised
write_result-requires-in-Raised c = has_result c.args.steps _ c.run.new.self _ c.run.result c.run.ensures.run (subst IsResult (sym c.in-Raised.is) tt)
