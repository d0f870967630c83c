use Rattle.sum_code.proofs.Emission.{whole_appended}
use Rattle.sum_code.proofs.code.code_of.Goals as goal

pub returns : goal.returns
returns c = whole_appended c.args.e.now c.new-code.result.items c.evaluate.new.code.items c.end.new.code.items c.new-code.ensures.items c.in_ok-evaluate.ensures c.in_ok-end.ensures
