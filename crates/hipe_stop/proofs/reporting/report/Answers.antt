use Rattle.hipe_stop.specs.declared.stop.Stop.{Stop}
use Rattle.hipe_stop.proofs.Lines.{plain}
use Rattle.hipe_stop.proofs.reporting.report.Goals as goal

pub returns-in-TooLong : goal.returns-in-TooLong
returns-in-TooLong g c = plain c.args.stop Stop.TooLong _ _ c.in-TooLong.is (λ r. r) c.end-in-TooLong.ensures

pub returns-in-ReadFault : goal.returns-in-ReadFault
returns-in-ReadFault g c = plain c.args.stop Stop.ReadFault _ _ c.in-ReadFault.is (λ r. r) c.end-in-ReadFault.ensures

pub returns-in-WriteFault : goal.returns-in-WriteFault
returns-in-WriteFault g c = plain c.args.stop Stop.WriteFault _ _ c.in-WriteFault.is (λ r. r) c.end-in-WriteFault.ensures

pub returns-in-Memory : goal.returns-in-Memory
returns-in-Memory g c = plain c.args.stop Stop.Memory _ _ c.in-Memory.is (λ r. r) c.end-in-Memory.ensures
