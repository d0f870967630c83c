use Rattle.std.proofs.lemmas.Result.{IfOk-weaker}
use Rattle.core_sum.specs.Sums.{value}
use Rattle.amd64_machine.specs.Seen.{machine_of}
use Rattle.sum_code.specs.Code.{image_for, EndsWith}
use Rattle.sum_code.proofs.Meaning.{means}
use Rattle.sum_run.specs.Run.{IsReady}
use Rattle.sum_run.proofs.Running.{in_any_case, is_ready}
use Rattle.sum_run.proofs.run.ready.Goals as goal

pub returns-clause-meaning : goal.returns-clause-meaning
returns-clause-meaning c =
    in_any_case (EndsWith (image_for c.args.name.now c.args.e.now) (value c.args.e.now)) c.load.result (means c.args.name.now c.args.e.now c.requires.small c.requires.few)

pub returns-clause-ready : goal.returns-clause-ready
returns-clause-ready c =
    IfOk-weaker c.load.result _ (λ m. IsReady (image_for c.args.name.now c.args.e.now) (machine_of m))
    (λ m h. is_ready c.in_ok-image.image (image_for c.args.name.now c.args.e.now) c.in_ok-call.call c.in_ok-region.region (machine_of m) c.in_ok-image.ensures.image c.in_ok-call.ensures c.in_ok-region.ensures h)
    c.load.ensures
