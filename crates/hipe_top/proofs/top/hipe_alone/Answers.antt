use Rattle.hipe_stop.proofs.Inputs.{keeps_same}
use Rattle.hipe_top.proofs.Outcomes.{arguments_answered, arguments_not_written, line_answered, answered_accepts, err_answered, err_without_memory, err_not_read, err_not_written}
use Rattle.hipe_top.proofs.top.hipe_alone.Goals as goal

pub returns-in-None-clause-answered : goal.returns-in-None-clause-answered
returns-in-None-clause-answered g c = arguments_answered _ _ _ _ _ c.report.result _ c.in-None.ensures c.report.ensures

pub returns-in-None-clause-write_failed : goal.returns-in-None-clause-write_failed
returns-in-None-clause-write_failed g c = arguments_not_written _ _ _ _ _ c.report.result _ c.in-None.ensures c.report.ensures

pub returns-in-Ok-clause-answered : goal.returns-in-Ok-clause-answered
returns-in-Ok-clause-answered g c = λ itself.
    line_answered _ c.in-Some.mode c.in-Some.ensures _ _ _ (keeps_same _) c.answer_source.ensures c.in-Ok.field-0 c.in-Ok.is

pub returns-in-Ok-clause-usage : goal.returns-in-Ok-clause-usage
returns-in-Ok-clause-usage g c = λ bad. absurd (bad (c.in-Some.mode, c.in-Some.ensures))

pub returns-in-Ok-clause-accepts : goal.returns-in-Ok-clause-accepts
returns-in-Ok-clause-accepts g c = λ itself. answered_accepts _ _ _ _ _ (returns-in-Ok-clause-answered g c itself)

pub returns-in-Err-clause-answered : goal.returns-in-Err-clause-answered
returns-in-Err-clause-answered g c =
    err_answered _ c.in-Some.mode c.in-Some.ensures _ _ _ _ c.answer_source.ensures c.in-Err.stop c.in-Err.is c.report-in-Err.ensures

pub returns-in-Err-clause-out_of_memory : goal.returns-in-Err-clause-out_of_memory
returns-in-Err-clause-out_of_memory g c =
    err_without_memory _ c.in-Some.mode c.in-Some.ensures _ _ _ _ c.answer_source.ensures c.in-Err.stop c.in-Err.is c.report-in-Err.ensures

pub returns-in-Err-clause-read_failed : goal.returns-in-Err-clause-read_failed
returns-in-Err-clause-read_failed g c =
    err_not_read _ c.in-Some.mode c.in-Some.ensures _ _ _ _ c.answer_source.ensures c.in-Err.stop c.in-Err.is c.report-in-Err.ensures

pub returns-in-Err-clause-write_failed : goal.returns-in-Err-clause-write_failed
returns-in-Err-clause-write_failed g c =
    err_not_written _ c.in-Some.mode c.in-Some.ensures _ _ _ _ c.answer_source.ensures c.in-Err.stop c.in-Err.is c.report-in-Err.ensures

pub returns-in-Err-clause-usage : goal.returns-in-Err-clause-usage
returns-in-Err-clause-usage g c = λ bad. absurd (bad (c.in-Some.mode, c.in-Some.ensures))

pub returns-in-Err-clause-accepts : goal.returns-in-Err-clause-accepts
returns-in-Err-clause-accepts g c = λ itself. answered_accepts _ _ _ _ _ (returns-in-Err-clause-answered g c itself)
