use Rattle.std.proofs.Common.{◌≤◌, [], Ok, Err, drop, ap, ◌∙◌, subst, arith, length-drop}
use Rattle.core_text.specs.Walks.{walk}
use Rattle.core_text.specs.Utf8.{ill_formed_from}
use Rattle.core_token.specs.Reading.{scan_step, scan_end, AnswersStep}
use Rattle.core_token.proofs.Cuts.{tokens_read, tokens_answered, fault_answered}
use Rattle.core_token.proofs.Valued.{stand_answered, order_answered}
use Rattle.core_token.proofs.Steps.{nothing_read, read_on, refused, all_read}
use Rattle.core_token.proofs.scan.tokens.Goals as goal

pub loop-scan-init : goal.loop-scan-init
loop-scan-init c =
    let text = c.args.text.now in
    let h = nothing_read text in
    let lines : c.start.result.line ≤ 1 = omega (arith, ap (λ p. p.line) c.start.ensures) in
    let columns : c.start.result.col ≤ 1 = omega (arith, ap (λ p. p.col) c.start.ensures) in
    record {
      rest = ap (λ ts. walk scan_step scan_end text 0 (record { tokens = ts; at = c.start.result; offset = 0 })) c.new.ensures ∙ ap (λ p. walk scan_step scan_end text 0 (record { tokens = []; at = p; offset = 0 })) c.start.ensures ∙ h.0;
      utf8 = ap (λ p. ill_formed_from p text) c.start.ensures ∙ h.1;
      within = omega arith;
      few_lines = lines;
      few_columns = columns;
    }

pub loop-scan-preserved : goal.loop-scan-preserved
loop-scan-preserved c =
    let text = c.args.text.now in
    let b = c.loop-scan.scan in
    let u = c.step.new.scan in
    let n = c.in-Ok.field-0 in
    let on = c.in-Ok.ensures.on in
    let h = read_on text b.offset b u n (c.loop-scan.invariant.rest, c.loop-scan.invariant.utf8) c.loop-scan-test.true on.0 (subst (λ s. AnswersStep s b u (Ok n)) c.rest_from-rest.ensures c.in-Ok.ensures.answer) in
    record {
      rest = ap (λ k. walk scan_step scan_end (drop k text) 0 u) on.2 ∙ h.0;
      utf8 = ap (λ k. ill_formed_from u.at (drop k text)) on.2 ∙ h.1;
      within = grind (arith, length-drop, on.1, on.2, c.rest_from-rest.ensures, c.loop-scan.invariant.within);
      few_lines = c.in-Ok.ensures.lines;
      few_columns = c.in-Ok.ensures.columns;
    }

pub returns-in-Err-clause-answer : goal.returns-in-Err-clause-answer
returns-in-Err-clause-answer c =
    refused c.args.text.now c.loop-scan.scan.offset c.loop-scan.scan c.step.new.scan c.in-Err.fault (c.loop-scan.invariant.rest, c.loop-scan.invariant.utf8) c.loop-scan-test.true
    (subst (λ s. AnswersStep s c.loop-scan.scan c.step.new.scan (Err c.in-Err.fault)) c.rest_from-rest.ensures c.in-Err.ensures.answer)

pub returns-in-Err-clause-fault : goal.returns-in-Err-clause-fault
returns-in-Err-clause-fault c = fault_answered c.args.text.now (Err c.in-Err.fault) (returns-in-Err-clause-answer c)

pub returns-clause-answer : goal.returns-clause-answer
returns-clause-answer c = all_read c.args.text.now c.loop-scan.scan.offset c.loop-scan.scan (c.loop-scan.invariant.rest, c.loop-scan.invariant.utf8) (omega (arith, c.loop-scan-test.false))

pub returns-clause-utf8 : goal.returns-clause-utf8
returns-clause-utf8 c = (tokens_read c.args.text.now c.loop-scan.scan.tokens (returns-clause-answer c)).0

pub returns-clause-tokens : goal.returns-clause-tokens
returns-clause-tokens c = tokens_answered c.args.text.now (Ok c.loop-scan.scan.tokens) (returns-clause-answer c)

pub returns-clause-stand : goal.returns-clause-stand
returns-clause-stand c = stand_answered c.args.text.now (Ok c.loop-scan.scan.tokens) (returns-clause-answer c)

pub returns-clause-order : goal.returns-clause-order
returns-clause-order c = order_answered c.args.text.now (Ok c.loop-scan.scan.tokens) (returns-clause-answer c)
