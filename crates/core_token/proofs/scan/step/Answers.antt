use Rattle.std.proofs.Common.{◌≡◌, sym, arith}
use Rattle.core_token.specs.Reading.{blank_length}
use Rattle.core_token.proofs.Steps.{over_blank, over_token, stopped}
use Rattle.core_token.proofs.scan.step.Goals as goal

pub returns-then-blank-gt0-clause-answer : goal.returns-then-blank-gt0-clause-answer
returns-then-blank-gt0-clause-answer c =
    over_blank c.args.rest.now c.args.scan.now c.in-Ok.blank.length c.in-Ok.blank.at c.in-Ok.ensures.length (omega (arith, c.if-blank-gt0.true)) c.in-Ok.ensures.passed

pub returns-in-Err-lexeme_at-clause-answer : goal.returns-in-Err-lexeme_at-clause-answer
returns-in-Err-lexeme_at-clause-answer c =
    let none : blank_length c.args.rest.now ≡ 0 = omega (arith, c.in-Ok.ensures.length, c.if-blank-gt0.false) in
    stopped c.args.rest.now c.args.scan.now c.args.scan.now c.in-Err-lexeme_at.kind c.fault_at.result none (sym c.in-Err-lexeme_at.ensures.lexeme) c.fault_at.ensures

pub returns-clause-answer : goal.returns-clause-answer
returns-clause-answer c =
    let none : blank_length c.args.rest.now ≡ 0 = omega (arith, c.in-Ok.ensures.length, c.if-blank-gt0.false) in
    over_token c.args.rest.now c.args.scan.now c.in-Ok-lexeme_at.lexeme c.place_behind-scan.result c.push.new.self none (sym c.in-Ok-lexeme_at.ensures.lexeme) c.in_ok-push.ensures.ok c.place_behind-scan.ensures.passed
