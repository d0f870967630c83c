use Rattle.std.proofs.Common.{sym, arith}
use Rattle.core_token.proofs.Passing.{space_passed}
use Rattle.core_token.proofs.scan.blank_at.Goals as goal

pub returns-in-Some-clause-passed : goal.returns-in-Some-clause-passed
returns-in-Some-clause-passed c =
    space_passed c.args.text.now c.in-Some.b.now c.args.at c.moved.result (sym c.if-is_space.ensures) c.moved.ensures.place (grind (arith, c.in-Some.ensures)) (grind (arith, c.in-Some.ensures))
