use Rattle.std.proofs.Common.{ap, ◌∙◌, arith}
use Rattle.core_text.specs.Places.{place_after}
use Rattle.core_token.proofs.Passing.{token_passed, plain_passed, closed_sort}
use Rattle.core_token.proofs.scan.place_behind.Goals as goal

pub returns-in-Atom-clause-passed : goal.returns-in-Atom-clause-passed
returns-in-Atom-clause-passed c =
    token_passed c.args.text.now c.args.lexeme c.args.at c.place_after.result c.requires.token (c.place_after.ensures.place ∙ ap (place_after c.args.at) c.prefix.ensures)

pub returns-in-Variable : goal.returns-in-Variable
returns-in-Variable c = record { passed = plain_passed c.args.text.now c.args.lexeme c.args.at c.requires.token (closed_sort c.args.lexeme.sort c.in-Variable.is); lines = omega arith; columns = omega arith }
