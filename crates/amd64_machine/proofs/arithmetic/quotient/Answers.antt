use Rattle.std.proofs.Common.{rules}
use Rattle.std.specs.Prelude.{FitsSigned}
use Rattle.std.specs.Int.{w128}
use Rattle.amd64_machine.proofs.Division.{found, not_found}
use Rattle.amd64_machine.proofs.arithmetic.quotient.Goals as goal

pub returns-in-Ok : goal.returns-in-Ok
returns-in-Ok c =
    let fits = c.in-Ok.ensures in
    let wide : FitsSigned w128 c.wrapping_div.result = search rules in
    found c.args.dividend c.args.divisor c.wrapping_div.result c.from.result c.in-Ok.quotient c.ranges.dividend c.ranges.divisor wide c.from.ensures c.wrapping_div.ensures fits.0 fits.1

pub returns-in-Err : goal.returns-in-Err
returns-in-Err c =
    let wide : FitsSigned w128 c.wrapping_div.result = search rules in
    not_found c.args.dividend c.args.divisor c.wrapping_div.result c.from.result c.ranges.dividend c.ranges.divisor wide c.from.ensures c.wrapping_div.ensures c.in-Err.ensures
