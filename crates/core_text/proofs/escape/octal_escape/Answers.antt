use Rattle.std.proofs.Common.{◌≤◌, ◌<◌, take, subst, arith}
use Rattle.std.specs.List.{prefix_len}
use Rattle.core_text.specs.Bytes.{is_octal, number_from}
use Rattle.core_text.proofs.Numbers.{octal_small}
use Rattle.core_text.proofs.escape.octal_escape.Goals as goal

pub returns-in_err-value-clause-escape : goal.returns-in_err-value-clause-escape
returns-in_err-value-clause-escape c =
    let n = c.min-length.result in
    let few : n ≤ 3 = grind (arith, c.min-length.ensures) in
    let there : n ≤ prefix_len is_octal c.args.text.now = grind (arith, c.min-length.ensures, c.octal_digits.ensures.count) in
    let many : 511 < number_from 8 0 (take n c.args.text.now) = subst (λ ds. 511 < number_from 8 0 ds) c.prefix.ensures c.in_err-value.ensures.none in
    absurd (omega (arith, many, octal_small n c.args.text.now few there))
