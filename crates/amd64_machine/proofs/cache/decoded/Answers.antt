use Rattle.std.proofs.Common.{◌∙◌, ap, sym, arith}
use Rattle.amd64_machine.specs.Fetch.{here}
use Rattle.amd64_machine.proofs.Fetching.{decoded_is_fetched, fetch_below, fetch_behind}
use Rattle.amd64_machine.proofs.cache.decoded.Goals as goal

pub returns-then-at-lt-CODE_BEGIN : goal.returns-then-at-lt-CODE_BEGIN
returns-then-at-lt-CODE_BEGIN c = sym (fetch_below c.args.code.now c.args.at c.if-at-lt-CODE_BEGIN.true)

pub returns-then-offset-code : goal.returns-then-offset-code
returns-then-offset-code c = sym (fetch_behind c.args.code.now c.args.at (omega (arith, c.if-offset-code.true, c.if-at-lt-CODE_BEGIN.false)))

pub returns-in-Ok : goal.returns-in-Ok
returns-in-Ok c =
    let d = c.decode.ensures in
    ap (here c.args.at) (sym c.in-Ok.is) ∙ decoded_is_fetched c.args.code.now c.args.at c.decode.result c.if-at-lt-CODE_BEGIN.false c.if-offset-code.false
    (record { found = d.found; length = d.length; ranges = d.ranges; short = d.short; unknown = d.unknown })

pub returns-in-Err : goal.returns-in-Err
returns-in-Err c =
    let d = c.decode.ensures in
    ap (here c.args.at) (sym c.in-Err.is) ∙ decoded_is_fetched c.args.code.now c.args.at c.decode.result c.if-at-lt-CODE_BEGIN.false c.if-offset-code.false
    (record { found = d.found; length = d.length; ranges = d.ranges; short = d.short; unknown = d.unknown })
