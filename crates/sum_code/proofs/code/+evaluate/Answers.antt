use Rattle.std.proofs.Common.{◌∙◌, ◌++◌, ap}
use Rattle.sum_code.specs.Code.{evaluation, bytes_of}
use Rattle.sum_code.proofs.Emission.{on_ok, plus_appended}
use Rattle.sum_code.proofs.code.+evaluate.Goals as goal

pub returns-in_ok-evaluate-in-Plus-2 : goal.returns-in_ok-evaluate-in-Plus-2
returns-in_ok-evaluate-in-Plus-2 t c =
    on_ok c.add.result c.add.ensures (λ last.
    plus_appended c.args.e.now c.in-Plus.a c.in-Plus.b c.args.code.now.items c.evaluate.new.code.items c.put-in-Plus.new.code.items c.evaluate-in-Plus.new.code.items c.add.new.code.items
    c.in-Plus.is
    (c.in_ok-evaluate-in-Plus.ensures ∙ ap (λ e. c.args.code.now.items ++ bytes_of (evaluation e)) c.get.ensures)
    c.in_ok-put-in-Plus.ensures
    (c.in_ok-evaluate-in-Plus-2.ensures ∙ ap (λ e. c.put-in-Plus.new.code.items ++ bytes_of (evaluation e)) c.get-in-Plus.ensures)
    last)
