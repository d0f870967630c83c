use Rattle.std.proofs.Common.{ap, sym, ◌∙◌, ◌++◌, string_bytes, encode_utf8_all}
use Rattle.std.proofs.lemmas.List.{drop_all}
use Rattle.core_reader.proofs.Texts.{chars_of}
use Rattle.core_reader.proofs.terminal.text_of.Goals as goal

pub returns : goal.returns
returns c =
    chars_of (string_bytes c.loop-point.text) c.args.points.now c.requires
    (ap (λ ds. string_bytes c.loop-point.text ++ encode_utf8_all ds) (sym (drop_all c.loop-point.point-index c.args.points.now c.loop-point-test.false)) ∙ c.loop-point.invariant.0)
