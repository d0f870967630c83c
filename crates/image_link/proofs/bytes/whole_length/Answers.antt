use Rattle.std.proofs.Common.{◌≡◌, ◌∙◌, ◌+◌, ap, arith, length, string_bytes, take}
use Rattle.std.specs.Prelude.{sum_by}
use Rattle.std.proofs.lemmas.List.{take_all}
use Rattle.image_link.proofs.Format.{length_is}
use Rattle.image_link.proofs.bytes.whole_length.Goals as goal

pub returns : goal.returns
returns c =
    let all : sum_by (λ text. 2 + length (string_bytes text)) (take c.loop-text.text-index c.texts-text-items.result.now)
    ≡ sum_by (λ text. 2 + length (string_bytes text)) c.texts-text-items.result.now =
    ap (sum_by (λ text. 2 + length (string_bytes text))) (take_all c.loop-text.text-index c.texts-text-items.result.now c.loop-text-test.false) in
    omega (
      arith,
      all,
      c.loop-text.invariant.length,
      ap length c.code.ensures,
      ap length c.functions.ensures,
      ap length c.exports.ensures,
      length_is c.texts-text-items.result.now c.args.image.now (c.texts-text-items.ensures.atoms ∙ c.atoms.ensures),
    )
