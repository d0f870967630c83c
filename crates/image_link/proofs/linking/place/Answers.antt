use Rattle.std.proofs.Common.{◌≡◌, ◌∙◌, ◌<◌, ap, arith, length, get_or}
use Rattle.std.specs.Prelude.{None}
use Rattle.std.proofs.Math.Facts.{Fits-of_lt}
use Rattle.image_link.specs.Linking.{functions_from, start_of}
use Rattle.image_link.proofs.Parts.{function_placed, part_within, start_at, starts_length}
use Rattle.image_link.proofs.linking.place.Goals as goal

pub bounds-starts-number : goal.bounds-starts-number
bounds-starts-number c = omega (arith, ap length c.requires.starts, starts_length c.args.parts.now, c.requires.count, c.loop-number-test.true)

pub overflow_add-starts : goal.overflow_add-starts
overflow_add-starts c =
    let below : c.loop-number.number < length c.args.parts.now = omega (arith, c.requires.count, c.loop-number-test.true) in
    let start : get_or c.args.starts.now c.loop-number.number 0 ≡ start_of c.args.parts.now c.loop-number.number =
    ap (λ s. get_or s c.loop-number.number 0) c.requires.starts ∙ start_at c.args.parts.now c.loop-number.number 0 below in
    Fits-of_lt (omega (
      arith,
      start,
      part_within c.args.parts.now c.loop-number.number c.index-parts-number.result below,
      (c.requires.parts c.loop-number.number c.index-parts-number.result below).entry,
      c.requires.size,
    ))

pub loop-number-preserved : goal.loop-number-preserved
loop-number-preserved c =
    let below : c.loop-number.number < length c.args.parts.now = omega (arith, c.requires.count, c.loop-number-test.true) in
    let start : get_or c.args.starts.now c.loop-number.number 0 ≡ start_of c.args.parts.now c.loop-number.number =
    ap (λ s. get_or s c.loop-number.number 0) c.requires.starts ∙ start_at c.args.parts.now c.loop-number.number 0 below in
    function_placed c.args.parts.now c.args.starts.now c.args.entries.now c.loop-number.number (record { name = None; arity = 0; captured = 0 })
    c.index-parts-number.result c.loop-number.functions.items c.push.new.self.items
    (functions_from c.args.parts.now 0 c.args.entries.now c.args.parts.now)
    c.loop-number-test.true below start c.in_ok-push.ensures.items c.loop-number.invariant
