use Rattle.std.proofs.Common.{◌∙◌, ◌++◌, ◌∷◌, [], ap, sym, arith, map, zero-add}
use Rattle.std.specs.List.{range_with_len}
use Rattle.std.proofs.lemmas.List.FromFn.{map-range_with_len_more}
use Rattle.image_link.specs.Linking.{size, start_of}
use Rattle.image_link.proofs.Parts.{start_next}
use Rattle.image_link.proofs.linking.starts.Goals as goal

pub loop-part-preserved : goal.loop-part-preserved
loop-part-preserved c = record {
  starts =
      c.in_ok-push.ensures.items
      ∙ ap (λ starts. starts ++ c.loop-part.start ∷ []) c.loop-part.invariant.starts
      ∙ ap (λ start. map (start_of c.args.parts.now) (range_with_len 0 c.loop-part.part-index) ++ start ∷ []) c.loop-part.invariant.start
      ∙ sym (map-range_with_len_more (start_of c.args.parts.now) 0 c.loop-part.part-index c.loop-part.part-index (zero-add c.loop-part.part-index));
  start = omega (
    arith,
    start_next c.args.parts.now c.loop-part.part-index c.part-item.result c.loop-part-test.true,
    ap size c.part-item.is,
    c.loop-part.invariant.start,
    c.len.ensures,
  );
}
