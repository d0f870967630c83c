use Rattle.std.proofs.Common.{◌∙◌, ◌≤◌, ◌++◌, ap, sym, subst, All, length}
use Rattle.hipe_base.specs.declared.limits.TheConstants.{CODE_LIMIT}
use Rattle.image_link.specs.Code.{IsPart, exit_bytes}
use Rattle.image_link.specs.Linking.{code_from}
use Rattle.image_link.proofs.Parts.{joined_length, part_joined, starts_length, starts_within}
use Rattle.image_link.proofs.linking.join.Goals as goal

pub put_part-requires-clause-part : goal.put_part-requires-clause-part
put_part-requires-clause-part c =
    let part : IsPart (length c.args.parts.now) c.part-item.result =
    subst (IsPart (length c.args.parts.now)) (sym c.part-item.is) (c.requires.parts c.loop-part.part-index c.part-item.result c.loop-part-test.true) in
    subst (λ n. IsPart n c.part-item.result) (sym (ap length c.requires.starts ∙ starts_length c.args.parts.now)) part

pub put_part-requires-clause-starts : goal.put_part-requires-clause-starts
put_part-requires-clause-starts c = subst (All (λ start. start ≤ CODE_LIMIT)) (sym c.requires.starts) (starts_within c.args.parts.now c.requires.size)

pub loop-part-preserved : goal.loop-part-preserved
loop-part-preserved c = record {
  code = part_joined c.args.parts.now c.args.starts.now c.loop-part.part-index c.part-item.result c.loop-part.code.items c.put_part.new.code.items
      (exit_bytes ++ code_from c.args.parts.now 0 c.args.parts.now)
      c.loop-part-test.true c.part-item.is c.requires.starts c.loop-part.invariant.length c.in_ok-put_part.ensures c.loop-part.invariant.code;
  length = joined_length c.args.parts.now c.args.starts.now c.loop-part.part-index (length c.args.parts.now) c.part-item.result c.loop-part.code.items c.put_part.new.code.items
      c.loop-part-test.true c.part-item.is
      (subst (IsPart (length c.args.parts.now)) (sym c.part-item.is) (c.requires.parts c.loop-part.part-index c.part-item.result c.loop-part-test.true))
      c.loop-part.invariant.length c.in_ok-put_part.ensures;
}
