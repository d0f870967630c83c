use Rattle.std.proofs.Common.{◌∙◌, length}
use Rattle.image_link.specs.declared.code.CallSite.{CallSite}
use Rattle.image_link.specs.Linking.{size}
use Rattle.image_link.proofs.Parts.{call_filled, call_keeps, displacement_length}
use Rattle.image_link.proofs.linking.put_part.Goals as goal

pub loop-call-preserved : goal.loop-call-preserved
loop-call-preserved c =
    let call : CallSite = record { at = 0; target = 0 } in
    record {
      code = call_filled c.args.code.now.items c.args.part.now.bytes c.args.starts.now c.args.part.now.calls c.as_slice-call-items.result.now
          c.loop-call.call-index call c.len-start.result c.loop-call.code.items c.fill.new.code.items
          c.loop-call-test.true c.as_slice-call-items.ensures (c.len-start.ensures ∙ c.args.code.now.ok.0) c.loop-call.invariant.code c.fill.ensures;
      length = call_keeps c.loop-call.code.items c.fill.new.code.items c.args.part.now.calls c.as_slice-call-items.result.now
          c.loop-call.call-index call c.len-start.result (size c.args.part.now) (length c.args.starts.now) _
          c.loop-call-test.true c.as_slice-call-items.ensures c.requires.part.calls (displacement_length _ _) c.loop-call.invariant.length c.fill.ensures;
    }
