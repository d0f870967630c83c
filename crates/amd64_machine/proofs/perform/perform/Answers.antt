use Rattle.std.proofs.Common.{◌∙◌, ap, sym, refl, rules}
use Rattle.std.specs.Prelude.{FitsSigned}
use Rattle.std.specs.Int.{w32}
use Rattle.amd64_form.specs.declared.reg.Reg.TheVariants.{Rsp}
use Rattle.amd64_machine.specs.Arithmetic.{holds}
use Rattle.amd64_machine.specs.Fetch.{Here}
use Rattle.amd64_machine.specs.Machine.{act, loaded, stored, pushed, branched, word_in, below, displaced}
use Rattle.region_memory.specs.Regions.{word_at, with_word}
use Rattle.amd64_machine.specs.Seen.{registers_seen}
use Rattle.amd64_machine.proofs.Acts.{place}
use Rattle.amd64_machine.proofs.perform.perform.Goals as goal

pub returns-in-Load-clause-step : goal.returns-in-Load-clause-step
returns-in-Load-clause-step c =
    let core = c.args.core.now in
    let registers = registers_seen core.registers in
    let fits : FitsSigned w32 c.in-Load.offset = search rules in
    let there = place c.displaced-address.result c.get.result (word_in registers c.in-Load.base) c.in-Load.offset c.displaced-address.ensures c.get.ensures fits in
    c.load.ensures.step ∙ ap (λ a. loaded c.args.next c.in-Load.to registers core.flags core.region (word_at core.region a)) there
    ∙ ap (λ i. act (Here i c.args.next) registers core.flags core.region) (sym c.in-Load.is)

pub returns-in-Store-clause-step : goal.returns-in-Store-clause-step
returns-in-Store-clause-step c =
    let core = c.args.core.now in
    let registers = registers_seen core.registers in
    let fits : FitsSigned w32 c.in-Store.offset = search rules in
    let there = place c.displaced-address-in-Store.result c.get-in-Store.result (word_in registers c.in-Store.base) c.in-Store.offset c.displaced-address-in-Store.ensures c.get-in-Store.ensures fits in
    c.store.ensures.step ∙ ap (λ a. stored c.args.next registers core.flags (with_word core.region a c.get-word-in-Store.result)) there
    ∙ ap (λ w. stored c.args.next registers core.flags (with_word core.region (displaced (word_in registers c.in-Store.base) c.in-Store.offset) w)) c.get-word-in-Store.ensures
    ∙ ap (λ i. act (Here i c.args.next) registers core.flags core.region) (sym c.in-Store.is)

pub returns-in-Call-clause-step : goal.returns-in-Call-clause-step
returns-in-Call-clause-step c =
    let core = c.args.core.now in
    let registers = registers_seen core.registers in
    let fits : FitsSigned w32 c.in-Call.offset = search rules in
    let there = place c.displaced-in-Call.result c.args.next c.args.next c.in-Call.offset c.displaced-in-Call.ensures refl fits in
    c.push.ensures.step ∙ ap (λ a. pushed a registers core.flags (with_word core.region (below (word_in registers Rsp)) c.args.next)) there
    ∙ ap (λ i. act (Here i c.args.next) registers core.flags core.region) (sym c.in-Call.is)

pub returns-in-JumpIf-clause-step : goal.returns-in-JumpIf-clause-step
returns-in-JumpIf-clause-step c =
    let core = c.args.core.now in
    let registers = registers_seen core.registers in
    let fits : FitsSigned w32 c.in-JumpIf.offset = search rules in
    let there = place c.displaced-in-JumpIf.result c.args.next c.args.next c.in-JumpIf.offset c.displaced-in-JumpIf.ensures refl fits in
    c.branch-core.ensures.step ∙ ap (λ a. branched a c.args.next registers core.flags core.region (holds c.in-JumpIf.condition core.flags)) there
    ∙ ap (λ i. act (Here i c.args.next) registers core.flags core.region) (sym c.in-JumpIf.is)

pub returns-in-CallRegister-clause-step : goal.returns-in-CallRegister-clause-step
returns-in-CallRegister-clause-step c =
    let core = c.args.core.now in
    let registers = registers_seen core.registers in
    c.push-in-CallRegister.ensures.step ∙ ap (λ a. pushed a registers core.flags (with_word core.region (below (word_in registers Rsp)) c.args.next)) c.get-target.ensures
    ∙ ap (λ i. act (Here i c.args.next) registers core.flags core.region) (sym c.in-CallRegister.is)

pub returns-in-Push-clause-step : goal.returns-in-Push-clause-step
returns-in-Push-clause-step c =
    let core = c.args.core.now in
    let registers = registers_seen core.registers in
    c.push-in-Push.ensures.step ∙ ap (λ w. pushed c.args.next registers core.flags (with_word core.region (below (word_in registers Rsp)) w)) c.get-word-in-Push.ensures
    ∙ ap (λ i. act (Here i c.args.next) registers core.flags core.region) (sym c.in-Push.is)
