use Rattle.std.proofs.Common.{sym, subst, refl, rules, ◌∙◌}
use Rattle.heap_terms.specs.Seen.{symbols_of}
use Rattle.machine_services.specs.Lists.{spine_at}
use Rattle.machine_services.specs.declared.services.Served.TheVariants as served
use Rattle.machine_services.specs.Served.{IsServed}
use Rattle.machine_services.proofs.Rooms.{appended_is, list_full}
use Rattle.machine_services.proofs.services.appended.Goals as goal

pub returns-in-Full-clause-served : goal.returns-in-Full-clause-served
returns-in-Full-clause-served c =
    subst (λ s. IsServed (symbols_of c.args.symbols.now).definitions c.args.heap.now c.args.call.free s served.HeapFull c.args.heap.now)
    (sym (appended_is c.args.heap.now c.args.call.free c.args.call.second c.in-Proper.n (spine_at (symbols_of c.args.symbols.now) c.args.heap.now c.args.call.first) c.in-Proper.ensures.ends (search rules)
    ∙ list_full c.args.heap.now c.args.call.free c.args.call.second c.in-Proper.n (spine_at (symbols_of c.args.symbols.now) c.args.heap.now c.args.call.first) c.in-Proper.ensures.ends (sym c.in-Full.ensures)))
    (refl, refl)
