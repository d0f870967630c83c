use Rattle.std.proofs.Common.{subst, sym, ◌∙◌}
use Rattle.heap_terms.specs.Seen.{symbols_of}
use Rattle.amd64_machine.specs.Seen.{IsCache}
use Rattle.amd64_machine.proofs.machine.Machine.load.Goals as goal

pub invariant_of-result : goal.invariant_of-result
invariant_of-result c = (
  subst (λ code. IsCache code c.in_ok-cache.cache.items) (c.code.ensures ∙ sym c.begun-core.ensures.code) c.in_ok-cache.ensures,
  c.begun-core.ensures.term (symbols_of c.in_ok-region.field-0.symbols),
)
