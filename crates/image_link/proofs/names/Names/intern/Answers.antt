use Rattle.std.proofs.Common.{ap, length, length-append, arith}
use Rattle.image_link.proofs.Rules.{with_more_atoms}
use Rattle.image_link.proofs.names.Names.intern.Goals as goal

pub invariant_of-self : goal.invariant_of-self
invariant_of-self c = with_more_atoms _ c.intern.new.self c.self.invariant c.intern.ensures.rules
    (omega (arith, ap length c.intern.ensures.kept.1, length-append c.self.inside.atoms c.intern.ensures.kept.0))
