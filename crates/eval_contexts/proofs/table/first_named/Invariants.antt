use Rattle.std.proofs.Common.{◌≡◌, drop}
use Rattle.hipe_terms.specs.Bifs.{first_named}
use Rattle.eval_contexts.proofs.table.first_named.Given as goal

abbrev pub invariant-loop-bif : goal.invariant-loop-bif
invariant-loop-bif l = first_named l.name l.arity (drop l.bif-index l.bifs) ≡ first_named l.name l.arity l.bifs
