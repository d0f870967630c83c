use Rattle.std.proofs.Common.{◌≡◌, ◌≤◌, drop}
use Rattle.core_text.specs.Bytes.{number_from}
use Rattle.core_text.proofs.bytes.number_up_to.Given as goal

abbrev pub invariant-loop-d : goal.invariant-loop-d
invariant-loop-d l = record { rest : number_from l.base l.n (drop l.d-index l.digits) ≡ number_from l.base 0 l.digits; within : l.n ≤ l.most }
