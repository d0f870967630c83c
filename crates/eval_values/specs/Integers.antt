-- Integers of the range, and the integers that terms are.
use Rattle.std.specs.Prelude.{ℕ, suc, ℤ, pos, Option, Some, None, if◌then◌else◌}
use Rattle.hipe_terms.specs.Outcome.{Outcome, gives, system_limit}
use Rattle.hipe_terms.specs.Range.{is_in_range}
use Rattle.hipe_terms.specs.Terms.{Term, integer, tuple, Terms}

-- the integer, where it is in the range
abbrev pub in_range : ℤ → Option ℤ
in_range n = if is_in_range n then Some n else None

-- a result that is in the range, or none
abbrev pub ranged : Option ℤ → Outcome
ranged (Some n) = gives (integer n)
ranged None = system_limit

-- the integer that a term is
abbrev pub integer_of : Term → Option ℤ
integer_of (integer n) = Some n
integer_of t = None

-- the integers that two terms are
abbrev pub integers_of : Term → Term → Option (ℤ × ℤ)
integers_of (integer m) (integer n) = Some (m, n)
integers_of t u = None

-- the index, counted from 0, of the element with this number
abbrev pub index_of : Term → Option ℕ
index_of (integer (pos (suc i))) = Some i
index_of t = None

-- the elements of a tuple
abbrev pub parts_of : Term → Option Terms
parts_of (tuple ts) = Some ts
parts_of t = None
