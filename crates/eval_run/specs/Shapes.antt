-- Shapes of values and of lists of values.
use Rattle.std.specs.Prelude.{ℕ, List, [], ◌∷◌, Option, Some, None}
use Rattle.hipe_terms.specs.Terms.{Term, fun, listed}

-- the number of a fun's function, and what the fun captured
abbrev pub fun_of : Term → Option (ℕ × List Term)
fun_of (fun n ts) = Some (n, listed ts)
fun_of t = None

-- the only one
abbrev pub one_of : List Term → Option Term
one_of (t ∷ []) = Some t
one_of ts = None

-- both, where there are two
abbrev pub two_of : List Term → Option (Term × Term)
two_of (t ∷ u ∷ []) = Some (t, u)
two_of ts = None
