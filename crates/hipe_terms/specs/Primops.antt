-- The primitive operations: their names, how many arguments each takes, and which never give a value.
use Rattle.std.specs.Prelude.{ℕ, Bool, true, false, List, Option, Some, None, codes, bytes_eq, if◌then◌else◌}
use Rattle.hipe_terms.specs.declared.primop.Primop.{Primop}
use Rattle.hipe_terms.specs.declared.primop.Primop.TheVariants.{Raise, MatchFail, BuildStacktrace}

abbrev pub primop_name : Primop → List ℕ
primop_name Raise = codes "raise"
primop_name MatchFail = codes "match_fail"
primop_name BuildStacktrace = codes "build_stacktrace"

abbrev pub primop_arity : Primop → ℕ
primop_arity Raise = 2
primop_arity MatchFail = 1
primop_arity BuildStacktrace = 1

abbrev pub only_raises : Primop → Bool
only_raises Raise = true
only_raises MatchFail = true
only_raises BuildStacktrace = false

-- the operation with this name
abbrev pub primop_named : List ℕ → Option Primop
primop_named f =
    if bytes_eq f (primop_name Raise) then Some Raise
    else if bytes_eq f (primop_name MatchFail) then Some MatchFail
    else if bytes_eq f (primop_name BuildStacktrace) then Some BuildStacktrace
    else None
