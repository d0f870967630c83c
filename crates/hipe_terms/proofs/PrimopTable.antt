-- The primitive operations, on a table by hand. Each line is checked by computing its left side.
use Rattle.std.specs.Prelude.{◌≡◌, Some, None, true, false, refl, codes}
use Rattle.hipe_terms.specs.Primops.{primop_arity, only_raises, primop_named}
use Rattle.hipe_terms.specs.declared.primop.Primop.TheVariants.{Raise, MatchFail, BuildStacktrace}

named-1 : primop_named (codes "raise") ≡ Some Raise
named-1 = refl

named-2 : primop_named (codes "match_fail") ≡ Some MatchFail
named-2 = refl

named-3 : primop_named (codes "build_stacktrace") ≡ Some BuildStacktrace
named-3 = refl

named-4 : primop_named (codes "raw_raise") ≡ None
named-4 = refl

arity-1 : primop_arity Raise ≡ 2
arity-1 = refl

arity-2 : primop_arity MatchFail ≡ 1
arity-2 = refl

arity-3 : primop_arity BuildStacktrace ≡ 1
arity-3 = refl

raises-1 : only_raises Raise ≡ true
raises-1 = refl

raises-2 : only_raises MatchFail ≡ true
raises-2 = refl

raises-3 : only_raises BuildStacktrace ≡ false
raises-3 = refl
