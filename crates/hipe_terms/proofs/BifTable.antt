-- Each built-in function of `erlang` at its edges. Each line is checked by computing its left side.
use Rattle.std.proofs.Common.{◌≡◌, ◌+◌, pos, negsuc, true, List, [], ◌∷◌, refl, codes}
use Rattle.hipe_terms.specs.Terms.{Term, integer, atom, nil, tuple, fun, terms, cells}
use Rattle.hipe_terms.specs.Outcome.{Outcome, value, builds, gives, raises, badarith, badarg, system_limit, undef, boolean_term, bif_outcome}
use Rattle.hipe_terms.specs.declared.class.Class.TheVariants as classes
use Rattle.hipe_terms.specs.declared.bif.Bif.{Bif}
use Rattle.hipe_terms.specs.declared.bif.Bif.TheVariants.{Add, Subtract, Multiply, Negate, Divide, Remainder, BitAnd, BitOr, BitXor, BitNot, ShiftLeft, ShiftRight, Equal, NotEqual, ExactlyEqual, ExactlyNotEqual, LessThan, AtMost, GreaterThan, AtLeast, And, Or, Not, IsInteger, IsNumber, IsAtom, IsBoolean, IsList, IsTuple, IsFunction, IsFunctionOfArity, Head, Tail, Length, Append, Element, SetElement, TupleSize, Error, Throw, Exit, Display}

-- what a function gives in a program whose function k has k + 1 parameters
abbrev does : Bif → List Term → Outcome
does = bif_outcome (λ k. k + 1)

add-1 : does Add ((integer (pos 2)) ∷ (integer (negsuc 2)) ∷ []) ≡ gives (integer (negsuc 0))
add-1 = refl

add-2 : does Add ((integer (pos 576460752303423487)) ∷ (integer (pos 1)) ∷ []) ≡ system_limit
add-2 = refl

add-3 : does Add ((integer (negsuc 576460752303423487)) ∷ (integer (negsuc 0)) ∷ []) ≡ system_limit
add-3 = refl

add-4 : does Add ((integer (pos 576460752303423487)) ∷ (integer (pos 0)) ∷ []) ≡ gives (integer (pos 576460752303423487))
add-4 = refl

add-5 : does Add ((atom (codes "a")) ∷ (integer (pos 576460752303423487)) ∷ []) ≡ badarith
add-5 = refl

add-6 : does Add ((integer (pos 1)) ∷ nil ∷ []) ≡ badarith
add-6 = refl

add-7 : does Add ((integer (pos 1)) ∷ []) ≡ undef
add-7 = refl

subtract-1 : does Subtract ((integer (pos 2)) ∷ (integer (pos 5)) ∷ []) ≡ gives (integer (negsuc 2))
subtract-1 = refl

subtract-2 : does Subtract ((integer (negsuc 576460752303423487)) ∷ (integer (pos 1)) ∷ []) ≡ system_limit
subtract-2 = refl

subtract-3 : does Subtract ((integer (pos 0)) ∷ (integer (negsuc 576460752303423487)) ∷ []) ≡ system_limit
subtract-3 = refl

subtract-4 : does Subtract ((integer (negsuc 0)) ∷ (integer (negsuc 576460752303423487)) ∷ []) ≡ gives (integer (pos 576460752303423487))
subtract-4 = refl

subtract-5 : does Subtract ((integer (pos 1)) ∷ (atom (codes "a")) ∷ []) ≡ badarith
subtract-5 = refl

multiply-1 : does Multiply ((integer (negsuc 5)) ∷ (integer (pos 7)) ∷ []) ≡ gives (integer (negsuc 41))
multiply-1 = refl

multiply-2 : does Multiply ((integer (negsuc 576460752303423487)) ∷ (integer (negsuc 0)) ∷ []) ≡ system_limit
multiply-2 = refl

multiply-3 : does Multiply ((integer (pos 288230376151711744)) ∷ (integer (negsuc 1)) ∷ []) ≡ gives (integer (negsuc 576460752303423487))
multiply-3 = refl

multiply-4 : does Multiply ((integer (pos 576460752303423487)) ∷ (integer (pos 576460752303423487)) ∷ []) ≡ system_limit
multiply-4 = refl

multiply-5 : does Multiply ((atom (codes "a")) ∷ (integer (pos 0)) ∷ []) ≡ badarith
multiply-5 = refl

negate-1 : does Negate ((integer (pos 576460752303423487)) ∷ []) ≡ gives (integer (negsuc 576460752303423486))
negate-1 = refl

negate-2 : does Negate ((integer (negsuc 576460752303423487)) ∷ []) ≡ system_limit
negate-2 = refl

negate-3 : does Negate ((integer (pos 0)) ∷ []) ≡ gives (integer (pos 0))
negate-3 = refl

negate-4 : does Negate (nil ∷ []) ≡ badarith
negate-4 = refl

divide-1 : does Divide ((integer (pos 7)) ∷ (integer (pos 2)) ∷ []) ≡ gives (integer (pos 3))
divide-1 = refl

divide-2 : does Divide ((integer (negsuc 6)) ∷ (integer (pos 2)) ∷ []) ≡ gives (integer (negsuc 2))
divide-2 = refl

divide-3 : does Divide ((integer (pos 7)) ∷ (integer (negsuc 1)) ∷ []) ≡ gives (integer (negsuc 2))
divide-3 = refl

divide-4 : does Divide ((integer (negsuc 6)) ∷ (integer (negsuc 1)) ∷ []) ≡ gives (integer (pos 3))
divide-4 = refl

divide-5 : does Divide ((integer (negsuc 576460752303423487)) ∷ (integer (negsuc 0)) ∷ []) ≡ system_limit
divide-5 = refl

divide-6 : does Divide ((integer (negsuc 576460752303423487)) ∷ (integer (pos 0)) ∷ []) ≡ badarith
divide-6 = refl

divide-7 : does Divide ((atom (codes "a")) ∷ (integer (pos 0)) ∷ []) ≡ badarith
divide-7 = refl

remainder-1 : does Remainder ((integer (pos 7)) ∷ (integer (negsuc 1)) ∷ []) ≡ gives (integer (pos 1))
remainder-1 = refl

remainder-2 : does Remainder ((integer (negsuc 6)) ∷ (integer (pos 2)) ∷ []) ≡ gives (integer (negsuc 0))
remainder-2 = refl

remainder-3 : does Remainder ((integer (negsuc 6)) ∷ (integer (negsuc 1)) ∷ []) ≡ gives (integer (negsuc 0))
remainder-3 = refl

remainder-4 : does Remainder ((integer (negsuc 576460752303423487)) ∷ (integer (negsuc 0)) ∷ []) ≡ gives (integer (pos 0))
remainder-4 = refl

remainder-5 : does Remainder ((integer (negsuc 576460752303423487)) ∷ (integer (pos 0)) ∷ []) ≡ badarith
remainder-5 = refl

remainder-6 : does Remainder ((integer (pos 1)) ∷ (atom (codes "a")) ∷ []) ≡ badarith
remainder-6 = refl

bit_and-1 : does BitAnd ((integer (pos 12)) ∷ (integer (pos 10)) ∷ []) ≡ gives (integer (pos 8))
bit_and-1 = refl

bit_and-2 : does BitAnd ((integer (negsuc 0)) ∷ (integer (negsuc 576460752303423487)) ∷ []) ≡ gives (integer (negsuc 576460752303423487))
bit_and-2 = refl

bit_and-3 : does BitAnd ((integer (negsuc 3)) ∷ (integer (pos 7)) ∷ []) ≡ gives (integer (pos 4))
bit_and-3 = refl

bit_and-4 : does BitAnd ((atom (codes "a")) ∷ (integer (pos 1)) ∷ []) ≡ badarith
bit_and-4 = refl

bit_or-1 : does BitOr ((integer (pos 12)) ∷ (integer (pos 10)) ∷ []) ≡ gives (integer (pos 14))
bit_or-1 = refl

bit_or-2 : does BitOr ((integer (negsuc 576460752303423487)) ∷ (integer (pos 576460752303423487)) ∷ []) ≡ gives (integer (negsuc 0))
bit_or-2 = refl

bit_or-3 : does BitOr ((integer (pos 1)) ∷ (atom (codes "a")) ∷ []) ≡ badarith
bit_or-3 = refl

bit_xor-1 : does BitXor ((integer (pos 12)) ∷ (integer (pos 10)) ∷ []) ≡ gives (integer (pos 6))
bit_xor-1 = refl

bit_xor-2 : does BitXor ((integer (negsuc 0)) ∷ (integer (pos 576460752303423487)) ∷ []) ≡ gives (integer (negsuc 576460752303423487))
bit_xor-2 = refl

bit_xor-3 : does BitXor ((atom (codes "a")) ∷ (atom (codes "a")) ∷ []) ≡ badarith
bit_xor-3 = refl

bit_not-1 : does BitNot ((integer (pos 0)) ∷ []) ≡ gives (integer (negsuc 0))
bit_not-1 = refl

bit_not-2 : does BitNot ((integer (pos 576460752303423487)) ∷ []) ≡ gives (integer (negsuc 576460752303423487))
bit_not-2 = refl

bit_not-3 : does BitNot ((atom (codes "a")) ∷ []) ≡ badarith
bit_not-3 = refl

shift_left-1 : does ShiftLeft ((integer (pos 3)) ∷ (integer (pos 4)) ∷ []) ≡ gives (integer (pos 48))
shift_left-1 = refl

shift_left-2 : does ShiftLeft ((integer (pos 1)) ∷ (integer (pos 59)) ∷ []) ≡ system_limit
shift_left-2 = refl

shift_left-3 : does ShiftLeft ((integer (negsuc 0)) ∷ (integer (pos 59)) ∷ []) ≡ gives (integer (negsuc 576460752303423487))
shift_left-3 = refl

shift_left-4 : does ShiftLeft ((integer (pos 1)) ∷ (integer (pos 100)) ∷ []) ≡ system_limit
shift_left-4 = refl

shift_left-5 : does ShiftLeft ((integer (pos 0)) ∷ (integer (pos 100)) ∷ []) ≡ gives (integer (pos 0))
shift_left-5 = refl

shift_left-6 : does ShiftLeft ((integer (pos 48)) ∷ (integer (negsuc 3)) ∷ []) ≡ gives (integer (pos 3))
shift_left-6 = refl

shift_left-7 : does ShiftLeft ((integer (negsuc 0)) ∷ (integer (negsuc 99)) ∷ []) ≡ gives (integer (negsuc 0))
shift_left-7 = refl

shift_left-8 : does ShiftLeft ((integer (pos 576460752303423487)) ∷ (integer (negsuc 99)) ∷ []) ≡ gives (integer (pos 0))
shift_left-8 = refl

shift_left-9 : does ShiftLeft ((atom (codes "a")) ∷ (integer (pos 100)) ∷ []) ≡ badarith
shift_left-9 = refl

shift_right-1 : does ShiftRight ((integer (pos 48)) ∷ (integer (pos 4)) ∷ []) ≡ gives (integer (pos 3))
shift_right-1 = refl

shift_right-2 : does ShiftRight ((integer (negsuc 0)) ∷ (integer (pos 1)) ∷ []) ≡ gives (integer (negsuc 0))
shift_right-2 = refl

shift_right-3 : does ShiftRight ((integer (negsuc 2)) ∷ (integer (pos 1)) ∷ []) ≡ gives (integer (negsuc 1))
shift_right-3 = refl

shift_right-4 : does ShiftRight ((integer (negsuc 576460752303423487)) ∷ (integer (pos 100)) ∷ []) ≡ gives (integer (negsuc 0))
shift_right-4 = refl

shift_right-5 : does ShiftRight ((integer (pos 576460752303423487)) ∷ (integer (pos 100)) ∷ []) ≡ gives (integer (pos 0))
shift_right-5 = refl

shift_right-6 : does ShiftRight ((integer (pos 1)) ∷ (integer (negsuc 99)) ∷ []) ≡ system_limit
shift_right-6 = refl

shift_right-7 : does ShiftRight ((integer (pos 0)) ∷ (integer (negsuc 99)) ∷ []) ≡ gives (integer (pos 0))
shift_right-7 = refl

shift_right-8 : does ShiftRight ((integer (pos 3)) ∷ (integer (negsuc 3)) ∷ []) ≡ gives (integer (pos 48))
shift_right-8 = refl

shift_right-9 : does ShiftRight ((integer (pos 1)) ∷ nil ∷ []) ≡ badarith
shift_right-9 = refl

equal-1 : does Equal ((tuple (terms ((integer (pos 1)) ∷ (atom (codes "a")) ∷ []))) ∷ (tuple (terms ((integer (pos 1)) ∷ (atom (codes "a")) ∷ []))) ∷ []) ≡ gives (atom (codes "true"))
equal-1 = refl

equal-2 : does Equal ((integer (pos 1)) ∷ (atom (codes "a")) ∷ []) ≡ gives (atom (codes "false"))
equal-2 = refl

equal-3 : does Equal ((atom (codes "a")) ∷ (integer (pos 1)) ∷ []) ≡ gives (atom (codes "false"))
equal-3 = refl

not_equal-1 : does NotEqual ((tuple (terms ((integer (pos 1)) ∷ (atom (codes "a")) ∷ []))) ∷ (tuple (terms ((integer (pos 1)) ∷ (atom (codes "a")) ∷ []))) ∷ []) ≡ gives (atom (codes "false"))
not_equal-1 = refl

not_equal-2 : does NotEqual ((integer (pos 1)) ∷ (atom (codes "a")) ∷ []) ≡ gives (atom (codes "true"))
not_equal-2 = refl

not_equal-3 : does NotEqual ((atom (codes "a")) ∷ (integer (pos 1)) ∷ []) ≡ gives (atom (codes "true"))
not_equal-3 = refl

exactly_equal-1 : does ExactlyEqual ((tuple (terms ((integer (pos 1)) ∷ (atom (codes "a")) ∷ []))) ∷ (tuple (terms ((integer (pos 1)) ∷ (atom (codes "a")) ∷ []))) ∷ []) ≡ gives (atom (codes "true"))
exactly_equal-1 = refl

exactly_equal-2 : does ExactlyEqual ((integer (pos 1)) ∷ (atom (codes "a")) ∷ []) ≡ gives (atom (codes "false"))
exactly_equal-2 = refl

exactly_equal-3 : does ExactlyEqual ((atom (codes "a")) ∷ (integer (pos 1)) ∷ []) ≡ gives (atom (codes "false"))
exactly_equal-3 = refl

exactly_not_equal-1 : does ExactlyNotEqual ((tuple (terms ((integer (pos 1)) ∷ (atom (codes "a")) ∷ []))) ∷ (tuple (terms ((integer (pos 1)) ∷ (atom (codes "a")) ∷ []))) ∷ []) ≡ gives (atom (codes "false"))
exactly_not_equal-1 = refl

exactly_not_equal-2 : does ExactlyNotEqual ((integer (pos 1)) ∷ (atom (codes "a")) ∷ []) ≡ gives (atom (codes "true"))
exactly_not_equal-2 = refl

exactly_not_equal-3 : does ExactlyNotEqual ((atom (codes "a")) ∷ (integer (pos 1)) ∷ []) ≡ gives (atom (codes "true"))
exactly_not_equal-3 = refl

less_than-1 : does LessThan ((tuple (terms ((integer (pos 1)) ∷ (atom (codes "a")) ∷ []))) ∷ (tuple (terms ((integer (pos 1)) ∷ (atom (codes "a")) ∷ []))) ∷ []) ≡ gives (atom (codes "false"))
less_than-1 = refl

less_than-2 : does LessThan ((integer (pos 1)) ∷ (atom (codes "a")) ∷ []) ≡ gives (atom (codes "true"))
less_than-2 = refl

less_than-3 : does LessThan ((atom (codes "a")) ∷ (integer (pos 1)) ∷ []) ≡ gives (atom (codes "false"))
less_than-3 = refl

at_most-1 : does AtMost ((tuple (terms ((integer (pos 1)) ∷ (atom (codes "a")) ∷ []))) ∷ (tuple (terms ((integer (pos 1)) ∷ (atom (codes "a")) ∷ []))) ∷ []) ≡ gives (atom (codes "true"))
at_most-1 = refl

at_most-2 : does AtMost ((integer (pos 1)) ∷ (atom (codes "a")) ∷ []) ≡ gives (atom (codes "true"))
at_most-2 = refl

at_most-3 : does AtMost ((atom (codes "a")) ∷ (integer (pos 1)) ∷ []) ≡ gives (atom (codes "false"))
at_most-3 = refl

greater_than-1 : does GreaterThan ((tuple (terms ((integer (pos 1)) ∷ (atom (codes "a")) ∷ []))) ∷ (tuple (terms ((integer (pos 1)) ∷ (atom (codes "a")) ∷ []))) ∷ []) ≡ gives (atom (codes "false"))
greater_than-1 = refl

greater_than-2 : does GreaterThan ((integer (pos 1)) ∷ (atom (codes "a")) ∷ []) ≡ gives (atom (codes "false"))
greater_than-2 = refl

greater_than-3 : does GreaterThan ((atom (codes "a")) ∷ (integer (pos 1)) ∷ []) ≡ gives (atom (codes "true"))
greater_than-3 = refl

at_least-1 : does AtLeast ((tuple (terms ((integer (pos 1)) ∷ (atom (codes "a")) ∷ []))) ∷ (tuple (terms ((integer (pos 1)) ∷ (atom (codes "a")) ∷ []))) ∷ []) ≡ gives (atom (codes "true"))
at_least-1 = refl

at_least-2 : does AtLeast ((integer (pos 1)) ∷ (atom (codes "a")) ∷ []) ≡ gives (atom (codes "false"))
at_least-2 = refl

at_least-3 : does AtLeast ((atom (codes "a")) ∷ (integer (pos 1)) ∷ []) ≡ gives (atom (codes "true"))
at_least-3 = refl

less_than-4 : does LessThan ((integer (negsuc 0)) ∷ (integer (pos 1)) ∷ []) ≡ gives (atom (codes "true"))
less_than-4 = refl

less_than-5 : does LessThan ((integer (pos 1)) ∷ (atom (codes "a")) ∷ []) ≡ gives (atom (codes "true"))
less_than-5 = refl

less_than-6 : does LessThan ((atom (codes "a")) ∷ (atom (codes "ab")) ∷ []) ≡ gives (atom (codes "true"))
less_than-6 = refl

less_than-7 : does LessThan ((atom (codes "ab")) ∷ (atom (codes "b")) ∷ []) ≡ gives (atom (codes "true"))
less_than-7 = refl

less_than-8 : does LessThan ((atom (codes "b")) ∷ (fun 0 (terms ([]))) ∷ []) ≡ gives (atom (codes "true"))
less_than-8 = refl

less_than-9 : does LessThan ((fun 0 (terms ([]))) ∷ (fun 0 (terms ((integer (pos 1)) ∷ []))) ∷ []) ≡ gives (atom (codes "true"))
less_than-9 = refl

less_than-10 : does LessThan ((fun 0 (terms ((integer (pos 1)) ∷ []))) ∷ (fun 1 (terms ([]))) ∷ []) ≡ gives (atom (codes "true"))
less_than-10 = refl

less_than-11 : does LessThan ((fun 1 (terms ([]))) ∷ (tuple (terms ([]))) ∷ []) ≡ gives (atom (codes "true"))
less_than-11 = refl

less_than-12 : does LessThan ((tuple (terms ([]))) ∷ (tuple (terms ((integer (pos 9)) ∷ []))) ∷ []) ≡ gives (atom (codes "true"))
less_than-12 = refl

less_than-13 : does LessThan ((tuple (terms ((integer (pos 9)) ∷ []))) ∷ (tuple (terms ((integer (pos 1)) ∷ (integer (pos 2)) ∷ []))) ∷ []) ≡ gives (atom (codes "true"))
less_than-13 = refl

less_than-14 : does LessThan ((tuple (terms ((integer (pos 1)) ∷ (integer (pos 2)) ∷ []))) ∷ (tuple (terms ((integer (pos 2)) ∷ (integer (pos 1)) ∷ []))) ∷ []) ≡ gives (atom (codes "true"))
less_than-14 = refl

less_than-15 : does LessThan ((tuple (terms ((integer (pos 2)) ∷ (integer (pos 1)) ∷ []))) ∷ nil ∷ []) ≡ gives (atom (codes "true"))
less_than-15 = refl

less_than-16 : does LessThan (nil ∷ (cells ((integer (pos 1)) ∷ []) (atom (codes "z"))) ∷ []) ≡ gives (atom (codes "true"))
less_than-16 = refl

less_than-17 : does LessThan ((cells ((integer (pos 1)) ∷ []) (atom (codes "z"))) ∷ (cells ((integer (pos 1)) ∷ []) nil) ∷ []) ≡ gives (atom (codes "true"))
less_than-17 = refl

less_than-18 : does LessThan ((cells ((integer (pos 1)) ∷ []) nil) ∷ (cells ((integer (pos 1)) ∷ (integer (pos 0)) ∷ []) nil) ∷ []) ≡ gives (atom (codes "true"))
less_than-18 = refl

less_than-19 : does LessThan ((cells ((integer (pos 1)) ∷ (integer (pos 0)) ∷ []) nil) ∷ (cells ((integer (pos 2)) ∷ []) nil) ∷ []) ≡ gives (atom (codes "true"))
less_than-19 = refl

and-1 : does And ((atom (codes "true")) ∷ (atom (codes "true")) ∷ []) ≡ gives (atom (codes "true"))
and-1 = refl

and-2 : does And ((atom (codes "true")) ∷ (atom (codes "false")) ∷ []) ≡ gives (atom (codes "false"))
and-2 = refl

and-3 : does And ((atom (codes "false")) ∷ (atom (codes "a")) ∷ []) ≡ badarg
and-3 = refl

and-4 : does And ((integer (pos 1)) ∷ (atom (codes "true")) ∷ []) ≡ badarg
and-4 = refl

or-1 : does Or ((atom (codes "false")) ∷ (atom (codes "false")) ∷ []) ≡ gives (atom (codes "false"))
or-1 = refl

or-2 : does Or ((atom (codes "false")) ∷ (atom (codes "true")) ∷ []) ≡ gives (atom (codes "true"))
or-2 = refl

or-3 : does Or ((atom (codes "true")) ∷ (atom (codes "a")) ∷ []) ≡ badarg
or-3 = refl

or-4 : does Or (nil ∷ (atom (codes "false")) ∷ []) ≡ badarg
or-4 = refl

not-1 : does Not ((atom (codes "true")) ∷ []) ≡ gives (atom (codes "false"))
not-1 = refl

not-2 : does Not ((atom (codes "false")) ∷ []) ≡ gives (atom (codes "true"))
not-2 = refl

not-3 : does Not ((atom (codes "a")) ∷ []) ≡ badarg
not-3 = refl

is_integer-1 : does IsInteger ((integer (pos 1)) ∷ []) ≡ gives (atom (codes "true"))
is_integer-1 = refl

is_integer-2 : does IsInteger ((atom (codes "a")) ∷ []) ≡ gives (atom (codes "false"))
is_integer-2 = refl

is_integer-3 : does IsInteger ((atom (codes "true")) ∷ []) ≡ gives (atom (codes "false"))
is_integer-3 = refl

is_integer-4 : does IsInteger (nil ∷ []) ≡ gives (atom (codes "false"))
is_integer-4 = refl

is_integer-5 : does IsInteger ((cells ((integer (pos 1)) ∷ []) nil) ∷ []) ≡ gives (atom (codes "false"))
is_integer-5 = refl

is_integer-6 : does IsInteger ((tuple (terms ([]))) ∷ []) ≡ gives (atom (codes "false"))
is_integer-6 = refl

is_integer-7 : does IsInteger ((fun 2 (terms ([]))) ∷ []) ≡ gives (atom (codes "false"))
is_integer-7 = refl

is_number-1 : does IsNumber ((integer (pos 1)) ∷ []) ≡ gives (atom (codes "true"))
is_number-1 = refl

is_number-2 : does IsNumber ((atom (codes "a")) ∷ []) ≡ gives (atom (codes "false"))
is_number-2 = refl

is_number-3 : does IsNumber ((atom (codes "true")) ∷ []) ≡ gives (atom (codes "false"))
is_number-3 = refl

is_number-4 : does IsNumber (nil ∷ []) ≡ gives (atom (codes "false"))
is_number-4 = refl

is_number-5 : does IsNumber ((cells ((integer (pos 1)) ∷ []) nil) ∷ []) ≡ gives (atom (codes "false"))
is_number-5 = refl

is_number-6 : does IsNumber ((tuple (terms ([]))) ∷ []) ≡ gives (atom (codes "false"))
is_number-6 = refl

is_number-7 : does IsNumber ((fun 2 (terms ([]))) ∷ []) ≡ gives (atom (codes "false"))
is_number-7 = refl

is_atom-1 : does IsAtom ((integer (pos 1)) ∷ []) ≡ gives (atom (codes "false"))
is_atom-1 = refl

is_atom-2 : does IsAtom ((atom (codes "a")) ∷ []) ≡ gives (atom (codes "true"))
is_atom-2 = refl

is_atom-3 : does IsAtom ((atom (codes "true")) ∷ []) ≡ gives (atom (codes "true"))
is_atom-3 = refl

is_atom-4 : does IsAtom (nil ∷ []) ≡ gives (atom (codes "false"))
is_atom-4 = refl

is_atom-5 : does IsAtom ((cells ((integer (pos 1)) ∷ []) nil) ∷ []) ≡ gives (atom (codes "false"))
is_atom-5 = refl

is_atom-6 : does IsAtom ((tuple (terms ([]))) ∷ []) ≡ gives (atom (codes "false"))
is_atom-6 = refl

is_atom-7 : does IsAtom ((fun 2 (terms ([]))) ∷ []) ≡ gives (atom (codes "false"))
is_atom-7 = refl

is_boolean-1 : does IsBoolean ((integer (pos 1)) ∷ []) ≡ gives (atom (codes "false"))
is_boolean-1 = refl

is_boolean-2 : does IsBoolean ((atom (codes "a")) ∷ []) ≡ gives (atom (codes "false"))
is_boolean-2 = refl

is_boolean-3 : does IsBoolean ((atom (codes "true")) ∷ []) ≡ gives (atom (codes "true"))
is_boolean-3 = refl

is_boolean-4 : does IsBoolean (nil ∷ []) ≡ gives (atom (codes "false"))
is_boolean-4 = refl

is_boolean-5 : does IsBoolean ((cells ((integer (pos 1)) ∷ []) nil) ∷ []) ≡ gives (atom (codes "false"))
is_boolean-5 = refl

is_boolean-6 : does IsBoolean ((tuple (terms ([]))) ∷ []) ≡ gives (atom (codes "false"))
is_boolean-6 = refl

is_boolean-7 : does IsBoolean ((fun 2 (terms ([]))) ∷ []) ≡ gives (atom (codes "false"))
is_boolean-7 = refl

is_list-1 : does IsList ((integer (pos 1)) ∷ []) ≡ gives (atom (codes "false"))
is_list-1 = refl

is_list-2 : does IsList ((atom (codes "a")) ∷ []) ≡ gives (atom (codes "false"))
is_list-2 = refl

is_list-3 : does IsList ((atom (codes "true")) ∷ []) ≡ gives (atom (codes "false"))
is_list-3 = refl

is_list-4 : does IsList (nil ∷ []) ≡ gives (atom (codes "true"))
is_list-4 = refl

is_list-5 : does IsList ((cells ((integer (pos 1)) ∷ []) nil) ∷ []) ≡ gives (atom (codes "true"))
is_list-5 = refl

is_list-6 : does IsList ((tuple (terms ([]))) ∷ []) ≡ gives (atom (codes "false"))
is_list-6 = refl

is_list-7 : does IsList ((fun 2 (terms ([]))) ∷ []) ≡ gives (atom (codes "false"))
is_list-7 = refl

is_tuple-1 : does IsTuple ((integer (pos 1)) ∷ []) ≡ gives (atom (codes "false"))
is_tuple-1 = refl

is_tuple-2 : does IsTuple ((atom (codes "a")) ∷ []) ≡ gives (atom (codes "false"))
is_tuple-2 = refl

is_tuple-3 : does IsTuple ((atom (codes "true")) ∷ []) ≡ gives (atom (codes "false"))
is_tuple-3 = refl

is_tuple-4 : does IsTuple (nil ∷ []) ≡ gives (atom (codes "false"))
is_tuple-4 = refl

is_tuple-5 : does IsTuple ((cells ((integer (pos 1)) ∷ []) nil) ∷ []) ≡ gives (atom (codes "false"))
is_tuple-5 = refl

is_tuple-6 : does IsTuple ((tuple (terms ([]))) ∷ []) ≡ gives (atom (codes "true"))
is_tuple-6 = refl

is_tuple-7 : does IsTuple ((fun 2 (terms ([]))) ∷ []) ≡ gives (atom (codes "false"))
is_tuple-7 = refl

is_function-1 : does IsFunction ((integer (pos 1)) ∷ []) ≡ gives (atom (codes "false"))
is_function-1 = refl

is_function-2 : does IsFunction ((atom (codes "a")) ∷ []) ≡ gives (atom (codes "false"))
is_function-2 = refl

is_function-3 : does IsFunction ((atom (codes "true")) ∷ []) ≡ gives (atom (codes "false"))
is_function-3 = refl

is_function-4 : does IsFunction (nil ∷ []) ≡ gives (atom (codes "false"))
is_function-4 = refl

is_function-5 : does IsFunction ((cells ((integer (pos 1)) ∷ []) nil) ∷ []) ≡ gives (atom (codes "false"))
is_function-5 = refl

is_function-6 : does IsFunction ((tuple (terms ([]))) ∷ []) ≡ gives (atom (codes "false"))
is_function-6 = refl

is_function-7 : does IsFunction ((fun 2 (terms ([]))) ∷ []) ≡ gives (atom (codes "true"))
is_function-7 = refl

is_boolean-8 : does IsBoolean ((atom (codes "false")) ∷ []) ≡ gives (atom (codes "true"))
is_boolean-8 = refl

is_function_of_arity-1 : does IsFunctionOfArity ((fun 2 (terms ([]))) ∷ (integer (pos 3)) ∷ []) ≡ gives (atom (codes "true"))
is_function_of_arity-1 = refl

is_function_of_arity-2 : does IsFunctionOfArity ((fun 2 (terms ([]))) ∷ (integer (pos 2)) ∷ []) ≡ gives (atom (codes "false"))
is_function_of_arity-2 = refl

is_function_of_arity-3 : does IsFunctionOfArity ((atom (codes "a")) ∷ (integer (pos 3)) ∷ []) ≡ gives (atom (codes "false"))
is_function_of_arity-3 = refl

is_function_of_arity-4 : does IsFunctionOfArity ((fun 2 (terms ([]))) ∷ (integer (negsuc 0)) ∷ []) ≡ badarg
is_function_of_arity-4 = refl

is_function_of_arity-5 : does IsFunctionOfArity ((atom (codes "a")) ∷ (atom (codes "a")) ∷ []) ≡ badarg
is_function_of_arity-5 = refl

head-1 : does Head ((cells ((integer (pos 1)) ∷ (integer (pos 2)) ∷ []) nil) ∷ []) ≡ gives (integer (pos 1))
head-1 = refl

head-2 : does Head (nil ∷ []) ≡ badarg
head-2 = refl

head-3 : does Head ((tuple (terms ((integer (pos 1)) ∷ []))) ∷ []) ≡ badarg
head-3 = refl

tail-1 : does Tail ((cells ((integer (pos 1)) ∷ (integer (pos 2)) ∷ []) nil) ∷ []) ≡ gives (cells ((integer (pos 2)) ∷ []) nil)
tail-1 = refl

tail-2 : does Tail ((cells ((integer (pos 1)) ∷ []) (atom (codes "a"))) ∷ []) ≡ gives (atom (codes "a"))
tail-2 = refl

tail-3 : does Tail (nil ∷ []) ≡ badarg
tail-3 = refl

length-1 : does Length (nil ∷ []) ≡ gives (integer (pos 0))
length-1 = refl

length-2 : does Length ((cells ((atom (codes "a")) ∷ (atom (codes "a")) ∷ (atom (codes "a")) ∷ []) nil) ∷ []) ≡ gives (integer (pos 3))
length-2 = refl

length-3 : does Length ((cells ((atom (codes "a")) ∷ (atom (codes "a")) ∷ []) (atom (codes "a"))) ∷ []) ≡ badarg
length-3 = refl

length-4 : does Length ((atom (codes "a")) ∷ []) ≡ badarg
length-4 = refl

append-1 : does Append ((cells ((integer (pos 1)) ∷ (integer (pos 2)) ∷ []) nil) ∷ (cells ((integer (pos 3)) ∷ []) nil) ∷ []) ≡ builds 4 (cells ((integer (pos 1)) ∷ (integer (pos 2)) ∷ (integer (pos 3)) ∷ []) nil)
append-1 = refl

append-2 : does Append (nil ∷ (atom (codes "a")) ∷ []) ≡ builds 0 (atom (codes "a"))
append-2 = refl

append-3 : does Append ((cells ((integer (pos 1)) ∷ []) nil) ∷ (atom (codes "a")) ∷ []) ≡ builds 2 (cells ((integer (pos 1)) ∷ []) (atom (codes "a")))
append-3 = refl

append-4 : does Append ((cells ((integer (pos 1)) ∷ []) (atom (codes "a"))) ∷ nil ∷ []) ≡ badarg
append-4 = refl

append-5 : does Append ((atom (codes "a")) ∷ nil ∷ []) ≡ badarg
append-5 = refl

element-1 : does Element ((integer (pos 1)) ∷ (tuple (terms ((integer (pos 7)) ∷ (atom (codes "a")) ∷ []))) ∷ []) ≡ gives (integer (pos 7))
element-1 = refl

element-2 : does Element ((integer (pos 2)) ∷ (tuple (terms ((integer (pos 7)) ∷ (atom (codes "a")) ∷ []))) ∷ []) ≡ gives (atom (codes "a"))
element-2 = refl

element-3 : does Element ((integer (pos 0)) ∷ (tuple (terms ((integer (pos 7)) ∷ (atom (codes "a")) ∷ []))) ∷ []) ≡ badarg
element-3 = refl

element-4 : does Element ((integer (pos 3)) ∷ (tuple (terms ((integer (pos 7)) ∷ (atom (codes "a")) ∷ []))) ∷ []) ≡ badarg
element-4 = refl

element-5 : does Element ((integer (negsuc 0)) ∷ (tuple (terms ((integer (pos 7)) ∷ (atom (codes "a")) ∷ []))) ∷ []) ≡ badarg
element-5 = refl

element-6 : does Element ((integer (pos 1)) ∷ (tuple (terms ([]))) ∷ []) ≡ badarg
element-6 = refl

element-7 : does Element ((integer (pos 1)) ∷ nil ∷ []) ≡ badarg
element-7 = refl

element-8 : does Element ((atom (codes "a")) ∷ (tuple (terms ((integer (pos 7)) ∷ (atom (codes "a")) ∷ []))) ∷ []) ≡ badarg
element-8 = refl

set_element-1 : does SetElement ((integer (pos 1)) ∷ (tuple (terms ((integer (pos 7)) ∷ (atom (codes "a")) ∷ []))) ∷ nil ∷ []) ≡ builds 3 (tuple (terms (nil ∷ (atom (codes "a")) ∷ [])))
set_element-1 = refl

set_element-2 : does SetElement ((integer (pos 2)) ∷ (tuple (terms ((integer (pos 7)) ∷ (atom (codes "a")) ∷ []))) ∷ nil ∷ []) ≡ builds 3 (tuple (terms ((integer (pos 7)) ∷ nil ∷ [])))
set_element-2 = refl

set_element-3 : does SetElement ((integer (pos 0)) ∷ (tuple (terms ((integer (pos 7)) ∷ (atom (codes "a")) ∷ []))) ∷ (atom (codes "a")) ∷ []) ≡ badarg
set_element-3 = refl

set_element-4 : does SetElement ((integer (pos 3)) ∷ (tuple (terms ((integer (pos 7)) ∷ (atom (codes "a")) ∷ []))) ∷ (atom (codes "a")) ∷ []) ≡ badarg
set_element-4 = refl

set_element-5 : does SetElement ((integer (pos 1)) ∷ (atom (codes "a")) ∷ (atom (codes "a")) ∷ []) ≡ badarg
set_element-5 = refl

set_element-6 : does SetElement ((atom (codes "a")) ∷ (tuple (terms ((integer (pos 7)) ∷ (atom (codes "a")) ∷ []))) ∷ (atom (codes "a")) ∷ []) ≡ badarg
set_element-6 = refl

tuple_size-1 : does TupleSize ((tuple (terms ([]))) ∷ []) ≡ gives (integer (pos 0))
tuple_size-1 = refl

tuple_size-2 : does TupleSize ((tuple (terms ((integer (pos 7)) ∷ (atom (codes "a")) ∷ []))) ∷ []) ≡ gives (integer (pos 2))
tuple_size-2 = refl

tuple_size-3 : does TupleSize (nil ∷ []) ≡ badarg
tuple_size-3 = refl

error-1 : does Error ((atom (codes "a")) ∷ []) ≡ raises classes.Error (atom (codes "a"))
error-1 = refl

throw-1 : does Throw ((atom (codes "a")) ∷ []) ≡ raises classes.Throw (atom (codes "a"))
throw-1 = refl

exit-1 : does Exit ((atom (codes "a")) ∷ []) ≡ raises classes.Exit (atom (codes "a"))
exit-1 = refl

display-1 : does Display ((tuple (terms ((integer (pos 7)) ∷ (atom (codes "a")) ∷ []))) ∷ []) ≡ record { end = value (boolean_term true); printed = (tuple (terms ((integer (pos 7)) ∷ (atom (codes "a")) ∷ []))) ∷ []; words = 0 }
display-1 = refl
