-- What each built-in function of `erlang` does: the value or the class and reason, the terms that it prints, and the words that it builds.
use Rattle.std.specs.Prelude.{ℕ, zero, suc, ◌/◌, ◌^◌, ℤ, pos, negsuc, neg_ℤ, ◌+ℤ◌, ◌-ℤ◌, ◌*ℤ◌, int_div, int_rem, Bool, true, false, not, ◌&&◌, ◌||◌, ◌==◌, if◌then◌else◌, Option, Some, None, is_some, option_map, List, [], ◌∷◌, length, codes, bytes_eq}
use Rattle.std.specs.Int.{int_bit_and, int_bit_or, int_bit_xor, int_bit_not}
use Rattle.std.specs.Ordering.{int_eq, is_eq, is_lt, is_gt}
use Rattle.std.specs.Int.{w64}
use Rattle.hipe_terms.specs.Terms.{Term, integer, atom, nil, cons, tuple, fun, Terms, none, more, count, cells}
use Rattle.hipe_terms.specs.Order.{order}
use Rattle.hipe_terms.specs.Range.{is_in_range}
use Rattle.hipe_terms.specs.Words.{list_words, tuple_words}
use Rattle.hipe_terms.specs.declared.class.Class.{Class}
use Rattle.hipe_terms.specs.declared.class.Class.TheVariants as classes
use Rattle.hipe_terms.specs.declared.bif.Bif.{Bif}
use Rattle.hipe_terms.specs.declared.bif.Bif.TheVariants.{Add, Subtract, Multiply, Negate, Divide, Remainder, BitAnd, BitOr, BitXor, BitNot, ShiftLeft, ShiftRight, Equal, NotEqual, ExactlyEqual, ExactlyNotEqual, LessThan, AtMost, GreaterThan, AtLeast, And, Or, Not, IsInteger, IsNumber, IsAtom, IsBoolean, IsList, IsTuple, IsFunction, IsFunctionOfArity, Head, Tail, Length, Append, Element, SetElement, TupleSize, Error, Throw, Exit, Display}

-- how a call ends
pub data End : Type 0 where
  value : Term → End
  raised : (class : Class) (reason : Term) → End

pub record Outcome : Type 0 where
  pub end : End
  pub printed : List Term
  pub words : ℕ

-- ---- outcomes

-- a value of so many words
abbrev pub builds : ℕ → Term → Outcome
builds words t = record { end = value t; printed = []; words = words }

abbrev pub gives : Term → Outcome
gives t = builds 0 t

abbrev pub raises : Class → Term → Outcome
raises class reason = record { end = raised class reason; printed = []; words = 0 }

abbrev pub badarith : Outcome
badarith = raises classes.Error (atom (codes "badarith"))

abbrev pub badarg : Outcome
badarg = raises classes.Error (atom (codes "badarg"))

abbrev pub system_limit : Outcome
system_limit = raises classes.Error (atom (codes "system_limit"))

-- no function of the table
abbrev pub undef : Outcome
undef = raises classes.Error (atom (codes "undef"))

-- an integer as a value, where it is in the range
abbrev pub number : ℤ → Outcome
number n = if is_in_range n then gives (integer n) else system_limit

abbrev pub boolean_term : Bool → Term
boolean_term true = atom (codes "true")
boolean_term false = atom (codes "false")

abbrev pub truth : Bool → Outcome
truth b = gives (boolean_term b)

-- ---- arithmetic

abbrev pub arithmetic : (ℤ → ℤ → ℤ) → Term → Term → Outcome
arithmetic f (integer a) (integer b) = number (f a b)
arithmetic f t u = badarith

abbrev pub negated : Term → Outcome
negated (integer a) = number (neg_ℤ a)
negated t = badarith

-- the quotient is cut towards zero
abbrev pub divided : Term → Term → Outcome
divided (integer a) (integer b) = if int_eq b (pos 0) then badarith else number (int_div a b)
divided t u = badarith

-- the remainder has the dividend's sign
abbrev pub remainder : Term → Term → Outcome
remainder (integer a) (integer b) = if int_eq b (pos 0) then badarith else gives (integer (int_rem a b))
remainder t u = badarith

-- of two's complement; no result leaves the range
abbrev pub bitwise : (ℤ → ℤ → ℤ) → Term → Term → Outcome
bitwise f (integer a) (integer b) = gives (integer (f a b))
bitwise f t u = badarith

abbrev pub bits_turned : Term → Outcome
bits_turned (integer a) = gives (integer (int_bit_not w64 a))
bits_turned t = badarith

-- a divided by a natural number, cut downwards
abbrev pub floor : ℤ → ℕ → ℤ
floor (pos a) n = pos (a / n)
floor (negsuc a) n = negsuc (a / n)

-- a times 2 to the power b; where b is negative, the other shift
abbrev pub shifted_left : ℤ → ℤ → ℤ
shifted_left a (pos b) = a *ℤ pos (2 ^ b)
shifted_left a (negsuc b) = floor a (2 ^ suc b)

-- the floor of a over 2 to the power b; where b is negative, the other shift
abbrev pub shifted_right : ℤ → ℤ → ℤ
shifted_right a (pos b) = floor a (2 ^ b)
shifted_right a (negsuc b) = a *ℤ pos (2 ^ suc b)

-- ---- Booleans

abbrev pub boolean_named : List ℕ → Option Bool
boolean_named a = if bytes_eq a (codes "true") then Some true else if bytes_eq a (codes "false") then Some false else None

-- the Boolean that a term is
abbrev pub boolean_of : Term → Option Bool
boolean_of (atom a) = boolean_named a
boolean_of t = None

abbrev pub boolean_at : (Bool → Bool → Bool) → Option Bool → Option Bool → Outcome
boolean_at f (Some a) (Some b) = truth (f a b)
boolean_at f a b = badarg

abbrev pub boolean : (Bool → Bool → Bool) → Term → Term → Outcome
boolean f t u = boolean_at f (boolean_of t) (boolean_of u)

abbrev pub negation_at : Option Bool → Outcome
negation_at (Some a) = truth (not a)
negation_at None = badarg

abbrev pub negation : Term → Outcome
negation t = negation_at (boolean_of t)

-- ---- tests

abbrev pub is_integer : Term → Bool
is_integer (integer n) = true
is_integer t = false

abbrev pub is_atom : Term → Bool
is_atom (atom a) = true
is_atom t = false

-- the empty list or one with elements
abbrev pub is_list : Term → Bool
is_list nil = true
is_list (cons a b) = true
is_list t = false

abbrev pub is_tuple : Term → Bool
is_tuple (tuple ts) = true
is_tuple t = false

abbrev pub is_fun : Term → Bool
is_fun (fun f ts) = true
is_fun t = false

abbrev pub has_arity_at : (ℕ → ℕ) → Term → ℕ → Bool
has_arity_at arities (fun f ts) n = arities f == n
has_arity_at arities t n = false

-- a fun of this arity, where `arities` has the arity of each function by its number
abbrev pub has_arity : (ℕ → ℕ) → Term → Term → Outcome
has_arity arities t (integer (pos n)) = truth (has_arity_at arities t n)
has_arity arities t u = badarg

-- ---- lists

abbrev pub head : Term → Outcome
head (cons a b) = gives a
head t = badarg

abbrev pub tail : Term → Outcome
tail (cons a b) = gives b
tail t = badarg

-- the elements of a proper list
abbrev pub elements : Term → Option (List Term)
elements nil = Some []
elements (cons a b) = option_map (λ ts. a ∷ ts) (elements b)
elements t = None

abbrev pub length_at : Option (List Term) → Outcome
length_at (Some ts) = number (pos (length ts))
length_at None = badarg

abbrev pub length_of : Term → Outcome
length_of t = length_at (elements t)

abbrev pub appended_at : Option (List Term) → Term → Outcome
appended_at (Some ts) u = builds (list_words (length ts)) (cells ts u)
appended_at None u = badarg

-- the left one is copied, and the right one is its tail
abbrev pub appended : Term → Term → Outcome
appended t u = appended_at (elements t) u

-- ---- tuples

-- the element with this many before it
abbrev pub nth : Terms → ℕ → Option Term
nth none k = None
nth (more t ts) zero = Some t
nth (more t ts) (suc k) = nth ts k

-- the same terms with another one at this place
abbrev pub with_nth : Terms → ℕ → Term → Option Terms
with_nth none k u = None
with_nth (more t ts) zero u = Some (more u ts)
with_nth (more t ts) (suc k) u = option_map (λ us. more t us) (with_nth ts k u)

abbrev pub element_at : Option Term → Outcome
element_at (Some t) = gives t
element_at None = badarg

-- elements are counted from 1
abbrev pub element : Term → Term → Outcome
element (integer (pos (suc k))) (tuple ts) = element_at (nth ts k)
element t u = badarg

abbrev pub element_set_at : Option Terms → Outcome
element_set_at (Some ts) = builds (tuple_words (count ts)) (tuple ts)
element_set_at None = badarg

-- a copy of the tuple with another element
abbrev pub element_set : Term → Term → Term → Outcome
element_set (integer (pos (suc k))) (tuple ts) u = element_set_at (with_nth ts k u)
element_set t u v = badarg

abbrev pub size_of : Term → Outcome
size_of (tuple ts) = number (pos (count ts))
size_of t = badarg

-- ---- printing

abbrev pub displayed : Term → Outcome
displayed t = record { end = value (boolean_term true); printed = t ∷ []; words = 0 }

-- ---- the table

abbrev pub unary : (Term → Outcome) → List Term → Outcome
unary f (t ∷ []) = f t
unary f ts = undef

abbrev pub binary : (Term → Term → Outcome) → List Term → Outcome
binary f (t ∷ u ∷ []) = f t u
binary f ts = undef

abbrev pub ternary : (Term → Term → Term → Outcome) → List Term → Outcome
ternary f (t ∷ u ∷ v ∷ []) = f t u v
ternary f ts = undef

-- What a built-in function does with its arguments, where `arities` has the arity of each function of the program by its number.
abbrev pub bif_outcome : (arities : ℕ → ℕ) → Bif → List Term → Outcome
bif_outcome arities Add = binary (arithmetic (λ a b. a +ℤ b))
bif_outcome arities Subtract = binary (arithmetic (λ a b. a -ℤ b))
bif_outcome arities Multiply = binary (arithmetic (λ a b. a *ℤ b))
bif_outcome arities Negate = unary negated
bif_outcome arities Divide = binary divided
bif_outcome arities Remainder = binary remainder
bif_outcome arities BitAnd = binary (bitwise (int_bit_and w64))
bif_outcome arities BitOr = binary (bitwise (int_bit_or w64))
bif_outcome arities BitXor = binary (bitwise (int_bit_xor w64))
bif_outcome arities BitNot = unary bits_turned
bif_outcome arities ShiftLeft = binary (arithmetic shifted_left)
bif_outcome arities ShiftRight = binary (arithmetic shifted_right)
bif_outcome arities Equal = binary (λ t u. truth (is_eq (order t u)))
bif_outcome arities NotEqual = binary (λ t u. truth (not (is_eq (order t u))))
bif_outcome arities ExactlyEqual = binary (λ t u. truth (is_eq (order t u)))
bif_outcome arities ExactlyNotEqual = binary (λ t u. truth (not (is_eq (order t u))))
bif_outcome arities LessThan = binary (λ t u. truth (is_lt (order t u)))
bif_outcome arities AtMost = binary (λ t u. truth (not (is_gt (order t u))))
bif_outcome arities GreaterThan = binary (λ t u. truth (is_gt (order t u)))
bif_outcome arities AtLeast = binary (λ t u. truth (not (is_lt (order t u))))
bif_outcome arities And = binary (boolean (λ a b. a && b))
bif_outcome arities Or = binary (boolean (λ a b. a || b))
bif_outcome arities Not = unary negation
bif_outcome arities IsInteger = unary (λ t. truth (is_integer t))
bif_outcome arities IsNumber = unary (λ t. truth (is_integer t))
bif_outcome arities IsAtom = unary (λ t. truth (is_atom t))
bif_outcome arities IsBoolean = unary (λ t. truth (is_some (boolean_of t)))
bif_outcome arities IsList = unary (λ t. truth (is_list t))
bif_outcome arities IsTuple = unary (λ t. truth (is_tuple t))
bif_outcome arities IsFunction = unary (λ t. truth (is_fun t))
bif_outcome arities IsFunctionOfArity = binary (has_arity arities)
bif_outcome arities Head = unary head
bif_outcome arities Tail = unary tail
bif_outcome arities Length = unary length_of
bif_outcome arities Append = binary appended
bif_outcome arities Element = binary element
bif_outcome arities SetElement = ternary element_set
bif_outcome arities TupleSize = unary size_of
bif_outcome arities Error = unary (raises classes.Error)
bif_outcome arities Throw = unary (raises classes.Throw)
bif_outcome arities Exit = unary (raises classes.Exit)
bif_outcome arities Display = unary displayed
