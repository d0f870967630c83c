-- The names of the built-in functions of `erlang`, and how many arguments each takes.
use Rattle.std.specs.Prelude.{ℕ, ◌==◌, ◌&&◌, if◌then◌else◌, List, [], ◌∷◌, codes, Option, Some, None, bytes_eq}
use Rattle.hipe_terms.specs.declared.bif.Bif.{Bif}
use Rattle.hipe_terms.specs.declared.bif.Bif.TheVariants.{Add, Subtract, Multiply, Negate, Divide, Remainder, BitAnd, BitOr, BitXor, BitNot, ShiftLeft, ShiftRight, Equal, NotEqual, ExactlyEqual, ExactlyNotEqual, LessThan, AtMost, GreaterThan, AtLeast, And, Or, Not, IsInteger, IsNumber, IsAtom, IsBoolean, IsList, IsTuple, IsFunction, IsFunctionOfArity, Head, Tail, Length, Append, Element, SetElement, TupleSize, Error, Throw, Exit, Display}

abbrev pub bif_name : Bif → List ℕ
bif_name Add = codes "+"
bif_name Subtract = codes "-"
bif_name Multiply = codes "*"
bif_name Negate = codes "-"
bif_name Divide = codes "div"
bif_name Remainder = codes "rem"
bif_name BitAnd = codes "band"
bif_name BitOr = codes "bor"
bif_name BitXor = codes "bxor"
bif_name BitNot = codes "bnot"
bif_name ShiftLeft = codes "bsl"
bif_name ShiftRight = codes "bsr"
bif_name Equal = codes "=="
bif_name NotEqual = codes "/="
bif_name ExactlyEqual = codes "=:="
bif_name ExactlyNotEqual = codes "=/="
bif_name LessThan = codes "<"
bif_name AtMost = codes "=<"
bif_name GreaterThan = codes ">"
bif_name AtLeast = codes ">="
bif_name And = codes "and"
bif_name Or = codes "or"
bif_name Not = codes "not"
bif_name IsInteger = codes "is_integer"
bif_name IsNumber = codes "is_number"
bif_name IsAtom = codes "is_atom"
bif_name IsBoolean = codes "is_boolean"
bif_name IsList = codes "is_list"
bif_name IsTuple = codes "is_tuple"
bif_name IsFunction = codes "is_function"
bif_name IsFunctionOfArity = codes "is_function"
bif_name Head = codes "hd"
bif_name Tail = codes "tl"
bif_name Length = codes "length"
bif_name Append = codes "++"
bif_name Element = codes "element"
bif_name SetElement = codes "setelement"
bif_name TupleSize = codes "tuple_size"
bif_name Error = codes "error"
bif_name Throw = codes "throw"
bif_name Exit = codes "exit"
bif_name Display = codes "display"

abbrev pub bif_arity : Bif → ℕ
bif_arity Add = 2
bif_arity Subtract = 2
bif_arity Multiply = 2
bif_arity Negate = 1
bif_arity Divide = 2
bif_arity Remainder = 2
bif_arity BitAnd = 2
bif_arity BitOr = 2
bif_arity BitXor = 2
bif_arity BitNot = 1
bif_arity ShiftLeft = 2
bif_arity ShiftRight = 2
bif_arity Equal = 2
bif_arity NotEqual = 2
bif_arity ExactlyEqual = 2
bif_arity ExactlyNotEqual = 2
bif_arity LessThan = 2
bif_arity AtMost = 2
bif_arity GreaterThan = 2
bif_arity AtLeast = 2
bif_arity And = 2
bif_arity Or = 2
bif_arity Not = 1
bif_arity IsInteger = 1
bif_arity IsNumber = 1
bif_arity IsAtom = 1
bif_arity IsBoolean = 1
bif_arity IsList = 1
bif_arity IsTuple = 1
bif_arity IsFunction = 1
bif_arity IsFunctionOfArity = 2
bif_arity Head = 1
bif_arity Tail = 1
bif_arity Length = 1
bif_arity Append = 2
bif_arity Element = 2
bif_arity SetElement = 3
bif_arity TupleSize = 1
bif_arity Error = 1
bif_arity Throw = 1
bif_arity Exit = 1
bif_arity Display = 1

-- all of them
abbrev pub built_ins : List Bif
built_ins =
    Add ∷ Subtract ∷ Multiply ∷ Negate ∷ Divide ∷ Remainder ∷ BitAnd ∷ BitOr ∷ BitXor ∷ BitNot ∷ ShiftLeft ∷ ShiftRight
    ∷ Equal ∷ NotEqual ∷ ExactlyEqual ∷ ExactlyNotEqual ∷ LessThan ∷ AtMost ∷ GreaterThan ∷ AtLeast ∷ And ∷ Or ∷ Not
    ∷ IsInteger ∷ IsNumber ∷ IsAtom ∷ IsBoolean ∷ IsList ∷ IsTuple ∷ IsFunction ∷ IsFunctionOfArity
    ∷ Head ∷ Tail ∷ Length ∷ Append ∷ Element ∷ SetElement ∷ TupleSize ∷ Error ∷ Throw ∷ Exit ∷ Display ∷ []

abbrev pub first_named : List ℕ → ℕ → List Bif → Option Bif
first_named f n [] = None
first_named f n (b ∷ bs) = if bytes_eq (bif_name b) f && (bif_arity b == n) then Some b else first_named f n bs

-- the built-in function of this module, name and number of arguments
unfoldable pub built_in : (of name : List ℕ) → ℕ → Option Bif
built_in m f n = if bytes_eq m (codes "erlang") then first_named f n built_ins else None
