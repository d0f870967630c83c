-- The names of the built-in functions are texts of ASCII.
use Rattle.std.proofs.Common.{◌≡◌, ℕ, true, nat_lt, List, refl, ap, sym, ◌∙◌, bytes_eq}
use Rattle.std.specs.Prelude.{encode_utf8_all}
use Rattle.std.specs.List.{list_all}
use Rattle.hipe_terms.specs.Bifs.{bif_name}
use Rattle.hipe_terms.specs.declared.bif.Bif.{Bif}
use Rattle.hipe_terms.specs.declared.bif.Bif.TheVariants.{Add, Subtract, Multiply, Negate, Divide, Remainder, BitAnd, BitOr, BitXor, BitNot, ShiftLeft, ShiftRight, Equal, NotEqual, ExactlyEqual, ExactlyNotEqual, LessThan, AtMost, GreaterThan, AtLeast, And, Or, Not, IsInteger, IsNumber, IsAtom, IsBoolean, IsList, IsTuple, IsFunction, IsFunctionOfArity, Head, Tail, Length, Append, Element, SetElement, TupleSize, Error, Throw, Exit, Display}
use Rattle.hipe_terms.proofs.AtomTexts.{bytes_eq-encode, encode-ascii}

-- a text of ASCII is an atom if and only if it is the bytes of the atom
pub ascii-bytes_eq : (a w : List ℕ) → list_all (λ b. nat_lt b 128) w ≡ true → bytes_eq w (encode_utf8_all a) ≡ bytes_eq w a
ascii-bytes_eq a w h = ap (λ x. bytes_eq x (encode_utf8_all a)) (sym (encode-ascii w h)) ∙ bytes_eq-encode w a

-- the names are texts of ASCII
pub named_in_ascii : (b : Bif) → list_all (λ x. nat_lt x 128) (bif_name b) ≡ true
named_in_ascii Add = refl
named_in_ascii Subtract = refl
named_in_ascii Multiply = refl
named_in_ascii Negate = refl
named_in_ascii Divide = refl
named_in_ascii Remainder = refl
named_in_ascii BitAnd = refl
named_in_ascii BitOr = refl
named_in_ascii BitXor = refl
named_in_ascii BitNot = refl
named_in_ascii ShiftLeft = refl
named_in_ascii ShiftRight = refl
named_in_ascii Equal = refl
named_in_ascii NotEqual = refl
named_in_ascii ExactlyEqual = refl
named_in_ascii ExactlyNotEqual = refl
named_in_ascii LessThan = refl
named_in_ascii AtMost = refl
named_in_ascii GreaterThan = refl
named_in_ascii AtLeast = refl
named_in_ascii And = refl
named_in_ascii Or = refl
named_in_ascii Not = refl
named_in_ascii IsInteger = refl
named_in_ascii IsNumber = refl
named_in_ascii IsAtom = refl
named_in_ascii IsBoolean = refl
named_in_ascii IsList = refl
named_in_ascii IsTuple = refl
named_in_ascii IsFunction = refl
named_in_ascii IsFunctionOfArity = refl
named_in_ascii Head = refl
named_in_ascii Tail = refl
named_in_ascii Length = refl
named_in_ascii Append = refl
named_in_ascii Element = refl
named_in_ascii SetElement = refl
named_in_ascii TupleSize = refl
named_in_ascii Error = refl
named_in_ascii Throw = refl
named_in_ascii Exit = refl
named_in_ascii Display = refl
