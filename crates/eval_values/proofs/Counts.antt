-- No built-in function takes no argument, or more than three.
use Rattle.std.proofs.Common.{◌≡◌, ℕ, ◌<◌, ◌≤◌, List, [], ◌∷◌, length, refl, arith}
use Rattle.hipe_terms.specs.Outcome.{bif_outcome, undef}
use Rattle.hipe_terms.specs.Terms.{Term}
use Rattle.hipe_terms.specs.declared.bif.Bif.{Bif}
use Rattle.hipe_terms.specs.declared.bif.Bif.TheVariants.{Add, Subtract, Multiply, Negate, Divide, Remainder, BitAnd, BitOr, BitXor, BitNot, ShiftLeft, ShiftRight, Equal, NotEqual, ExactlyEqual, ExactlyNotEqual, LessThan, AtMost, GreaterThan, AtLeast, And, Or, Not, IsInteger, IsNumber, IsAtom, IsBoolean, IsList, IsTuple, IsFunction, IsFunctionOfArity, Head, Tail, Length, Append, Element, SetElement, TupleSize, Error, Throw, Exit, Display}
use Rattle.eval_values.specs.declared.value.Value.{Value}
use Rattle.eval_values.specs.Values.{terms_in}

of_none : (arities : ℕ → ℕ) (b : Bif) → bif_outcome arities b [] ≡ undef
of_none arities Add = refl
of_none arities Subtract = refl
of_none arities Multiply = refl
of_none arities Negate = refl
of_none arities Divide = refl
of_none arities Remainder = refl
of_none arities BitAnd = refl
of_none arities BitOr = refl
of_none arities BitXor = refl
of_none arities BitNot = refl
of_none arities ShiftLeft = refl
of_none arities ShiftRight = refl
of_none arities Equal = refl
of_none arities NotEqual = refl
of_none arities ExactlyEqual = refl
of_none arities ExactlyNotEqual = refl
of_none arities LessThan = refl
of_none arities AtMost = refl
of_none arities GreaterThan = refl
of_none arities AtLeast = refl
of_none arities And = refl
of_none arities Or = refl
of_none arities Not = refl
of_none arities IsInteger = refl
of_none arities IsNumber = refl
of_none arities IsAtom = refl
of_none arities IsBoolean = refl
of_none arities IsList = refl
of_none arities IsTuple = refl
of_none arities IsFunction = refl
of_none arities IsFunctionOfArity = refl
of_none arities Head = refl
of_none arities Tail = refl
of_none arities Length = refl
of_none arities Append = refl
of_none arities Element = refl
of_none arities SetElement = refl
of_none arities TupleSize = refl
of_none arities Error = refl
of_none arities Throw = refl
of_none arities Exit = refl
of_none arities Display = refl

of_four : (arities : ℕ → ℕ) (b : Bif) (t u v w : Term) (ts : List Term) → bif_outcome arities b (t ∷ u ∷ v ∷ w ∷ ts) ≡ undef
of_four arities Add t u v w ts = refl
of_four arities Subtract t u v w ts = refl
of_four arities Multiply t u v w ts = refl
of_four arities Negate t u v w ts = refl
of_four arities Divide t u v w ts = refl
of_four arities Remainder t u v w ts = refl
of_four arities BitAnd t u v w ts = refl
of_four arities BitOr t u v w ts = refl
of_four arities BitXor t u v w ts = refl
of_four arities BitNot t u v w ts = refl
of_four arities ShiftLeft t u v w ts = refl
of_four arities ShiftRight t u v w ts = refl
of_four arities Equal t u v w ts = refl
of_four arities NotEqual t u v w ts = refl
of_four arities ExactlyEqual t u v w ts = refl
of_four arities ExactlyNotEqual t u v w ts = refl
of_four arities LessThan t u v w ts = refl
of_four arities AtMost t u v w ts = refl
of_four arities GreaterThan t u v w ts = refl
of_four arities AtLeast t u v w ts = refl
of_four arities And t u v w ts = refl
of_four arities Or t u v w ts = refl
of_four arities Not t u v w ts = refl
of_four arities IsInteger t u v w ts = refl
of_four arities IsNumber t u v w ts = refl
of_four arities IsAtom t u v w ts = refl
of_four arities IsBoolean t u v w ts = refl
of_four arities IsList t u v w ts = refl
of_four arities IsTuple t u v w ts = refl
of_four arities IsFunction t u v w ts = refl
of_four arities IsFunctionOfArity t u v w ts = refl
of_four arities Head t u v w ts = refl
of_four arities Tail t u v w ts = refl
of_four arities Length t u v w ts = refl
of_four arities Append t u v w ts = refl
of_four arities Element t u v w ts = refl
of_four arities SetElement t u v w ts = refl
of_four arities TupleSize t u v w ts = refl
of_four arities Error t u v w ts = refl
of_four arities Throw t u v w ts = refl
of_four arities Exit t u v w ts = refl
of_four arities Display t u v w ts = refl

pub without : (arities : ℕ → ℕ) (b : Bif) (vs : List Value) → length vs < 1 → bif_outcome arities b (terms_in vs) ≡ undef
without arities b [] h = of_none arities b
without arities b (v ∷ vs) h = absurd (omega arith)

pub too_many : (arities : ℕ → ℕ) (b : Bif) (vs : List Value) → 4 ≤ length vs → bif_outcome arities b (terms_in vs) ≡ undef
too_many arities b [] h = absurd (omega arith)
too_many arities b (t ∷ []) h = absurd (omega arith)
too_many arities b (t ∷ u ∷ []) h = absurd (omega arith)
too_many arities b (t ∷ u ∷ v ∷ []) h = absurd (omega arith)
too_many arities b (t ∷ u ∷ v ∷ w ∷ vs) h = of_four arities b _ _ _ _ (terms_in vs)
