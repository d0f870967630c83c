-- The built-in functions make good terms of good terms, and raise with good ones.
use Rattle.std.proofs.Common.{ℕ, zero, suc, List, [], ◌∷◌, Option, Some, None}
use Rattle.std.specs.Prelude.{ℤ, pos, neg_ℤ, ◌+ℤ◌, ◌-ℤ◌, ◌*ℤ◌, int_div, int_rem, Bool, true, false, not, ◌&&◌, ◌||◌, if◌then◌else◌, is_some, option_map, length}
use Rattle.std.specs.Int.{int_bit_and, int_bit_or, int_bit_xor, w64}
use Rattle.std.specs.Ordering.{int_eq, is_eq, is_lt, is_gt}
use Rattle.hipe_terms.specs.Terms.{Term, integer, atom, nil, cons, tuple, fun, Terms, none, more, count}
use Rattle.hipe_terms.specs.Order.{order}
use Rattle.hipe_terms.specs.Range.{is_in_range}
use Rattle.hipe_terms.specs.declared.bif.Bif.{Bif}
use Rattle.hipe_terms.specs.declared.bif.Bif.TheVariants.{Add, Subtract, Multiply, Negate, Divide, Remainder, BitAnd, BitOr, BitXor, BitNot, ShiftLeft, ShiftRight, Equal, NotEqual, ExactlyEqual, ExactlyNotEqual, LessThan, AtMost, GreaterThan, AtLeast, And, Or, Not, IsInteger, IsNumber, IsAtom, IsBoolean, IsList, IsTuple, IsFunction, IsFunctionOfArity, Head, Tail, Length, Append, Element, SetElement, TupleSize, Error, Throw, Exit, Display}
use Rattle.hipe_terms.specs.Outcome.{End, Outcome, gives, raises, badarith, system_limit, number, truth, arithmetic, negated, divided, remainder, bitwise, bits_turned, shifted_left, shifted_right, boolean_of, boolean_at, boolean, negation_at, negation, is_integer, is_atom, is_list, is_tuple, is_fun, has_arity_at, has_arity, head, tail, elements, length_at, length_of, appended_at, appended, nth, with_nth, element_at, element, element_set_at, element_set, size_of, displayed, unary, binary, ternary, bif_outcome}
use Rattle.hipe_terms.specs.declared.class.Class.{Class}
use Rattle.hipe_terms.specs.declared.class.Class.TheVariants as classes
use Rattle.core_meaning.specs.Procedures.{Program}
use Rattle.core_soundness.proofs.Terms.{GoodTerm, GoodTerms, AllGood, cells_good}

module _ (program : Program) where
  abbrev pub GoodEnd : End → Type 0
  GoodEnd (End.value t) = GoodTerm program t
  GoodEnd (End.raised class reason) = GoodTerm program reason

  abbrev Gives : Outcome → Type 0
  Gives o = GoodEnd o.end

  cond_gives : (b : Bool) (o p : Outcome) → Gives o → Gives p → Gives (if b then o else p)
  cond_gives true o p g h = g
  cond_gives false o p g h = h

  truth_gives : (b : Bool) → Gives (truth b)
  truth_gives true = tt
  truth_gives false = tt

  number_gives : (n : ℤ) → Gives (number n)
  number_gives n = cond_gives (is_in_range n) (gives (integer n)) system_limit tt tt

  arithmetic_gives : (f : ℤ → ℤ → ℤ) (t u : Term) → Gives (arithmetic f t u)
  arithmetic_gives f (integer a) (integer b) = number_gives (f a b)
  arithmetic_gives f t u = tt

  negated_gives : (t : Term) → Gives (negated t)
  negated_gives (integer a) = number_gives (neg_ℤ a)
  negated_gives t = tt

  divided_gives : (t u : Term) → Gives (divided t u)
  divided_gives (integer a) (integer b) = cond_gives (int_eq b (pos 0)) badarith (number (int_div a b)) tt (number_gives (int_div a b))
  divided_gives t u = tt

  remainder_gives : (t u : Term) → Gives (remainder t u)
  remainder_gives (integer a) (integer b) = cond_gives (int_eq b (pos 0)) badarith (gives (integer (int_rem a b))) tt tt
  remainder_gives t u = tt

  bitwise_gives : (f : ℤ → ℤ → ℤ) (t u : Term) → Gives (bitwise f t u)
  bitwise_gives f (integer a) (integer b) = tt
  bitwise_gives f t u = tt

  turned_gives : (t : Term) → Gives (bits_turned t)
  turned_gives (integer a) = tt
  turned_gives t = tt

  boolean_at_gives : (f : Bool → Bool → Bool) (a b : Option Bool) → Gives (boolean_at f a b)
  boolean_at_gives f (Some a) (Some b) = truth_gives (f a b)
  boolean_at_gives f a b = tt

  negation_at_gives : (a : Option Bool) → Gives (negation_at a)
  negation_at_gives (Some a) = truth_gives (not a)
  negation_at_gives None = tt

  has_arity_gives : (arities : ℕ → ℕ) (t u : Term) → Gives (has_arity arities t u)
  has_arity_gives arities t (integer (pos n)) = truth_gives (has_arity_at arities t n)
  has_arity_gives arities t u = tt

  head_gives : (t : Term) → GoodTerm program t → Gives (head t)
  head_gives (cons a b) g = g.0
  head_gives t g = tt

  tail_gives : (t : Term) → GoodTerm program t → Gives (tail t)
  tail_gives (cons a b) g = g.1
  tail_gives t g = tt

  abbrev IfGood : Option (List Term) → Type 0
  IfGood None = Unit {0}
  IfGood (Some ts) = AllGood program ts

  prepended_good : (t : Term) (o : Option (List Term)) → GoodTerm program t → IfGood o → IfGood (option_map (λ ts. t ∷ ts) o)
  prepended_good t None g h = tt
  prepended_good t (Some ts) g h = (g, h)

  elements_good : (t : Term) → GoodTerm program t → IfGood (elements t)
  elements_good nil g = tt
  elements_good (cons a b) g = prepended_good a (elements b) g.0 (elements_good b g.1)
  elements_good (integer n) g = tt
  elements_good (atom a) g = tt
  elements_good (tuple ts) g = tt
  elements_good (fun n ts) g = tt

  length_gives : (o : Option (List Term)) → Gives (length_at o)
  length_gives (Some ts) = number_gives (pos (length ts))
  length_gives None = tt

  appended_gives : (o : Option (List Term)) (u : Term) → IfGood o → GoodTerm program u → Gives (appended_at o u)
  appended_gives (Some ts) u g h = cells_good program ts u g h
  appended_gives None u g h = tt

  abbrev IfTerm : Option Term → Type 0
  IfTerm None = Unit {0}
  IfTerm (Some t) = GoodTerm program t

  abbrev IfTerms : Option Terms → Type 0
  IfTerms None = Unit {0}
  IfTerms (Some ts) = GoodTerms program ts

  nth_good : (ts : Terms) (k : ℕ) → GoodTerms program ts → IfTerm (nth ts k)
  nth_good none k g = tt
  nth_good (more t ts) zero g = g.0
  nth_good (more t ts) (suc k) g = nth_good ts k g.1

  behind_good : (t : Term) (o : Option Terms) → GoodTerm program t → IfTerms o → IfTerms (option_map (λ us. more t us) o)
  behind_good t None g h = tt
  behind_good t (Some ts) g h = (g, h)

  with_nth_good : (ts : Terms) (k : ℕ) (u : Term) → GoodTerms program ts → GoodTerm program u → IfTerms (with_nth ts k u)
  with_nth_good none k u g h = tt
  with_nth_good (more t ts) zero u g h = (h, g.1)
  with_nth_good (more t ts) (suc k) u g h = behind_good t (with_nth ts k u) g.0 (with_nth_good ts k u g.1 h)

  element_at_gives : (o : Option Term) → IfTerm o → Gives (element_at o)
  element_at_gives None g = tt
  element_at_gives (Some t) g = g

  element_gives : (t u : Term) → GoodTerm program u → Gives (element t u)
  element_gives (integer (pos (suc k))) (tuple ts) g = element_at_gives (nth ts k) (nth_good ts k g)
  element_gives t u g = tt

  element_set_at_gives : (o : Option Terms) → IfTerms o → Gives (element_set_at o)
  element_set_at_gives None g = tt
  element_set_at_gives (Some ts) g = g

  element_set_gives : (t u v : Term) → GoodTerm program u → GoodTerm program v → Gives (element_set t u v)
  element_set_gives (integer (pos (suc k))) (tuple ts) v g h = element_set_at_gives (with_nth ts k v) (with_nth_good ts k v g h)
  element_set_gives t u v g h = tt

  size_gives : (t : Term) → Gives (size_of t)
  size_gives (tuple ts) = number_gives (pos (count ts))
  size_gives t = tt

  unary_gives : (f : Term → Outcome) (ts : List Term) → ((t : Term) → GoodTerm program t → Gives (f t)) → AllGood program ts → Gives (unary f ts)
  unary_gives f (t ∷ []) h g = h t g.0
  unary_gives f [] h g = tt
  unary_gives f (t ∷ u ∷ ts) h g = tt

  binary_gives : (f : Term → Term → Outcome) (ts : List Term) → ((t u : Term) → GoodTerm program t → GoodTerm program u → Gives (f t u)) → AllGood program ts → Gives (binary f ts)
  binary_gives f (t ∷ u ∷ []) h g = h t u g.0 g.1.0
  binary_gives f [] h g = tt
  binary_gives f (t ∷ []) h g = tt
  binary_gives f (t ∷ u ∷ v ∷ ts) h g = tt

  ternary_gives : (f : Term → Term → Term → Outcome) (ts : List Term) → ((t u v : Term) → GoodTerm program t → GoodTerm program u → GoodTerm program v → Gives (f t u v)) → AllGood program ts → Gives (ternary f ts)
  ternary_gives f (t ∷ u ∷ v ∷ []) h g = h t u v g.0 g.1.0 g.1.1.0
  ternary_gives f [] h g = tt
  ternary_gives f (t ∷ []) h g = tt
  ternary_gives f (t ∷ u ∷ []) h g = tt
  ternary_gives f (t ∷ u ∷ v ∷ w ∷ ts) h g = tt

  compared : (f : Term → Term → Bool) (ts : List Term) → AllGood program ts → Gives (binary (λ t u. truth (f t u)) ts)
  compared f ts g = binary_gives (λ t u. truth (f t u)) ts (λ t u _ _. truth_gives (f t u)) g

  tested : (f : Term → Bool) (ts : List Term) → AllGood program ts → Gives (unary (λ t. truth (f t)) ts)
  tested f ts g = unary_gives (λ t. truth (f t)) ts (λ t _. truth_gives (f t)) g

  calculated : (f : ℤ → ℤ → ℤ) (ts : List Term) → AllGood program ts → Gives (binary (arithmetic f) ts)
  calculated f ts g = binary_gives (arithmetic f) ts (λ t u _ _. arithmetic_gives f t u) g

  bits : (f : ℤ → ℤ → ℤ) (ts : List Term) → AllGood program ts → Gives (binary (bitwise f) ts)
  bits f ts g = binary_gives (bitwise f) ts (λ t u _ _. bitwise_gives f t u) g

  joined : (f : Bool → Bool → Bool) (ts : List Term) → AllGood program ts → Gives (binary (boolean f) ts)
  joined f ts g = binary_gives (boolean f) ts (λ t u _ _. boolean_at_gives f (boolean_of t) (boolean_of u)) g

  raising : (class : Class) (ts : List Term) → AllGood program ts → Gives (unary (raises class) ts)
  raising class ts g = unary_gives (raises class) ts (λ t g. g) g

  pub outcome_good : (arities : ℕ → ℕ) (b : Bif) (ts : List Term) → AllGood program ts → GoodEnd (bif_outcome arities b ts).end
  outcome_good arities Add ts g = calculated (λ a b. a +ℤ b) ts g
  outcome_good arities Subtract ts g = calculated (λ a b. a -ℤ b) ts g
  outcome_good arities Multiply ts g = calculated (λ a b. a *ℤ b) ts g
  outcome_good arities Negate ts g = unary_gives negated ts (λ t _. negated_gives t) g
  outcome_good arities Divide ts g = binary_gives divided ts (λ t u _ _. divided_gives t u) g
  outcome_good arities Remainder ts g = binary_gives remainder ts (λ t u _ _. remainder_gives t u) g
  outcome_good arities BitAnd ts g = bits (int_bit_and w64) ts g
  outcome_good arities BitOr ts g = bits (int_bit_or w64) ts g
  outcome_good arities BitXor ts g = bits (int_bit_xor w64) ts g
  outcome_good arities BitNot ts g = unary_gives bits_turned ts (λ t _. turned_gives t) g
  outcome_good arities ShiftLeft ts g = calculated shifted_left ts g
  outcome_good arities ShiftRight ts g = calculated shifted_right ts g
  outcome_good arities Equal ts g = compared (λ t u. is_eq (order t u)) ts g
  outcome_good arities NotEqual ts g = compared (λ t u. not (is_eq (order t u))) ts g
  outcome_good arities ExactlyEqual ts g = compared (λ t u. is_eq (order t u)) ts g
  outcome_good arities ExactlyNotEqual ts g = compared (λ t u. not (is_eq (order t u))) ts g
  outcome_good arities LessThan ts g = compared (λ t u. is_lt (order t u)) ts g
  outcome_good arities AtMost ts g = compared (λ t u. not (is_gt (order t u))) ts g
  outcome_good arities GreaterThan ts g = compared (λ t u. is_gt (order t u)) ts g
  outcome_good arities AtLeast ts g = compared (λ t u. not (is_lt (order t u))) ts g
  outcome_good arities And ts g = joined (λ a b. a && b) ts g
  outcome_good arities Or ts g = joined (λ a b. a || b) ts g
  outcome_good arities Not ts g = unary_gives negation ts (λ t _. negation_at_gives (boolean_of t)) g
  outcome_good arities IsInteger ts g = tested is_integer ts g
  outcome_good arities IsNumber ts g = tested is_integer ts g
  outcome_good arities IsAtom ts g = tested is_atom ts g
  outcome_good arities IsBoolean ts g = tested (λ t. is_some (boolean_of t)) ts g
  outcome_good arities IsList ts g = tested is_list ts g
  outcome_good arities IsTuple ts g = tested is_tuple ts g
  outcome_good arities IsFunction ts g = tested is_fun ts g
  outcome_good arities IsFunctionOfArity ts g = binary_gives (has_arity arities) ts (λ t u _ _. has_arity_gives arities t u) g
  outcome_good arities Head ts g = unary_gives head ts head_gives g
  outcome_good arities Tail ts g = unary_gives tail ts tail_gives g
  outcome_good arities Length ts g = unary_gives length_of ts (λ t _. length_gives (elements t)) g
  outcome_good arities Append ts g = binary_gives appended ts (λ t u g h. appended_gives (elements t) u (elements_good t g) h) g
  outcome_good arities Element ts g = binary_gives element ts (λ t u _ g. element_gives t u g) g
  outcome_good arities SetElement ts g = ternary_gives element_set ts (λ t u v _ g h. element_set_gives t u v g h) g
  outcome_good arities TupleSize ts g = unary_gives size_of ts (λ t _. size_gives t) g
  outcome_good arities Error ts g = raising classes.Error ts g
  outcome_good arities Throw ts g = raising classes.Throw ts g
  outcome_good arities Exit ts g = raising classes.Exit ts g
  outcome_good arities Display ts g = unary_gives displayed ts (λ t _. tt) g
