-- The terminals of a text are what tokens can be.
use Rattle.std.proofs.Common.{◌≡◌, Option, Some, None, ◌⊎◌, ℕ, ◌<◌, ◌≤◌, ℤ, pos, Bool, true, false, cond, ◌&&◌, nat_le, List, [], ◌∷◌, All, refl, ap, sym, ◌∙◌, subst, arith}
use Rattle.std.specs.Char.{IsScalar}
use lib.Utf8.{scalar, scalar_cases}
use Rattle.std.specs.Str.{all_scalars}
use Rattle.std.proofs.lemmas.Bool.Decides.{nat_tests}
use Rattle.std.proofs.lemmas.List.Elements.{All-head, All-tail}
use Rattle.hipe_terms.specs.Range.{is_in_range}
use Rattle.hipe_terms.proofs.Parts.{and_first, and_second}
use Rattle.core_text.specs.Bytes.{is_digit, begins, number_from}
use Rattle.core_text.specs.Numbers.{none, plus, minus, IsInteger, integer as spelled_integer}
use Rattle.core_token.specs.declared.token.Sort.{Sort}
use Rattle.core_token.specs.declared.token.Token.{Token}
use Rattle.core_token.specs.Spelling.{Spells, variable, integer}
use Rattle.core_token.specs.Text.{AreTokensOf, StandsIn, bytes_of}
use Rattle.core_token.specs.Values.{code_points_of, HasValue}
use Rattle.core_token.proofs.Spelled.{most, in_range}
use Rattle.core_token.proofs.Valued.{integer_there, stand}
use Rattle.core_grammar.specs.declared.terminal.Kind.{Kind}
use Rattle.core_grammar.specs.declared.terminal.Mark.{Mark}
use Rattle.core_grammar.specs.declared.terminal.Terminal.{Terminal}
use Rattle.core_grammar.specs.Ranges.{code_points_in_range, kind_in_range, terminals_in_range}
use Rattle.core_round_trip.specs.Fits.{IsInRange}
use Rattle.core_round_trip.proofs.GoodKinds.{IsGoodKind, AreGood}
use Rattle.core_reader.specs.Terminals.{number_of, or_zero, or_nul, marked, keyword_of, sign_of, kind_of, terminals_of}

both : (a b : Bool) → a ≡ true → b ≡ true → (a && b) ≡ true
both a b h k = ap (λ x. x && b) h ∙ k

scalar_in_range : (v : ℕ) → IsScalar v → IsInRange (pos v)
scalar_in_range v h = in_range false v ∙ few (scalar_cases v h)
  where
    few : (v < 55296) ⊎ ((57344 ≤ v) × (v < 1114112)) → nat_le v (most false) ≡ true
    few c = grind (arith, nat_tests)

scalars_in_range : (vs : List ℕ) → all_scalars vs ≡ true → code_points_in_range vs ≡ true
scalars_in_range [] h = refl
scalars_in_range (v ∷ vs) h = both (is_in_range (pos v)) (code_points_in_range vs) (scalar_in_range v (and_first (scalar v) (all_scalars vs) h)) (scalars_in_range vs (and_second (scalar v) (all_scalars vs) h))

-- integers

number_good : (b : Bool) (m : ℕ) → IsInRange (pos m) → IsGoodKind (cond b (Kind.Natural m) (Kind.Integer (pos m)))
number_good true m h = h
number_good false m h = h

integer_good_by : (n : ℤ) (cs us : List ℕ) → IsInteger n cs us → IsInRange n → IsGoodKind (number_of cs n)
integer_good_by n cs us (spelled_integer ds vs none digits ends) few = number_good (begins is_digit ds) (number_from 10 0 ds) few
integer_good_by n cs us (spelled_integer ds vs plus digits ends) few = few
integer_good_by n cs us (spelled_integer ds vs minus digits ends) few = few

integer_good : (n : ℤ) (cs us : List ℕ) → IsInteger n cs us → IsInRange n → IsGoodKind (kind_of Sort.Integer cs)
integer_good n cs us is few = subst (λ o. IsGoodKind (number_of cs (or_zero o))) (sym (integer_there n cs us is few)) (integer_good_by n cs us is few)

-- each sort

variable_good : (cs us : List ℕ) → Spells Sort.Variable cs us → IsGoodKind (Kind.Variable cs)
variable_good [] us x' = elim x' [ ]
variable_good (c ∷ cs) us (variable h hs) = (h, hs.0)

spelled_integer_good : (cs us : List ℕ) → Spells Sort.Integer cs us → IsGoodKind (kind_of Sort.Integer cs)
spelled_integer_good cs us (integer {n = n} is few) = integer_good n cs us is few

marked_good : (o : Option Mark) → IsGoodKind (marked o)
marked_good None = tt
marked_good (Some m) = tt

kind_good : (sort : Sort) (cs us : List ℕ) → Spells sort cs us → HasValue sort cs → IsGoodKind (kind_of sort cs)
kind_good Sort.Atom cs us is h = (h.1, h.2)
kind_good Sort.Variable cs us is h = variable_good cs us is
kind_good Sort.Integer cs us is h = spelled_integer_good cs us is
kind_good Sort.Float cs us is h = tt
kind_good Sort.Character cs us is h = subst (λ o. IsInRange (pos (or_nul o))) (sym h.1) (scalar_in_range h.0 h.2)
kind_good Sort.Text cs us is h = scalars_in_range (code_points_of cs) h.1
kind_good Sort.Word cs us is h = marked_good (keyword_of cs)
kind_good Sort.Sign cs us is h = marked_good (sign_of cs)

all_good : (s : List ℕ) (ts : List Token) → All (StandsIn s) ts → AreGood (terminals_of s ts)
all_good s [] h = tt
all_good s (t ∷ ts) h =
    let x = All-head (StandsIn s) t ts h in
    (kind_good t.sort (bytes_of s t) _ x.spelled x.value, all_good s ts (All-tail (StandsIn s) t ts h))

pub tokens_good : (s : List ℕ) (ts : List Token) → AreTokensOf s ts → AreGood (terminals_of s ts)
tokens_good s ts h = all_good s ts (stand s ts h)

-- and their numbers are in the range

good_in_range : (k : Kind) → IsGoodKind k → kind_in_range k ≡ true
good_in_range (Kind.Atom a) h = refl
good_in_range (Kind.Variable x) h = refl
good_in_range (Kind.Natural n) h = h
good_in_range (Kind.Integer n) h = h
good_in_range Kind.Float h = refl
good_in_range (Kind.Text s) h = h
good_in_range (Kind.Mark m) h = refl

pub goods_in_range : (ts : List Terminal) → AreGood ts → terminals_in_range ts ≡ true
goods_in_range [] h = refl
goods_in_range (t ∷ ts) h = both (kind_in_range t.kind) (terminals_in_range ts) (good_in_range t.kind h.0) (goods_in_range ts h.1)
