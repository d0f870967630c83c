-- What is read of a text is well formed, and arguments are constants: the numbers of its terminals are in their range.
use Rattle.std.proofs.Common.{◌≡◌, ℕ, ℤ, pos, negsuc, Bool, true, false, ◌&&◌, ◌==◌, List, [], ◌∷◌, All, Option, Some, None, Result, Ok, Err, arith, refl, ap, sym, ◌∙◌, subst}
use Rattle.std.specs.Prelude.{nat_abs, if◌then◌else◌, IfOk}
use Rattle.std.specs.Char.{IsScalar}
use lib.Utf8.{scalar, scalar_fits}
use Rattle.std.specs.Str.{all_scalars}
use Rattle.std.proofs.lemmas.Bool.Decides.{nat_tests}
use Rattle.std.proofs.lemmas.List.Elements.{All-head, All-tail}
use Rattle.hipe_terms.specs.declared.constant.Call.{Call}
use Rattle.hipe_terms.specs.Constants.{AreConstants}
use Rattle.hipe_terms.specs.Range.{is_in_range}
use Rattle.core_text.specs.Bytes.{is_digit, begins}
use Rattle.core_token.specs.declared.token.Sort.{Sort}
use Rattle.core_token.specs.declared.token.Token.{Token}
use Rattle.core_token.specs.Lexemes.{greatest_integer, farthest_below}
use Rattle.core_token.specs.Values.{HasValue, integer_of, character_of, code_points_of, decimal, positive, negative}
use Rattle.core_token.specs.Text.{StandsIn, bytes_of}
use Rattle.core_token.proofs.Valued.{stand}
use Rattle.core_ast.specs.declared.tree.Module.{Module}
use Rattle.core_ast.specs.Trees.{module_of}
use Rattle.core_ast.specs.WellFormed.{IsWellFormed}
use Rattle.core_grammar.specs.declared.terminal.Kind.{Kind}
use Rattle.core_grammar.specs.declared.terminal.Mark.{Mark}
use Rattle.core_grammar.specs.Language.{limit}
use Rattle.core_grammar.specs.Ranges.{kind_in_range, code_points_in_range, terminals_in_range}
use Rattle.core_grammar.proofs.WellFormed.{derived_are_well_formed, derived_arguments_are_constants}
use Rattle.core_reader.specs.declared.refusal.ReadRefusal.{ReadRefusal}
use Rattle.core_reader.specs.declared.refusal.CallRefusal.{CallRefusal}
use Rattle.core_reader.specs.Terminals.{kind_of, number_of, or_zero, or_nul, marked, keyword_of, sign_of, terminals_of}
use Rattle.hipe_base.specs.declared.limits.TheConstants.{LEVEL_LIMIT}
use Rattle.core_reader.specs.Language.{Reads, ReadsCall}
use Rattle.core_reader.specs.Reading.{Found, FoundCall}
use Rattle.core_reader.specs.Reading as R
use Rattle.core_reader.proofs.Answering.{answered, call_answered}

-- ---- integers

of_positive : (o : Option ℕ) (n : ℤ) → positive o ≡ Some n → n ≡ pos (nat_abs n)
of_positive None n h = absurd (cc)
of_positive (Some k) (pos m) h = refl
of_positive (Some k) (negsuc m) h = absurd (cc)

digit_is_no_sign : (c : ℕ) → is_digit c ≡ true → ((c == 45) ≡ false) × ((c == 43) ≡ false)
digit_is_no_sign c h = (grind arith, grind arith)

-- an integer that begins with a digit isn't negative
pub unsigned : (cs : List ℕ) (n : ℤ) → begins is_digit cs ≡ true → integer_of cs ≡ Some n → n ≡ pos (nat_abs n)
unfolding integer_of
unsigned [] n h e = absurd (cc)
unsigned (c ∷ s) n h e =
    let no = digit_is_no_sign c h in
    let is : positive (decimal greatest_integer (c ∷ s)) ≡ Some n =
    subst (λ b. (if b then positive (decimal greatest_integer s) else positive (decimal greatest_integer (c ∷ s))) ≡ Some n) no.1
    (subst (λ b. (if b then negative (decimal farthest_below s) else (if c == 43 then positive (decimal greatest_integer s) else positive (decimal greatest_integer (c ∷ s)))) ≡ Some n) no.0 e) in
    of_positive (decimal greatest_integer (c ∷ s)) n is

number_in_range : (cs : List ℕ) (n : ℤ) → integer_of cs ≡ Some n → is_in_range n ≡ true → kind_in_range (number_of cs n) ≡ true
number_in_range cs n is h = go (begins is_digit cs) refl where
  go : (b : Bool) → begins is_digit cs ≡ b → kind_in_range (if b then Kind.Natural (nat_abs n) else Kind.Integer n) ≡ true
  go true e = subst (λ k. is_in_range k ≡ true) (unsigned cs n e is) h
  go false e = h

integer_in_range : (cs : List ℕ) → HasValue Sort.Integer cs → kind_in_range (number_of cs (or_zero (integer_of cs))) ≡ true
integer_in_range cs (n, is, h) = subst (λ o. kind_in_range (number_of cs (or_zero o)) ≡ true) (sym is) (number_in_range cs n is h)

-- ---- characters and texts

scalar_in_range : (c : ℕ) → IsScalar c → is_in_range (pos c) ≡ true
scalar_in_range c h = grind (arith, nat_tests, scalar_fits c h)

character_in_range : (cs : List ℕ) → HasValue Sort.Character cs → is_in_range (pos (or_nul (character_of cs))) ≡ true
character_in_range cs (v, is, h) = subst (λ o. is_in_range (pos (or_nul o)) ≡ true) (sym is) (scalar_in_range v h)

both : (a b : Bool) → (a && b) ≡ true → (a ≡ true) × (b ≡ true)
both true b e = (refl, e)
both false b e = absurd (cc)

and : (a b : Bool) → a ≡ true → b ≡ true → (a && b) ≡ true
and a b e f = ap (λ x. x && b) e ∙ f

points_in_range : (vs : List ℕ) → all_scalars vs ≡ true → code_points_in_range vs ≡ true
points_in_range [] h = refl
points_in_range (v ∷ vs) h =
    let two = both (scalar v) (all_scalars vs) h in
    and (is_in_range (pos v)) (code_points_in_range vs) (scalar_in_range v two.0) (points_in_range vs two.1)

-- ---- terminals

marked_fits : (o : Option Mark) → kind_in_range (marked o) ≡ true
marked_fits None = refl
marked_fits (Some m) = refl

kind_fits : (sort : Sort) (cs : List ℕ) → HasValue sort cs → kind_in_range (kind_of sort cs) ≡ true
kind_fits Sort.Atom cs h = refl
kind_fits Sort.Variable cs h = refl
kind_fits Sort.Integer cs h = integer_in_range cs h
kind_fits Sort.Float cs h = refl
kind_fits Sort.Character cs h = character_in_range cs h
kind_fits Sort.Text cs h = points_in_range (code_points_of cs) h.1
kind_fits Sort.Word cs h = marked_fits (keyword_of cs)
kind_fits Sort.Sign cs h = marked_fits (sign_of cs)

terminals_fit : (s : List ℕ) (ts : List Token) → All (StandsIn s) ts → terminals_in_range (terminals_of s ts) ≡ true
terminals_fit s [] h = refl
terminals_fit s (t ∷ ts) h =
    and (kind_in_range (kind_of t.sort (bytes_of s t))) (terminals_in_range (terminals_of s ts))
    (kind_fits t.sort (bytes_of s t) (All-head (StandsIn s) t ts h).value) (terminals_fit s ts (All-tail (StandsIn s) t ts h))

-- ---- modules

reads_well_formed : (s : List ℕ) (m : Module) → Reads s m → IsWellFormed (module_of m)
reads_well_formed s m (ts, tokens, derived) = derived_are_well_formed (limit LEVEL_LIMIT) (terminals_of s ts) m (terminals_fit s ts (stand s ts tokens)) derived

pub well_formed : (s : List ℕ) (r : Result Module ReadRefusal) → Found (R.module_of s) r → IfOk r (λ m. IsWellFormed (module_of m))
well_formed s (Ok m) h = reads_well_formed s m (answered s (Ok m) h)
well_formed s (Err e) h = tt

-- ---- calls

reads_constants : (s : List ℕ) (c : Call) → ReadsCall s c → AreConstants c.args
reads_constants s c (ts, tokens, derived) = derived_arguments_are_constants (limit LEVEL_LIMIT) (terminals_of s ts) c (terminals_fit s ts (stand s ts tokens)) derived

pub constants : (s : List ℕ) (r : Result Call CallRefusal) → FoundCall (R.call_of s) r → IfOk r (λ c. AreConstants c.args)
constants s (Ok c) h = reads_constants s c (call_answered s (Ok c) h)
constants s (Err e) h = tt

pub ruleset ranges = (well_formed, constants)
