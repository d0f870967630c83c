-- What tokens mean: the number of an integer, the code point of a character, and the code points of an atom and of a text.
use Rattle.std.specs.Prelude.{◌≡◌, ℕ, ◌-◌, ◌≤◌, ℤ, pos, neg_ℤ, true, ◌==◌, nat_le, if◌then◌else◌, List, [], ◌∷◌, length, take, drop, Option, Some, None}
use Rattle.std.specs.Char.{IsScalar}
use Rattle.std.specs.Str.{all_scalars}
use Rattle.hipe_base.specs.declared.limits.TheConstants.{ATOM_LIMIT}
use Rattle.hipe_terms.specs.Range.{is_in_range}
use Rattle.core_text.specs.declared.code_point.CodePoint.{CodePoint}
use Rattle.core_text.specs.Bytes.{number_from}
use Rattle.core_text.specs.CodePoints.{code_point_at, values_between}
use Rattle.core_token.specs.declared.token.Sort.{Sort}
use Rattle.core_token.specs.declared.token.Sort.TheVariants.{Atom, Variable, Integer, Float, Character, Text, Word, Sign}
use Rattle.core_token.specs.Lexemes.{greatest_integer, farthest_below}

-- the number that decimal digits stand for, up to a greatest one
abbrev pub decimal : ℕ → List ℕ → Option ℕ
decimal most ds = let n = number_from 10 0 ds in if nat_le n most then Some n else None

abbrev pub positive : Option ℕ → Option ℤ
positive None = None
positive (Some n) = Some (pos n)

abbrev pub negative : Option ℕ → Option ℤ
negative None = None
negative (Some n) = Some (neg_ℤ (pos n))

-- the number of an integer, where it is within the range
unfoldable pub integer_of : List ℕ → Option ℤ
integer_of [] = None
integer_of (c ∷ s) =
    if c == 45 then negative (decimal farthest_below s)
    else (if c == 43 then positive (decimal greatest_integer s) else positive (decimal greatest_integer (c ∷ s)))

abbrev pub value_of : Option CodePoint → Option ℕ
value_of None = None
value_of (Some p) = Some p.value

-- the code point of a character, behind its `$`
unfoldable pub character_of : List ℕ → Option ℕ
character_of s = value_of (code_point_at (drop 1 s))

-- the code points of an atom or a text, with its quotes
unfoldable pub code_points_of : List ℕ → List ℕ
code_points_of s = values_between (take (length s - 2) (drop 1 s))

-- the value of a token of this sort, from its bytes: an integer's number is there and in the range, a character's code point is there, and the code
-- points of an atom are few
abbrev pub HasValue : Sort → List ℕ → Type 0
HasValue Integer cs = (n : ℤ) × (integer_of cs ≡ Some n) × (is_in_range n ≡ true)
HasValue Character cs = (v : ℕ) × (character_of cs ≡ Some v) × IsScalar v
HasValue Atom cs = (2 ≤ length cs) × (length (code_points_of cs) ≤ ATOM_LIMIT) × (all_scalars (code_points_of cs) ≡ true)
HasValue Text cs = (2 ≤ length cs) × (all_scalars (code_points_of cs) ≡ true)
HasValue Variable cs = Unit {0}
HasValue Float cs = Unit {0}
HasValue Word cs = Unit {0}
HasValue Sign cs = Unit {0}
