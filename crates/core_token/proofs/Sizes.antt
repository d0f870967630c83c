-- Tokens have a byte at least.
use Rattle.std.proofs.Common.{◌≡◌, ℕ, ◌<◌, true, ℤ, List, [], ◌∷◌, ◌++◌, length, length-append, arith}
use Rattle.core_text.specs.Numbers.{IsInteger, integer as spelled_integer, IsFloat, float as spelled_float}
use Rattle.core_token.specs.declared.token.Sort.{Sort}
use Rattle.core_token.specs.Spelling.{IsAtom, quoted, Spells, atom, text, character, variable, integer, float, keyword, sign, dash_sign}
use Rattle.core_token.proofs.Lexing.{name_of, is_name}

pub integer_some : (n : ℤ) (cs us : List ℕ) → IsInteger n cs us → 0 < length cs
integer_some n cs us (spelled_integer {ss = ss} ds vs is digits ends) = omega (arith, length-append ss ds, digits.0)

float_some : (cs us : List ℕ) → IsFloat cs us → 0 < length cs
float_some cs us (spelled_float {ss = ss} ds fs vs is digits h) = omega (arith, length-append (ss ++ ds) fs, length-append ss ds, digits.0)

pub atom_some : (vs cs us : List ℕ) → IsAtom vs cs us → 0 < length cs
atom_some vs cs us (quoted is) = omega arith

name_some : (cs : List ℕ) → is_name cs ≡ true → 0 < length cs
name_some [] is = absurd (cc)
name_some (c ∷ cs) is = omega arith

pub token_some : (sort : Sort) (cs us : List ℕ) → Spells sort cs us → 0 < length cs
token_some sort cs us (atom {vs = vs} is few) = atom_some vs cs us is
token_some sort cs us (text is) = omega arith
token_some sort cs us (character is) = omega arith
token_some sort cs us (variable first h) = omega arith
token_some sort cs us (integer {n = n} is few) = integer_some n cs us is
token_some sort cs us (float is) = float_some cs us is
token_some sort cs us (keyword is ends) = name_some cs (name_of cs is)
token_some sort cs us (sign is) = omega arith
token_some sort cs us (dash_sign is) = omega arith
