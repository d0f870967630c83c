-- Texts of code points, and names of variables.
use Rattle.std.proofs.Common.{ap, sym, ◌∙◌, ◌++◌, ◌≡◌, ℕ, ◌<◌, true, ◌||◌, ◌==◌, List, [], ◌∷◌, drop, encode_utf8_all, arith}
use Rattle.std.specs.List.{AllByRecursion}
use Rattle.std.specs.Str.{chars, all_scalars, IsUtf8, IsAscii}
use Rattle.std.proofs.lemmas.Str.{chars-encodes, IsUtf8-from_ascii}
use Rattle.std.proofs.lemmas.List.{append-nil}
use Rattle.std.proofs.lemmas.Str.Ascii.{IsAscii-nil, IsAscii-cons}
use Rattle.core_text.specs.Bytes.{is_upper, is_name_byte}
use Rattle.core_token.specs.declared.token.Sort.{Sort}
use Rattle.core_token.specs.declared.token.Token.{Token}
use Rattle.core_token.specs.Spelling.{Spells, variable}
use Rattle.core_token.specs.Text.{StandsIn, bytes_of}
use Rattle.core_token.specs.Values.{HasValue}
use Rattle.core_reader.specs.Terminals.{HasName}

-- a text that has grown to these code points
pub chars_of : (bs cs : List ℕ) → all_scalars cs ≡ true → bs ++ [] ≡ encode_utf8_all cs → chars bs ≡ cs
chars_of bs cs h e = ap chars (sym (append-nil bs) ∙ e) ∙ chars-encodes cs h

name_byte : (c : ℕ) → is_name_byte c ≡ true → c < 128
name_byte c h = grind arith

name_bytes : (cs : List ℕ) → AllByRecursion (λ c. is_name_byte c ≡ true) cs → IsAscii cs
name_bytes [] h = IsAscii-nil
name_bytes (c ∷ cs) h = IsAscii-cons c cs (name_byte c h.0) (name_bytes cs h.1)

first_byte : (c : ℕ) → (is_upper c || c == 95) ≡ true → c < 128
first_byte c h = grind arith

pub variable_utf8 : (cs us : List ℕ) → Spells Sort.Variable cs us → IsUtf8 cs
variable_utf8 [] us x' = elim x' [ ]
variable_utf8 (c ∷ cs) us (variable h hs) = IsUtf8-from_ascii (c ∷ cs) (IsAscii-cons c cs (first_byte c h) (name_bytes cs hs.0))

-- the name of a token that is spelled
named : (sort : Sort) (cs us : List ℕ) → Spells sort cs us → HasName sort cs
named Sort.Variable cs us h = variable_utf8 cs us h
named Sort.Atom cs us h = tt
named Sort.Integer cs us h = tt
named Sort.Float cs us h = tt
named Sort.Character cs us h = tt
named Sort.Text cs us h = tt
named Sort.Word cs us h = tt
named Sort.Sign cs us h = tt

pub stands_named : (s : List ℕ) (t : Token) → StandsIn s t → HasName t.sort (bytes_of s t)
stands_named s t h = named t.sort (bytes_of s t) (drop t.end s) h.spelled

pub stands_valued : (s : List ℕ) (t : Token) → StandsIn s t → HasValue t.sort (bytes_of s t)
stands_valued s t h = h.value

pub ruleset standing = (stands_named, stands_valued)

pub ruleset texts = (chars_of)
