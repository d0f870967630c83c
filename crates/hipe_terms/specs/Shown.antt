-- The text of a term.
use Rattle.std.specs.Prelude.{ℕ, zero, suc, Bool, false, ◌==◌, ◌||◌, ◌&&◌, nat_lt, nat_le, if◌then◌else◌, List, [], ◌∷◌, ◌++◌, flat_map, codes, encode_utf8, decimal}
use Rattle.std.specs.Fmt.{digits, signed_decimal}
use Rattle.hipe_terms.specs.Terms.{Term, integer, atom, nil, cons, tuple, fun, Terms, none, more}

-- a backslash and this character
abbrev pub backslashed : List ℕ → List ℕ
backslashed cs = codes "\\" ++ cs

-- the code point in lower-case hexadecimal, without leading zeros
abbrev pub in_hex : ℕ → List ℕ
in_hex c = codes "\\x{" ++ digits 16 false c ++ codes "}"

-- a code point below 32, or one from 128 to 159
abbrev pub is_control : ℕ → Bool
is_control c = nat_lt c 32 || (nat_le 128 c && nat_le c 159)

-- a code point of an atom; most are shown as they are
abbrev pub escaped : ℕ → List ℕ
escaped c =
    if c == 39 then backslashed (codes "'")
    else if c == 92 then backslashed (codes "\\")
    else if c == 8 then backslashed (codes "b")
    else if c == 9 then backslashed (codes "t")
    else if c == 10 then backslashed (codes "n")
    else if c == 11 then backslashed (codes "v")
    else if c == 12 then backslashed (codes "f")
    else if c == 13 then backslashed (codes "r")
    else if c == 27 then backslashed (codes "e")
    else if c == 127 then backslashed (codes "d")
    else if is_control c then in_hex c
    else encode_utf8 c

-- an atom, in single quotes
abbrev pub quoted : List ℕ → List ℕ
quoted a = codes "'" ++ flat_map escaped a ++ codes "'"

-- the names and arities of a module's definitions, by number
abbrev pub Names : Type 0
Names = List (List ℕ × ℕ)

-- The function of this number: a definition by its name and arity, any other by its number from the last definition on.
abbrev pub function_text : Names → ℕ → List ℕ
function_text [] k = decimal k
function_text (name ∷ names) zero = quoted name.0 ++ codes "/" ++ decimal name.1
function_text (name ∷ names) (suc k) = function_text names k

abbrev pub fun_text : Names → ℕ → List ℕ
fun_text names f = codes "#Fun<" ++ function_text names f ++ codes ">"

-- the elements of a tuple
abbrev pub in_braces : List ℕ → List ℕ
in_braces elements = codes "{" ++ elements ++ codes "}"

-- a list's tail that is no list
abbrev pub after_bar : List ℕ → List ℕ
after_bar tail = codes "|" ++ tail ++ codes "]"

abbrev mutual
  pub shown : Names → Term → List ℕ
  shown names (integer n) = signed_decimal n
  shown names (atom a) = quoted a
  shown names nil = codes "[]"
  shown names (cons a b) = codes "[" ++ shown names a ++ shown_tail names b
  shown names (tuple ts) = in_braces (shown_all names ts)
  shown names (fun f ts) = fun_text names f

  -- what comes behind a list's element, where this is the rest of the list
  pub shown_tail : Names → Term → List ℕ
  shown_tail names (integer n) = after_bar (signed_decimal n)
  shown_tail names (atom a) = after_bar (quoted a)
  shown_tail names nil = codes "]"
  shown_tail names (cons a b) = codes "," ++ shown names a ++ shown_tail names b
  shown_tail names (tuple ts) = after_bar (in_braces (shown_all names ts))
  shown_tail names (fun f ts) = after_bar (fun_text names f)

  -- with commas between them
  pub shown_all : Names → Terms → List ℕ
  shown_all names none = []
  shown_all names (more t ts) = shown names t ++ shown_more names ts

  pub shown_more : Names → Terms → List ℕ
  shown_more names none = []
  shown_more names (more t ts) = codes "," ++ shown names t ++ shown_more names ts

-- a comma, but for the first of some terms
abbrev pub comma_before : ℕ → List ℕ
comma_before zero = []
comma_before (suc i) = codes ","

-- the terms from the one with this number on, where 0 is the first, with a comma before each but the first
abbrev pub shown_from : Names → ℕ → Terms → List ℕ
shown_from names zero ts = shown_all names ts
shown_from names (suc i) ts = shown_more names ts
