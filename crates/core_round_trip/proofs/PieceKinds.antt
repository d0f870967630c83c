-- Pieces whose text has tokens of given kinds, whatever text stands behind it.
use Rattle.std.proofs.Common.{◌≡◌, Some, ℕ, ℤ, pos, ◌<◌, ◌||◌, ◌==◌, true, List, [], ◌∷◌, ◌++◌, codes, refl, ap, sym, ◌∙◌, subst, append_assoc, append-nil, arith}
use Rattle.std.specs.Fmt.{signed_decimal}
use Rattle.hipe_terms.specs.Shown.{quoted, shown}
use Rattle.hipe_terms.specs.Terms.{Term}
use Rattle.core_text.specs.Bytes.{is_upper, is_name_byte}
use Rattle.core_text.specs.Prefixes.{AreAll}
use Rattle.core_token.specs.declared.token.Sort.{Sort}
use Rattle.core_token.specs.Lexemes.{is_keyword, is_short_sign}
use Rattle.core_token.specs.Spelling.{variable as spelled_variable, integer as spelled_integer, keyword as spelled_keyword, sign as spelled_sign, dash_sign}
use Rattle.core_ast.specs.declared.tree.FunName.{FunName}
use Rattle.core_grammar.specs.declared.terminal.Kind.{Kind}
use Rattle.core_grammar.specs.declared.terminal.Mark.{Mark}
use Rattle.core_print.specs.Printed.{Piece, spelled, text_of, atom, variable, integer, keyword, sign, space, line, name_pieces}
use Rattle.core_round_trip.proofs.TreeKinds.{integer_kind, name_kinds}
use Rattle.core_round_trip.specs.Fits.{IsInRange, IsAtomName, IsVariableName, IsName}
use Rattle.core_reader.specs.Terminals.{marked, keyword_of, sign_of}
use Rattle.core_round_trip.proofs.Tokens.{HasKinds, AreAscii, ascii_utf8, after_space, after_line, after_token}
use Rattle.core_round_trip.proofs.Numerals.{IsApart, no_name_byte, integer_spelled, integer_kind_is, integer_utf8}
use Rattle.core_round_trip.proofs.Names.{atom_spelled, atom_kind_is, atom_utf8}

-- the kinds of some pieces before those of what stands behind them
abbrev pub Prefix : Type 0
Prefix = List Kind → List Kind

-- ---- the tokens of pieces

-- The text of these pieces has tokens of these kinds, whatever stands behind it: nothing goes on with its last token.
pub record Closed (a : List Piece) (f : Prefix) : Type 0 where
  pub read : (us : List ℕ) (ks : List Kind) → HasKinds us ks → HasKinds (text_of a ++ us) (f ks)

-- The same where what stands behind it wouldn't go on with a keyword, a variable or an integer.
pub record Open (a : List Piece) (f : Prefix) : Type 0 where
  pub read : (us : List ℕ) (ks : List Kind) → IsApart us → HasKinds us ks → HasKinds (text_of a ++ us) (f ks)

-- Its first byte goes on with no keyword, variable or integer before it.
pub record Starts (a : List Piece) : Type 0 where
  pub apart : (us : List ℕ) → IsApart (text_of a ++ us)

-- The same, or it is empty.
pub record Keeps (a : List Piece) : Type 0 where
  pub apart : (us : List ℕ) → IsApart us → IsApart (text_of a ++ us)

text_append : (a b : List Piece) (us : List ℕ) → text_of (a ++ b) ++ us ≡ text_of a ++ (text_of b ++ us)
text_append [] b us = refl
text_append (p ∷ a) b us = append_assoc (spelled p) (text_of (a ++ b)) us ∙ ap (λ t. spelled p ++ t) (text_append a b us) ∙ sym (append_assoc (spelled p) (text_of a) (text_of b ++ us))

module _ {a : List Piece} where
  pub keeps : Starts a → Keeps a
  keeps s = record { apart = λ us h. s.apart us }

module _ {a : List Piece} {f : Prefix} where
  pub as_open : Closed a f → Open a f
  as_open h = record { read = λ us ks apart k. h.read us ks k }

module _ {a b : List Piece} {f g : Prefix} where
  pub closed_closed : Closed a f → Closed b g → Closed (a ++ b) (λ ks. f (g ks))
  closed_closed h k = record { read = λ us ks u. subst (λ t. HasKinds t (f (g ks))) (sym (text_append a b us)) (h.read (text_of b ++ us) (g ks) (k.read us ks u)) }

  pub closed_open : Closed a f → Open b g → Open (a ++ b) (λ ks. f (g ks))
  closed_open h k = record { read = λ us ks apart u. subst (λ t. HasKinds t (f (g ks))) (sym (text_append a b us)) (h.read (text_of b ++ us) (g ks) (k.read us ks apart u)) }

  pub open_closed : Open a f → Starts b → Closed b g → Closed (a ++ b) (λ ks. f (g ks))
  open_closed h s k = record { read = λ us ks u. subst (λ t. HasKinds t (f (g ks))) (sym (text_append a b us)) (h.read (text_of b ++ us) (g ks) (s.apart us) (k.read us ks u)) }

  pub open_open : Open a f → Keeps b → Open b g → Open (a ++ b) (λ ks. f (g ks))
  open_open h s k = record { read = λ us ks apart u. subst (λ t. HasKinds t (f (g ks))) (sym (text_append a b us)) (h.read (text_of b ++ us) (g ks) (s.apart us apart) (k.read us ks apart u)) }

pub none : Closed [] (λ ks. ks)
none = record { read = λ us ks h. h }

pub none_keeps : Keeps []
none_keeps = record { apart = λ us h. h }

-- ---- single pieces

alone : (p : Piece) (us : List ℕ) (ks : List Kind) → HasKinds (spelled p ++ us) ks → HasKinds (text_of (p ∷ []) ++ us) ks
alone p us ks h = subst (λ t. HasKinds (t ++ us) ks) (sym (append-nil (spelled p))) h

pub a_space : Closed space (λ ks. ks)
a_space = record { read = λ us ks h. after_space us ks h }

pub space_starts : Starts space
space_starts = record { apart = λ us. refl }

pub a_line : (d : ℕ) → Closed (line d) (λ ks. ks)
a_line d = record { read = λ us ks h. alone (Piece.Line d) us ks (after_line d us ks h) }

pub line_starts : (d : ℕ) → Starts (line d)
line_starts d = record { apart = λ us. refl }

pub atom_read : (a us : List ℕ) (ks : List Kind) → IsAtomName a → HasKinds us ks → HasKinds (quoted a ++ us) (Kind.Atom a ∷ ks)
atom_read a us ks h k = after_token Sort.Atom (quoted a) us (Kind.Atom a) ks (atom_spelled a us h) (atom_kind_is a h) (atom_utf8 a h) k

pub an_atom : (a : List ℕ) → IsAtomName a → Closed (atom a) (λ ks. Kind.Atom a ∷ ks)
an_atom a h = record { read = λ us ks k. alone (Piece.Atom a) us (Kind.Atom a ∷ ks) (atom_read a us ks h k) }

pub atom_starts : (a : List ℕ) → Starts (atom a)
atom_starts a = record { apart = λ us. refl }

pub integer_read : (n : ℤ) (us : List ℕ) (ks : List Kind) → IsInRange n → IsApart us → HasKinds us ks → HasKinds (signed_decimal n ++ us) (integer_kind n ∷ ks)
integer_read n us ks h apart k = after_token Sort.Integer (signed_decimal n) us (integer_kind n) ks (spelled_integer (integer_spelled n us h apart) h) (integer_kind_is n h) (integer_utf8 n h) k

pub an_integer : (n : ℤ) → IsInRange n → Open (integer n) (λ ks. integer_kind n ∷ ks)
an_integer n h = record { read = λ us ks apart k. alone (Piece.Integer n) us (integer_kind n ∷ ks) (integer_read n us ks h apart k) }

pub a_constant_by : (t : Term) (f : Prefix) → ((us : List ℕ) (ks : List Kind) → IsApart us → HasKinds us ks → HasKinds (shown [] t ++ us) (f ks)) → Open (Piece.Constant t ∷ []) f
a_constant_by t f h = record { read = λ us ks apart k. alone (Piece.Constant t) us (f ks) (h us ks apart k) }

-- ---- variables

name_byte_small : (c : ℕ) → is_name_byte c ≡ true → c < 128
name_byte_small c h = grind arith

first_byte_small : (c : ℕ) → (is_upper c || c == 95) ≡ true → c < 128
first_byte_small c h = grind arith

name_bytes_ascii : (cs : List ℕ) → AreAll is_name_byte cs → AreAscii cs
name_bytes_ascii [] h = tt
name_bytes_ascii (c ∷ cs) h = (name_byte_small c h.0, name_bytes_ascii cs h.1)

variable_read : (x us : List ℕ) (ks : List Kind) → IsVariableName x → IsApart us → HasKinds us ks → HasKinds (x ++ us) (Kind.Variable x ∷ ks)
variable_read [] us ks h apart k = absurd h
variable_read (c ∷ cs) us ks h apart k =
    after_token Sort.Variable (c ∷ cs) us (Kind.Variable (c ∷ cs)) ks (spelled_variable h.0 (h.1, no_name_byte us apart)) refl (ascii_utf8 (c ∷ cs) (first_byte_small c h.0, name_bytes_ascii cs h.1)) k

pub a_variable : (x : List ℕ) → IsVariableName x → Open (variable x) (λ ks. Kind.Variable x ∷ ks)
a_variable x h = record { read = λ us ks apart k. alone (Piece.Variable x) us (Kind.Variable x ∷ ks) (variable_read x us ks h apart k) }

-- ---- keywords

module _ (w : List ℕ) (m : Mark) where
  a_keyword : is_keyword w ≡ true → keyword_of w ≡ Some m → AreAscii w → Open (keyword w) (λ ks. Kind.Mark m ∷ ks)
  a_keyword is kind small = record { read = λ us ks apart k. alone (Piece.Keyword w) us (Kind.Mark m ∷ ks) (after_token Sort.Word w us (Kind.Mark m) ks (spelled_keyword is (no_name_byte us apart)) (ap marked kind) (ascii_utf8 w small) k) }

abbrev pub IsKeywordOf : List ℕ → Mark → Type 0
IsKeywordOf w m = Open (keyword w) (λ ks. Kind.Mark m ∷ ks)

pub apply_keyword : IsKeywordOf (codes "apply") Mark.Apply
unfolding keyword_of is_keyword
apply_keyword = a_keyword (codes "apply") Mark.Apply refl refl (omega arith)

pub attributes_keyword : IsKeywordOf (codes "attributes") Mark.Attributes
unfolding keyword_of is_keyword
attributes_keyword = a_keyword (codes "attributes") Mark.Attributes refl refl (omega arith)

pub call_keyword : IsKeywordOf (codes "call") Mark.Call
unfolding keyword_of is_keyword
call_keyword = a_keyword (codes "call") Mark.Call refl refl (omega arith)

pub case_keyword : IsKeywordOf (codes "case") Mark.Case
unfolding keyword_of is_keyword
case_keyword = a_keyword (codes "case") Mark.Case refl refl (omega arith)

pub catch_keyword : IsKeywordOf (codes "catch") Mark.Catch
unfolding keyword_of is_keyword
catch_keyword = a_keyword (codes "catch") Mark.Catch refl refl (omega arith)

pub do_keyword : IsKeywordOf (codes "do") Mark.Do
unfolding keyword_of is_keyword
do_keyword = a_keyword (codes "do") Mark.Do refl refl (omega arith)

pub end_keyword : IsKeywordOf (codes "end") Mark.End
unfolding keyword_of is_keyword
end_keyword = a_keyword (codes "end") Mark.End refl refl (omega arith)

pub fun_keyword : IsKeywordOf (codes "fun") Mark.Fun
unfolding keyword_of is_keyword
fun_keyword = a_keyword (codes "fun") Mark.Fun refl refl (omega arith)

pub in_keyword : IsKeywordOf (codes "in") Mark.In
unfolding keyword_of is_keyword
in_keyword = a_keyword (codes "in") Mark.In refl refl (omega arith)

pub let_keyword : IsKeywordOf (codes "let") Mark.Let
unfolding keyword_of is_keyword
let_keyword = a_keyword (codes "let") Mark.Let refl refl (omega arith)

pub letrec_keyword : IsKeywordOf (codes "letrec") Mark.Letrec
unfolding keyword_of is_keyword
letrec_keyword = a_keyword (codes "letrec") Mark.Letrec refl refl (omega arith)

pub module_keyword : IsKeywordOf (codes "module") Mark.Module
unfolding keyword_of is_keyword
module_keyword = a_keyword (codes "module") Mark.Module refl refl (omega arith)

pub of_keyword : IsKeywordOf (codes "of") Mark.Of
unfolding keyword_of is_keyword
of_keyword = a_keyword (codes "of") Mark.Of refl refl (omega arith)

pub primop_keyword : IsKeywordOf (codes "primop") Mark.Primop
unfolding keyword_of is_keyword
primop_keyword = a_keyword (codes "primop") Mark.Primop refl refl (omega arith)

pub try_keyword : IsKeywordOf (codes "try") Mark.Try
unfolding keyword_of is_keyword
try_keyword = a_keyword (codes "try") Mark.Try refl refl (omega arith)

pub when_keyword : IsKeywordOf (codes "when") Mark.When
unfolding keyword_of is_keyword
when_keyword = a_keyword (codes "when") Mark.When refl refl (omega arith)

-- ---- signs

module _ (c : ℕ) (m : Mark) where
  a_sign : is_short_sign c ≡ true → sign_of (c ∷ []) ≡ Some m → c < 128 → Closed (sign (c ∷ [])) (λ ks. Kind.Mark m ∷ ks)
  a_sign is kind small = record { read = λ us ks k. after_token Sort.Sign (c ∷ []) us (Kind.Mark m) ks (spelled_sign is) (ap marked kind) (ascii_utf8 (c ∷ []) (small, tt)) k }

abbrev pub IsSignOf : List ℕ → Mark → Type 0
IsSignOf s m = Closed (sign s) (λ ks. Kind.Mark m ∷ ks)

pub open_round : IsSignOf (codes "(") Mark.OpenRound
unfolding sign_of
open_round = a_sign 40 Mark.OpenRound refl refl (omega arith)

pub close_round : IsSignOf (codes ")") Mark.CloseRound
unfolding sign_of
close_round = a_sign 41 Mark.CloseRound refl refl (omega arith)

pub open_brace : IsSignOf (codes "{") Mark.OpenBrace
unfolding sign_of
open_brace = a_sign 123 Mark.OpenBrace refl refl (omega arith)

pub close_brace : IsSignOf (codes "}") Mark.CloseBrace
unfolding sign_of
close_brace = a_sign 125 Mark.CloseBrace refl refl (omega arith)

pub open_square : IsSignOf (codes "[") Mark.OpenSquare
unfolding sign_of
open_square = a_sign 91 Mark.OpenSquare refl refl (omega arith)

pub close_square : IsSignOf (codes "]") Mark.CloseSquare
unfolding sign_of
close_square = a_sign 93 Mark.CloseSquare refl refl (omega arith)

pub less : IsSignOf (codes "<") Mark.Less
unfolding sign_of
less = a_sign 60 Mark.Less refl refl (omega arith)

pub greater : IsSignOf (codes ">") Mark.Greater
unfolding sign_of
greater = a_sign 62 Mark.Greater refl refl (omega arith)

pub comma : IsSignOf (codes ",") Mark.Comma
unfolding sign_of
comma = a_sign 44 Mark.Comma refl refl (omega arith)

pub equals_sign : IsSignOf (codes "=") Mark.Equals
unfolding sign_of
equals_sign = a_sign 61 Mark.Equals refl refl (omega arith)

pub slash : IsSignOf (codes "/") Mark.Slash
unfolding sign_of
slash = a_sign 47 Mark.Slash refl refl (omega arith)

pub colon : IsSignOf (codes ":") Mark.Colon
unfolding sign_of
colon = a_sign 58 Mark.Colon refl refl (omega arith)

pub bar : IsSignOf (codes "|") Mark.Bar
unfolding sign_of
bar = a_sign 124 Mark.Bar refl refl (omega arith)

pub arrow_sign : IsSignOf (codes "->") Mark.Arrow
unfolding sign_of
arrow_sign = record { read = λ us ks k. after_token Sort.Sign (codes "->") us (Kind.Mark Mark.Arrow) ks (dash_sign refl) refl (ascii_utf8 (codes "->") (omega arith)) k }

-- ---- names of functions

pub a_name : (f : FunName) → IsName f → Open (name_pieces f) (λ ks. name_kinds f ks)
unfolding name_pieces
a_name f h = closed_open (closed_closed (an_atom f.name h.0) slash) (an_integer (pos f.arity) h.1)
