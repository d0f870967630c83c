-- A text in pieces that are still to be written, the first of them last, and how much is still to be written.
use Rattle.std.specs.Prelude.{◌≡◌, ℕ, ◌+◌, List, [], ◌∷◌, ◌++◌, codes, string_bytes}
use Rattle.std.specs.declared.string.String.{String}
use Rattle.hipe_terms.specs.Terms.{Term, integer, atom, nil, cons, tuple, fun, Terms, none, more, terms}
use Rattle.hipe_terms.specs.Shown.{Names, shown, shown_tail, shown_more}
use Rattle.core_ast.specs.declared.tree.FunDef.{FunDef}
use Rattle.eval_values.specs.Values.{term_in, terms_in}
use Rattle.eval_text.specs.Named.{names_of}
use Rattle.eval_text.specs.declared.piece.Piece.{Piece}
use Rattle.eval_text.specs.declared.piece.Piece.TheVariants as Pieces

-- the text of a piece
abbrev pub piece_text : Names → Piece → List ℕ
piece_text names (Pieces.Value v) = shown names (term_in v)
piece_text names (Pieces.Rest v) = shown_tail names (term_in v)
piece_text names (Pieces.Elements vs) = shown_more names (terms (terms_in vs.now))
piece_text names Pieces.ListEnd = codes "]"
piece_text names Pieces.TupleEnd = codes "}"

-- their text, from the last piece on
abbrev pub text_last : Names → List Piece → List ℕ
text_last names [] = []
text_last names (p ∷ ps) = text_last names ps ++ piece_text names p

-- a text is written, or begun, and its rest is put behind the pieces that are still to be written
abbrev pub Writes : {A : Type 0} → List FunDef → (text : List ℕ) → (before after : String A) → (pieces left : List Piece) → Type 0
Writes defs text before after pieces left =
    string_bytes after ++ text_last (names_of defs) left ≡ string_bytes before ++ (text ++ text_last (names_of defs) pieces)

-- at least how many pieces a term is written in
abbrev mutual
  pub term_size : Term → ℕ
  term_size (integer n) = 1
  term_size (atom a) = 1
  term_size nil = 1
  term_size (cons a b) = term_size a + term_size b + 4
  term_size (tuple ts) = terms_size ts + 3
  term_size (fun f ts) = 1

  pub terms_size : Terms → ℕ
  terms_size none = 1
  terms_size (more t ts) = term_size t + terms_size ts + 1

-- as many for a piece
abbrev pub piece_size : Piece → ℕ
piece_size (Pieces.Value v) = term_size (term_in v)
piece_size (Pieces.Rest v) = term_size (term_in v) + 2
piece_size (Pieces.Elements vs) = terms_size (terms (terms_in vs.now))
piece_size Pieces.ListEnd = 1
piece_size Pieces.TupleEnd = 1

-- as many for these pieces together
abbrev pub size_last : List Piece → ℕ
size_last [] = 0
size_last (p ∷ ps) = size_last ps + piece_size p
