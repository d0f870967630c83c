-- The text of a term in pieces that are still to be written, the first of them last: the text, if each is a term's, and how much it is.
use Rattle.std.specs.Prelude.{◌≡◌, ℕ, ◌+◌, ◌<◌, Bool, if◌then◌else◌, List, [], ◌∷◌, ◌++◌, Option, Some, None, codes}
use Rattle.hipe_terms.specs.Terms.{Term, Terms}
use Rattle.hipe_terms.specs.Shown.{Names, shown, shown_tail, shown_all, shown_more}
use Rattle.heap_terms.specs.declared.piece.Piece.{Piece}
use Rattle.heap_terms.specs.declared.piece.Piece.TheVariants as pieces
use Rattle.heap_terms.specs.Shapes.{Symbols}
use Rattle.heap_terms.specs.Parts.{size_below}
use Rattle.heap_terms.specs.Terms.{term_below}
use Rattle.heap_terms.specs.Seen.{reference_of}
use Rattle.heap_terms.specs.Following.{terms_below, words_size}

-- a text, if there is one
abbrev pub Text : Type 0
Text = Option (List ℕ)

-- one text behind another
unfoldable pub followed_by : Text → Text → Text
followed_by None u = None
followed_by (Some t) None = None
followed_by (Some t) (Some u) = Some (t ++ u)

abbrev pub text_of : Names → Option Term → Text
text_of names None = None
text_of names (Some t) = Some (shown names t)

abbrev pub rest_text : Names → Option Term → Text
rest_text names None = None
rest_text names (Some t) = Some (shown_tail names t)

abbrev pub all_text : Names → Option Terms → Text
all_text names None = None
all_text names (Some ts) = Some (shown_all names ts)

abbrev pub more_text : Names → Option Terms → Text
more_text names None = None
more_text names (Some ts) = Some (shown_more names ts)

-- a list's tail that is no list
abbrev pub bar_text : Text → Text
bar_text t = followed_by (Some (codes "|")) (followed_by t (Some (codes "]")))

-- the elements of a tuple in braces
abbrev pub tuple_written : Text → Text
tuple_written t = followed_by (Some (codes "{")) (followed_by t (Some (codes "}")))

abbrev pub piece_text : Symbols → List ℕ → Piece → Text
piece_text symbols heap (pieces.Term at) = text_of symbols.definitions (term_below symbols heap (reference_of at))
piece_text symbols heap (pieces.Rest at) = rest_text symbols.definitions (term_below symbols heap (reference_of at))
piece_text symbols heap (pieces.Elements below words) = more_text symbols.definitions (terms_below symbols heap below words.now)
piece_text symbols heap pieces.ListEnd = Some (codes "]")
piece_text symbols heap pieces.TupleEnd = Some (codes "}")

-- their text, from the last piece on
abbrev pub text_last : Symbols → List ℕ → List Piece → Text
text_last symbols heap [] = Some []
text_last symbols heap (p ∷ ps) = followed_by (text_last symbols heap ps) (piece_text symbols heap p)

-- what was written is followed by what is still to be written, and there is no text where something was no term
abbrev pub Writes : Symbols → List ℕ → Bool → List ℕ → List Piece → List ℕ → Text → Type 0
Writes symbols heap found written ps before t = (if found then followed_by (Some written) (text_last symbols heap ps) else None) ≡ followed_by (Some before) t

abbrev pub piece_size : Symbols → List ℕ → Piece → ℕ
piece_size symbols heap (pieces.Term at) = size_below symbols heap (reference_of at)
piece_size symbols heap (pieces.Rest at) = size_below symbols heap (reference_of at) + 2
piece_size symbols heap (pieces.Elements below words) = words_size symbols heap below words.now
piece_size symbols heap pieces.ListEnd = 1
piece_size symbols heap pieces.TupleEnd = 1

abbrev pub size_last : Symbols → List ℕ → List Piece → ℕ
size_last symbols heap [] = 0
size_last symbols heap (p ∷ ps) = size_last symbols heap ps + piece_size symbols heap p

-- what was written is followed by what is still to be written: a text, and what was still to be written before
abbrev pub WritesFirst : Symbols → List ℕ → Bool → List ℕ → List Piece → List ℕ → Text → List Piece → Type 0
WritesFirst symbols heap found written after before first rest = Writes symbols heap found written after before (followed_by first (text_last symbols heap rest))

-- what is left is less than this much and what was left before
abbrev pub IsLess : Symbols → List ℕ → List Piece → ℕ → List Piece → Type 0
IsLess symbols heap after first before = size_last symbols heap after < first + size_last symbols heap before
