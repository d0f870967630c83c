-- Texts in pieces.
use Rattle.std.proofs.Common.{◌≡◌, ◌+◌, List, [], ◌∷◌, ◌++◌, length, refl, sym, ap, ◌∙◌, append_assoc, append-nil, add_assoc, arith}
use Rattle.hipe_terms.specs.Shown.{Names, shown_all}
use Rattle.hipe_terms.specs.Terms.{terms}
use Rattle.eval_values.specs.declared.value.Value.{Value}
use Rattle.eval_values.specs.Values.{terms_in}
use Rattle.eval_text.specs.declared.piece.Piece.{Piece}
use Rattle.eval_text.specs.Pieces.{piece_text, text_last, piece_size, size_last}

pub last_pushed : (names : Names) (ps : List Piece) (p : Piece) → text_last names (ps ++ p ∷ []) ≡ piece_text names p ++ text_last names ps
last_pushed names [] p = sym (append-nil (piece_text names p))
last_pushed names (q ∷ ps) p = ap (λ t. t ++ piece_text names q) (last_pushed names ps p) ∙ append_assoc (piece_text names p) (text_last names ps) (piece_text names q)

pub size_pushed : (ps : List Piece) (p : Piece) → size_last (ps ++ p ∷ []) ≡ piece_size p + size_last ps
size_pushed [] p = omega arith
size_pushed (q ∷ ps) p = ap (λ n. n + piece_size q) (size_pushed ps p) ∙ add_assoc (piece_size p) (size_last ps) (piece_size q)

-- no elements
pub empty_shown : (names : Names) (vs : List Value) → length vs ≡ 0 → shown_all names (terms (terms_in vs)) ≡ []
empty_shown names [] e = refl
empty_shown names (v ∷ vs) e = absurd (omega arith)

pub ruleset pieces = (last_pushed, size_pushed, append_assoc, empty_shown)
