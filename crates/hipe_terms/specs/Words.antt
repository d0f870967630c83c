-- The words that a constant takes on the heap.
use Rattle.std.specs.Prelude.{ℕ, ◌+◌, ◌*◌, length, sum}
use Rattle.hipe_terms.specs.declared.constant.Constant.{Constant}
use Rattle.hipe_terms.specs.declared.constant.Constant.TheOpen.{Constant-F}
use Rattle.hipe_terms.specs.declared.constant.Constant.TheFolds.{fold-Constant}

-- two words for each element of a list
abbrev pub list_words : ℕ → ℕ
list_words n = 2 * n

-- a word for each element of a tuple, and one for its size
abbrev pub tuple_words : ℕ → ℕ
tuple_words n = n + 1

abbrev pub words_at : Constant-F ℕ → ℕ
words_at (Constant-F.Int n) = 0
words_at (Constant-F.Atom a) = 0
words_at Constant-F.Nil = 0
words_at (Constant-F.List parts tail) = sum parts + tail + list_words (length parts)
words_at (Constant-F.Tuple parts) = sum parts + tuple_words (length parts)

-- the words of a constant, its parts' included
unfoldable pub words_of : Constant → ℕ
words_of = fold-Constant ℕ words_at
