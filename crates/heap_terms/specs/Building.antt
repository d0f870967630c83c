-- The words of constants. A building is the words that a heap has so far from its first on; what is built goes behind them. Parts come
-- before the object that has them, from left to right, and a list's cells behind all its elements and its tail, the last cell first.
use Rattle.std.specs.Prelude.{◌≡◌, ℕ, suc, ◌+◌, ◌*◌, List, [], ◌∷◌, ◌++◌, length, take, Bool, nat_eq, if◌then◌else◌}
use Rattle.hipe_terms.specs.declared.constant.Constant.{Constant}
use Rattle.hipe_terms.specs.declared.constant.Constant.TheOpen.{Constant-F}
use Rattle.hipe_terms.specs.declared.constant.Constant.TheFolds.{fold-Constant}
use Rattle.heap_terms.specs.declared.tags.TheConstants.{ATOM_TAG, ATOM_SCALE, NIL_WORD, CONS_TAG, OBJECT_TAG, HEADER_SCALE}
use Rattle.heap_terms.specs.Integers.{word_of}

-- a word, and the words built so far
abbrev pub Built : Type 0
Built = ℕ × List ℕ

-- what building does: the address of the heap's first word, the atoms, and the words built before
abbrev pub Builds : Type 0
Builds = ℕ → List (List ℕ) → List ℕ → Built

abbrev pub same_atom : List ℕ → List ℕ → Bool
same_atom [] [] = Bool.true
same_atom (c ∷ cs) (d ∷ ds) = if nat_eq c d then same_atom cs ds else Bool.false
same_atom _ _ = Bool.false

-- the number of an atom; one more than the last where it isn't there
abbrev pub number_of : List (List ℕ) → List ℕ → ℕ
number_of [] a = 0
number_of (b ∷ bs) a = if same_atom a b then 0 else suc (number_of bs a)

-- the word of the atom with this number
abbrev pub atom_word : ℕ → ℕ
atom_word k = ATOM_SCALE * k + ATOM_TAG

-- parts from left to right: their words, and the words built
abbrev pub all_built : List Builds → ℕ → List (List ℕ) → List ℕ → List ℕ × List ℕ
all_built [] begin atoms used = ([], used)
all_built (b ∷ bs) begin atoms used =
    let first = b begin atoms used in
    let others = all_built bs begin atoms first.1 in
    (first.0 ∷ others.0, others.1)

-- one cell
abbrev pub cell_built : ℕ → ℕ → Built → Built
cell_built begin head rest = (begin + 8 * length rest.1 + CONS_TAG, rest.1 ++ head ∷ rest.0 ∷ [])

-- the cells of a list before its tail, the last first
abbrev pub cells_built : ℕ → List ℕ → Built → Built
cells_built begin [] tail = tail
cells_built begin (w ∷ ws) tail = cell_built begin w (cells_built begin ws tail)

abbrev pub tuple_built : ℕ → List ℕ × List ℕ → Built
tuple_built begin parts = (begin + 8 * length parts.1 + OBJECT_TAG, parts.1 ++ (HEADER_SCALE * length parts.0) ∷ parts.0)

abbrev pub list_built : ℕ → List (List ℕ) → List ℕ × List ℕ → Builds → Built
list_built begin atoms parts tail = cells_built begin parts.0 (tail begin atoms parts.1)

abbrev pub built_at : Constant-F Builds → Builds
built_at (Constant-F.Int n) begin atoms used = (word_of n, used)
built_at (Constant-F.Atom a) begin atoms used = (atom_word (number_of atoms a), used)
built_at Constant-F.Nil begin atoms used = (NIL_WORD, used)
built_at (Constant-F.List parts tail) begin atoms used = list_built begin atoms (all_built parts begin atoms used) tail
built_at (Constant-F.Tuple parts) begin atoms used = tuple_built begin (all_built parts begin atoms used)

-- the word of a constant, and the words built with it
unfoldable pub built : Constant → Builds
built = fold-Constant Builds built_at

-- the first words stand unchanged before the others
abbrev pub IsPrefixOf : List ℕ → List ℕ → Type 0
IsPrefixOf first words = take (length first) words ≡ first
