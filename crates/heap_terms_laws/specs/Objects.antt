-- Objects that are put behind the words that are used so far, from the address `begin` on, of parts that stand there for terms.
use Rattle.std.specs.Prelude.{ℕ, ◌+◌, ◌*◌, ◌<◌, List, [], ◌∷◌, ◌++◌, length}
use Rattle.hipe_terms.specs.Terms.{Term, cons, tuple, fun, terms}
use Rattle.heap_terms.specs.declared.tags.TheConstants.{INTEGER_TAG, INTEGER_SCALE, CONS_TAG, OBJECT_TAG, FUN_HEADER, HEADER_SCALE}
use Rattle.heap_terms.specs.Shapes.{Symbols}
use Rattle.heap_terms.specs.Standing.{StandsIn}
use Rattle.heap_terms_laws.specs.Constants.{EachStands}

-- a word stands for a term in these words
abbrev pub StandsAmong : Symbols → ℕ → List ℕ → Term → ℕ → Type 0
StandsAmong symbols begin words t w = StandsIn symbols begin words (length words) t w

-- the first element and the rest of a list
abbrev pub CellsStand : Type 0
CellsStand = (symbols : Symbols) (begin : ℕ) (used : List ℕ) (t u : Term) (head tail : ℕ) → StandsAmong symbols begin used t head → StandsAmong symbols begin used u tail
    → StandsAmong symbols begin (used ++ head ∷ tail ∷ []) (cons t u) (begin + 8 * length used + CONS_TAG)

-- a header and the words of the elements
abbrev pub TuplesStand : Type 0
TuplesStand = (symbols : Symbols) (begin : ℕ) (used : List ℕ) (ts : List Term) (ws : List ℕ) → EachStands symbols begin used (length used) ts ws
    → StandsAmong symbols begin (used ++ (HEADER_SCALE * length ws) ∷ ws) (tuple (terms ts)) (begin + 8 * length used + OBJECT_TAG)

-- a header, the integer of the function's number, and the words of the captured values
abbrev pub FunsStand : Type 0
FunsStand = (symbols : Symbols) (begin : ℕ) (used : List ℕ) (f : ℕ) (ts : List Term) (ws : List ℕ) → f < symbols.functions → EachStands symbols begin used (length used) ts ws
    → StandsAmong symbols begin (used ++ (HEADER_SCALE * length ws + FUN_HEADER) ∷ (INTEGER_SCALE * f + INTEGER_TAG) ∷ ws) (fun f (terms ts)) (begin + 8 * length used + OBJECT_TAG)
