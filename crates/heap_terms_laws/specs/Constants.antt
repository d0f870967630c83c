-- The words of constants stand for their terms.
use Rattle.std.specs.Prelude.{◌≡◌, ℕ, ◌+◌, List, [], ◌∷◌, ◌++◌, length, take, map, All, Contains, Some}
use Rattle.hipe_terms.specs.declared.constant.Constant.{Constant}
use Rattle.hipe_terms.specs.declared.constant.Constant.TheOpen.{Constant-F}
use Rattle.hipe_terms.specs.declared.constant.Constant.TheFolds.{fold-Constant}
use Rattle.hipe_terms.specs.Constants.{IsConstant, AreConstants}
use Rattle.hipe_terms.specs.Terms.{Term, term_of}
use Rattle.hipe_terms.specs.Words.{words_of}
use Rattle.heap_terms.specs.Building.{Built, built, all_built}
use Rattle.heap_terms.specs.Shapes.{Symbols, heap_begin}
use Rattle.heap_terms.specs.Standing.{StandsIn}
use Rattle.heap_terms.specs.Terms.{term_at}

-- ---- the atoms of a constant

abbrev pub joined : List (List (List ℕ)) → List (List ℕ)
joined [] = []
joined (atoms ∷ others) = atoms ++ joined others

abbrev pub atoms_at : Constant-F (List (List ℕ)) → List (List ℕ)
atoms_at (Constant-F.Int n) = []
atoms_at (Constant-F.Atom a) = a ∷ []
atoms_at Constant-F.Nil = []
atoms_at (Constant-F.List parts tail) = joined parts ++ tail
atoms_at (Constant-F.Tuple parts) = joined parts

-- from left to right
unfoldable pub atoms_in : Constant → List (List ℕ)
atoms_in = fold-Constant (List (List ℕ)) atoms_at

-- all atoms of the constant are among these
abbrev pub HasAtoms : List (List ℕ) → Constant → Type 0
HasAtoms atoms c = All (Contains atoms) (atoms_in c)

-- ---- what is built

-- the words that were there stay as a prefix
abbrev pub StartsWith : List ℕ → List ℕ → Type 0
StartsWith words used = (new : List ℕ) × (words ≡ used ++ new)

-- each word stands for the term at its place
abbrev pub EachStands : Symbols → ℕ → List ℕ → ℕ → List Term → List ℕ → Type 0
EachStands symbols begin words below [] [] = Unit {0}
EachStands symbols begin words below (t ∷ ts) (w ∷ ws) = StandsIn symbols begin words below t w × EachStands symbols begin words below ts ws
EachStands symbols begin words below _ _ = ⊥

-- a word, and the words of the heap from the address `begin` on, of which these were there before
pub record IsBuilt (symbols : Symbols) (begin : ℕ) (used : List ℕ) (t : Term) (b : Built) : Type 0 where
  pub behind : StartsWith b.1 used
  pub stands : StandsIn symbols begin b.1 (length b.1) t b.0
  -- so it has the term in every heap that begins there with these words
  pub has_term : (heap : List ℕ) → heap_begin heap ≡ begin → take (length b.1) heap ≡ b.1 → term_at symbols heap b.0 ≡ Some t

abbrev pub BuiltStands : Type 0
BuiltStands = (symbols : Symbols) (begin : ℕ) (c : Constant) (used : List ℕ) → IsConstant c → HasAtoms symbols.atoms c
    → IsBuilt symbols begin used (term_of c) (built c begin symbols.atoms used)

-- as many words are built as the constant takes
abbrev pub BuiltTakes : Type 0
BuiltTakes = (begin : ℕ) (atoms : List (List ℕ)) (c : Constant) (used : List ℕ) → length (built c begin atoms used).1 ≡ length used + words_of c

-- several constants, from left to right
pub record AreBuilt (symbols : Symbols) (begin : ℕ) (used : List ℕ) (ts : List Term) (b : List ℕ × List ℕ) : Type 0 where
  pub behind : StartsWith b.1 used
  pub stand : EachStands symbols begin b.1 (length b.1) ts b.0

abbrev pub AllBuiltStand : Type 0
AllBuiltStand = (symbols : Symbols) (begin : ℕ) (cs : List Constant) (used : List ℕ) → AreConstants cs → All (HasAtoms symbols.atoms) cs
    → AreBuilt symbols begin used (map term_of cs) (all_built (map built cs) begin symbols.atoms used)
