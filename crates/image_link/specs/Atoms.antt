-- Atoms and their numbers. An atom is the list of its code points.
use Rattle.std.specs.Prelude.{◌≡◌, ◌<◌, ◌≤◌, ◌^◌, ◌++◌, ℕ, List, [], ◌∷◌, Option, All, bytes_eq, codes, chars, fold, length, map, position, string_bytes, if◌then◌else◌}
use Rattle.std.specs.Char.{IsScalar}
use Rattle.std.specs.List.{IsDistinct, list_any, position_or_len}
use Rattle.std.proofs.Common.{Bor}
use Rattle.std.specs.declared.string.String.{String}
use Rattle.hipe_base.specs.declared.limits.TheConstants.{ATOM_LIMIT}

abbrev pub Atoms : Type 0
Atoms = List (List ℕ)

-- the atoms of every program, by their numbers from 0 on
abbrev pub first_atoms : Atoms
first_atoms =
    codes "true" ∷ codes "false" ∷ codes "error" ∷ codes "exit" ∷ codes "throw"
    ∷ codes "badarith" ∷ codes "badarg" ∷ codes "system_limit" ∷ codes "undef"
    ∷ codes "case_clause" ∷ codes "function_clause" ∷ codes "badfun" ∷ codes "badarity" ∷ codes "EXIT" ∷ []

-- the number of an atom, where it has one
abbrev pub number_of : List ℕ → Atoms → Option ℕ
number_of atom atoms = position (bytes_eq atom) atoms

-- the number that an atom has once it is interned: its own, or the next
abbrev pub number_in : List ℕ → Atoms → ℕ
number_in atom atoms = position_or_len (bytes_eq atom) atoms

-- the atoms once this one is interned: it goes last where it is new
abbrev pub interned : List ℕ → Atoms → Atoms
interned atom atoms = if list_any (bytes_eq atom) atoms then atoms else atoms ++ atom ∷ []

-- the rules of a table of atoms
pub record IsAtomTable (atoms : Atoms) : Type 0 where
  -- it begins with the atoms of every program
  pub first : (more : Atoms) × (atoms ≡ first_atoms ++ more)
  -- no two are equal
  pub distinct : IsDistinct bytes_eq atoms
  -- each is an atom: few code points
  pub lengths : All (λ a. length a ≤ ATOM_LIMIT) atoms
  -- and each of them that of a character
  pub characters : All (All IsScalar) atoms
  -- how many there are fits four bytes
  pub count : length atoms < 2 ^ 32

-- the code points of a text
abbrev pub points_of : {A : Type 0} → String A → List ℕ
points_of text = chars (string_bytes text)

-- the texts of a set as atoms
abbrev pub atoms_of : {A : Type 0} → List (String A) → Atoms
atoms_of texts = map points_of texts

-- the atoms once those of these texts are interned, one after the other
unfoldable pub all_interned : List (Bor (List ℕ)) → Atoms → Atoms
all_interned texts atoms = fold (λ known text. interned (chars text.now) known) atoms texts
