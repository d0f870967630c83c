-- The names of a program.
use Rattle.std.specs.Prelude.{◌≡◌, ◌<◌, ◌≤◌, ◌^◌, ◌++◌, ℕ, List, [], ◌∷◌, None, All, MatchOption, IsSome, IsSomeAnd, length, slice_get}
use Rattle.image_link.specs.declared.names.FunctionEntry.{FunctionEntry}
use Rattle.hipe_base.specs.declared.limits.TheConstants.{ARITY_LIMIT}
use Rattle.image_link.specs.declared.numbers.TheConstants.{CAPTURED_LIMIT}
use Rattle.image_link.specs.Atoms.{Atoms, IsAtomTable, first_atoms, interned, number_in}

-- what a program has names for: atoms and functions by their numbers, and the exported functions
pub record ProgramNames : Type 0 where
  pub atoms : Atoms
  -- the number of the atom that names the module
  pub module_atom : ℕ
  pub functions : List FunctionEntry
  pub exports : List ℕ

-- a definition of the module has a name, and a fun has none
abbrev pub IsDefinition : FunctionEntry → Type 0
IsDefinition f = IsSome f.name

abbrev pub IsFun : FunctionEntry → Type 0
IsFun f = f.name ≡ None

-- the rules of a function in a program of so many atoms
pub record IsEntry (atoms : ℕ) (f : FunctionEntry) : Type 0 where
  -- the name of a definition is among the atoms, and it captures no values
  pub name : MatchOption f.name (Unit {0}) (λ name. (name < atoms) × (f.captured ≡ 0))
  pub arity : f.arity ≤ ARITY_LIMIT
  pub captured : f.captured ≤ CAPTURED_LIMIT

-- only funs follow a fun
abbrev pub DefinitionsFirst : List FunctionEntry → Type 0
DefinitionsFirst [] = Unit {0}
DefinitionsFirst (f ∷ fs) = (IsFun f → All IsFun fs) × DefinitionsFirst fs

-- the number is that of a definition
abbrev pub NamesDefinition : List FunctionEntry → ℕ → Type 0
NamesDefinition functions number = IsSomeAnd (slice_get functions number) IsDefinition

-- each number is below those after it
abbrev pub Ascends : List ℕ → Type 0
Ascends [] = Unit {0}
Ascends (n ∷ ns) = All (λ m. n < m) ns × Ascends ns

-- the rules of names
pub record AreNames (n : ProgramNames) : Type 0 where
  pub atoms : IsAtomTable n.atoms
  pub module_atom : n.module_atom < length n.atoms
  pub entries : All (IsEntry (length n.atoms)) n.functions
  pub order : DefinitionsFirst n.functions
  -- how many functions there are fits four bytes
  pub count : length n.functions < 2 ^ 32
  pub exports : All (NamesDefinition n.functions) n.exports
  pub ascending : Ascends n.exports

-- the names of a module before its atoms and functions are known
abbrev pub names_for : List ℕ → ProgramNames
names_for name = record {
  atoms = interned name first_atoms;
  module_atom = number_in name first_atoms;
  functions = [];
  exports = [];
}

-- the names once an atom is interned
abbrev pub with_atom : List ℕ → ProgramNames → ProgramNames
with_atom atom n = record n { atoms = interned atom n.atoms }

-- the names with one more function, which has the next number
abbrev pub with_function : FunctionEntry → ProgramNames → ProgramNames
with_function f n = record n { functions = n.functions ++ f ∷ [] }

-- the names with one more export
abbrev pub with_export : ℕ → ProgramNames → ProgramNames
with_export function n = record n { exports = n.exports ++ function ∷ [] }
