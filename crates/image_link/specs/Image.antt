-- The image of a program: its names and its linked code.
use Rattle.std.specs.Prelude.{◌<◌, ◌≤◌, ◌^◌, ℕ, List, All, length, map}
use Rattle.image_link.specs.declared.names.FunctionEntry.{FunctionEntry}
use Rattle.image_link.specs.declared.image.Function.{Function}
use Rattle.hipe_base.specs.declared.limits.TheConstants.{CODE_LIMIT}
use Rattle.image_link.specs.Atoms.{Atoms}
use Rattle.image_link.specs.Names.{ProgramNames, AreNames}

pub record ProgramImage : Type 0 where
  pub atoms : Atoms
  -- the number of the atom that names the module
  pub module_atom : ℕ
  pub functions : List Function
  pub exports : List ℕ
  pub code : List ℕ

-- a function without the place of its code
abbrev pub entry_of : Function → FunctionEntry
entry_of f = record { name = f.name; arity = f.arity; captured = f.captured }

-- the names in an image
abbrev pub names_of : ProgramImage → ProgramNames
names_of i = record {
  atoms = i.atoms;
  module_atom = i.module_atom;
  functions = map entry_of i.functions;
  exports = i.exports;
}

-- the rules of an image's fields
pub record IsImage (i : ProgramImage) : Type 0 where
  pub names : AreNames (names_of i)
  -- each function's closure entry lies in the code
  pub entries : All (λ f. f.closure_entry < length i.code) i.functions
  pub size : length i.code ≤ CODE_LIMIT
  -- the code is made of bytes
  pub bytes : All (λ b. b < 2 ^ 8) i.code
