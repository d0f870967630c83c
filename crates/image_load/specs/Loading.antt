-- A program in memory, before its first instruction.
use Rattle.std.specs.Prelude.{ℕ, ◌+◌, ◌-◌, ◌*◌, ◌&&◌, Bool, false, List, [], ◌∷◌, ◌++◌, map, sum, length, drop, slice_get, slice_set, get_or, Option, Some, None, nat_eq, nat_le, bytes_eq, if◌then◌else◌}
use Rattle.hipe_terms.specs.declared.constant.Constant.{Constant}
use Rattle.hipe_terms.specs.declared.constant.Constant.TheOpen.{Constant-F}
use Rattle.hipe_terms.specs.declared.constant.Constant.TheFolds.{fold-Constant}
use Rattle.hipe_terms.specs.declared.constant.Call.{Call}
use Rattle.hipe_terms.specs.Words.{words_of}
use Rattle.hipe_terms.specs.Shown.{Names}
use Rattle.region_memory.specs.declared.layout.TheConstants.{CODE_BEGIN}
use Rattle.region_memory.specs.Regions.{Regions, heap_begin}
use Rattle.heap_terms.specs.Shapes.{Symbols}
use Rattle.heap_terms.specs.Building.{all_built, built}
use Rattle.image_link.specs.declared.image.Function.{Function}
use Rattle.image_link.specs.Atoms.{Atoms, interned}
use Rattle.image_link.specs.Image.{ProgramImage}

-- ---- symbols

abbrev pub all_interned : List (Atoms → Atoms) → Atoms → Atoms
all_interned [] atoms = atoms
all_interned (f ∷ fs) atoms = all_interned fs (f atoms)

abbrev pub interned_at : Constant-F (Atoms → Atoms) → Atoms → Atoms
interned_at (Constant-F.Int n) atoms = atoms
interned_at (Constant-F.Atom a) atoms = interned a atoms
interned_at Constant-F.Nil atoms = atoms
interned_at (Constant-F.List parts tail) atoms = tail (all_interned parts atoms)
interned_at (Constant-F.Tuple parts) atoms = all_interned parts atoms

-- the atoms with those of a constant that are new, from left to right
unfoldable pub with_atoms_of : Constant → Atoms → Atoms
with_atoms_of = fold-Constant (Atoms → Atoms) interned_at

-- a definition has a name; behind the first fun there is none
abbrev pub definition_before : Atoms → Option ℕ → ℕ → Names → Names
definition_before atoms None arity others = []
definition_before atoms (Some name) arity others = (get_or atoms name [], arity) ∷ others

-- the name and the number of arguments of each definition
abbrev pub definitions_of : Atoms → List Function → Names
definitions_of atoms [] = []
definitions_of atoms (f ∷ fs) = definition_before atoms f.name f.arity (definitions_of atoms fs)

-- the symbols of a program with these atoms and functions, and of a call with these arguments
abbrev pub symbols_of_call : Atoms → List Function → List Constant → Symbols
symbols_of_call atoms functions args =
    record { atoms = all_interned (map with_atoms_of args) atoms; definitions = definitions_of atoms functions; functions = length functions }

abbrev pub symbols_for : ProgramImage → List Constant → Symbols
symbols_for image args = symbols_of_call image.atoms image.functions args

-- ---- memory

-- two words for each function: the address of its closure entry, and its arity
abbrev pub table_of : List Function → List ℕ
table_of [] = []
table_of (f ∷ fs) = (CODE_BEGIN + f.closure_entry) ∷ f.arity ∷ table_of fs

-- a list with these elements in the place of its first ones
abbrev pub beginning_with : List ℕ → List ℕ → List ℕ
beginning_with words others = words ++ drop (length words) others

abbrev pub with_code : ProgramImage → Regions → Regions
with_code image regions = record regions { code = image.code; table = table_of image.functions }

-- the arguments' words from the fifth on in the argument area, what was built with them in the heap, and the exit part's address on the stack
abbrev pub with_call : List ℕ × List ℕ → Regions → Regions
with_call arguments regions =
    record regions {
      arguments = beginning_with (drop 4 arguments.0) regions.arguments;
      stack = slice_set regions.stack (length regions.stack - 1) CODE_BEGIN;
      heap = beginning_with arguments.1 regions.heap;
    }

-- ---- where the run begins

abbrev pub has_name : Atoms → List ℕ → Option ℕ → Bool
has_name atoms name None = false
has_name atoms name (Some n) = bytes_eq name (get_or atoms n [])

abbrev pub is_called : Atoms → List ℕ → ℕ → Option Function → Bool
is_called atoms name arity None = false
is_called atoms name arity (Some f) = has_name atoms name f.name && nat_eq f.arity arity

-- the first exported function of this name and number of arguments
abbrev pub exported : ProgramImage → List ℕ → ℕ → List ℕ → Option Function
exported image name arity [] = None
exported image name arity (e ∷ es) =
    if is_called image.atoms name arity (slice_get image.functions e) then slice_get image.functions e else exported image name arity es

pub data Beginning : Type 0 where
  Undefined : Beginning
  HeapFull : Beginning
  Ready : (at : ℕ) (arguments : List ℕ) (free : ℕ) → Beginning

pub record Program : Type 0 where
  pub regions : Regions
  pub symbols : Symbols
  pub beginning : Beginning

-- the words of the first four arguments, 0 where there are fewer
abbrev pub first_four : List ℕ → List ℕ
first_four words = get_or words 0 0 ∷ get_or words 1 0 ∷ get_or words 2 0 ∷ get_or words 3 0 ∷ []

abbrev pub ready : Symbols → Regions → Function → List ℕ × List ℕ → Program
ready symbols regions f arguments = record {
  regions = with_call arguments regions;
  symbols = symbols;
  beginning = Ready (CODE_BEGIN + f.closure_entry) (first_four arguments.0) (heap_begin regions + 8 * length arguments.1);
}

abbrev pub not_ready : Symbols → Regions → Beginning → Program
not_ready symbols regions beginning = record { regions = regions; symbols = symbols; beginning = beginning }

-- a call of this function where the code is in memory: the constants are built one after the other, where their words fit the heap
abbrev pub begun : Symbols → Regions → List Constant → Option Function → Program
begun symbols regions args None = not_ready symbols regions Undefined
begun symbols regions args (Some f) =
    if nat_le (sum (map words_of args)) (length regions.heap)
    then ready symbols regions f (all_built (map built args) (heap_begin regions) symbols.atoms [])
    else not_ready symbols regions HeapFull

unfoldable pub loaded : ProgramImage → Call → Regions → Program
loaded image call regions =
    begun (symbols_for image call.args) (with_code image regions) call.args (exported image call.name (length call.args) image.exports)
