-- The image that code is linked to.
use Rattle.std.specs.Prelude.{◌≡◌, ◌<◌, ◌≤◌, ◌+◌, ◌-◌, ◌^◌, ◌-ℤ◌, ◌++◌, ℕ, pos, List, [], ◌∷◌, Result, Ok, Err, drop, fold, length, map, min, slice_index, sum_by, take}
use Rattle.std.specs.List.{range_with_len}
use Rattle.amd64_form.specs.Encoding.{constant_32}
use Rattle.image_link.specs.declared.code.Code.{Code}
use Rattle.image_link.specs.declared.code.CallSite.{CallSite}
use Rattle.image_link.specs.declared.names.FunctionEntry.{FunctionEntry}
use Rattle.image_link.specs.declared.image.Function.{Function}
use Rattle.hipe_base.specs.declared.limits.TheConstants.{CODE_LIMIT}
use Rattle.image_link.specs.declared.linking.LinkFault.{LinkFault}
use Rattle.image_link.specs.declared.linking.LinkFault.TheVariants.{TooLarge, Memory}
use Rattle.image_link.specs.Code.{FIELD, exit_bytes}
use Rattle.image_link.specs.Image.{ProgramImage}
use Rattle.image_link.specs.Names.{ProgramNames}

abbrev pub size : Code → ℕ
size part = length part.bytes

-- the offset of the part of function `number`: behind the exit part and the parts before it
abbrev pub start_of : List Code → ℕ → ℕ
start_of parts number = length exit_bytes + sum_by size (take number parts)

-- the offsets of the parts, in the order of the functions' numbers
abbrev pub starts_of : List Code → List ℕ
starts_of parts = map (start_of parts) (range_with_len 0 (length parts))

-- how many bytes the linked code has
abbrev pub code_size : List Code → ℕ
code_size parts = length exit_bytes + sum_by size parts

-- the bytes with these in the place of those from `at` on
abbrev pub replaced : List ℕ → ℕ → List ℕ → List ℕ
replaced bytes at new = take at bytes ++ new ++ drop (at + length new) bytes

-- the displacement with which a jump goes from the address `next` behind it to the address `target`
unfoldable pub displacement : ℕ → ℕ → List ℕ
displacement next target = constant_32 (pos target -ℤ pos next)

-- the bytes of a part that starts at `start`, with a call's field filled, where the parts have these starts
abbrev pub filled : List ℕ → ℕ → List ℕ → CallSite → List ℕ
filled starts start bytes call =
    replaced bytes call.at (displacement (start + call.at + FIELD) (slice_index starts call.target))

-- the same with the fields of all its calls filled
abbrev pub linked_part : List ℕ → ℕ → Code → List ℕ
linked_part starts start part = fold (filled starts start) part.bytes part.calls

-- the code of the functions from `number` on, whose parts are the last of the parts
abbrev pub code_from : List Code → ℕ → List Code → List ℕ
code_from parts number [] = []
code_from parts number (part ∷ rest) =
    linked_part (starts_of parts) (start_of parts number) part ++ code_from parts (number + 1) rest

-- a function whose part starts at `start`
abbrev pub placed : FunctionEntry → ℕ → Code → Function
placed f start part = record {
  name = f.name;
  arity = f.arity;
  captured = f.captured;
  closure_entry = start + part.closure_entry;
}

-- the functions from `number` on
abbrev pub functions_from : List Code → ℕ → List FunctionEntry → List Code → List Function
functions_from parts number [] rest = []
functions_from parts number (f ∷ fs) [] = []
functions_from parts number (f ∷ fs) (part ∷ rest) =
    placed f (start_of parts number) part ∷ functions_from parts (number + 1) fs rest

-- the image of a program whose functions have these parts, in the order of their numbers
abbrev pub linked : List Code → ProgramNames → ProgramImage
linked parts n = record {
  atoms = n.atoms;
  module_atom = n.module_atom;
  functions = functions_from parts 0 n.functions parts;
  exports = n.exports;
  code = exit_bytes ++ code_from parts 0 parts;
}

-- what `link` answers for these parts and names
abbrev pub IsLinked : List Code → ProgramNames → Result ProgramImage LinkFault → Type 0
IsLinked parts n (Ok i) = (i ≡ linked parts n) × (code_size parts ≤ CODE_LIMIT)
IsLinked parts n (Err (TooLarge bytes)) = (bytes ≡ min (code_size parts) (2 ^ 64 - 1)) × (CODE_LIMIT < code_size parts)
IsLinked parts n (Err Memory) = code_size parts ≤ CODE_LIMIT
