-- The fields of calls and the other bytes of linked code.
use Rattle.std.specs.Prelude.{◌≡◌, ◌<◌, ◌≤◌, ◌+◌, ◌+ℤ◌, ◌⊎◌, ℕ, ℤ, pos, List, Some, All, Contains, FitsSigned, drop, get_or, length, slice_get, take}
use Rattle.std.specs.Int.{w32}
use Rattle.amd64_form.specs.Encoding.{constant_32}
use Rattle.image_link.specs.declared.code.Code.{Code}
use Rattle.image_link.specs.declared.code.CallSite.{CallSite}
use Rattle.hipe_base.specs.declared.limits.TheConstants.{CODE_LIMIT}
use Rattle.image_link.specs.Code.{FIELD, IsPart}
use Rattle.image_link.specs.Linking.{code_size, linked, size, start_of}
use Rattle.image_link.specs.Names.{ProgramNames}

-- the bytes of the field at an offset
abbrev pub field_at : List ℕ → ℕ → List ℕ
field_at code at = take FIELD (drop at code)

-- the field at an offset holds, as a signed number of 32 bits, the displacement from the offset behind it to a target
abbrev pub LeadsTo : List ℕ → ℕ → ℕ → Type 0
LeadsTo code at target = (d : ℤ) × FitsSigned w32 d × (field_at code at ≡ constant_32 d) × (pos (at + FIELD) +ℤ d ≡ pos target)

abbrev pub CallsLead : Type 0
CallsLead = (parts : List Code) (names : ProgramNames) → All (IsPart (length parts)) parts → code_size parts ≤ CODE_LIMIT
    → (k : ℕ) (part : Code) (call : CallSite) → slice_get parts k ≡ Some part → Contains part.calls call
    → LeadsTo (linked parts names).code (start_of parts k + call.at) (start_of parts call.target)

-- an offset in a part is in no call's field
abbrev pub IsOutside : Code → ℕ → Type 0
IsOutside part i = All (λ call. (i < call.at) ⊎ (call.at + FIELD ≤ i)) part.calls

abbrev pub OthersStay : Type 0
OthersStay = (parts : List Code) (names : ProgramNames) → All (IsPart (length parts)) parts
    → (k i : ℕ) (part : Code) → slice_get parts k ≡ Some part → i < size part → IsOutside part i
    → get_or (linked parts names).code (start_of parts k + i) 0 ≡ get_or part.bytes i 0
