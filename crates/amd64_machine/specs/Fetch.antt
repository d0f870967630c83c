-- Which instruction stands at an address of the code, which stands in memory from CODE_BEGIN on.
use Rattle.std.specs.Prelude.{◌≡◌, ℕ, ◌+◌, ◌-◌, ◌≤◌, List, ◌++◌, ◌&&◌, Result, Ok, Err, length, drop, nat_le, nat_lt, if◌then◌else◌}
use Rattle.amd64_form.specs.declared.inst.Inst.{Inst}
use Rattle.amd64_form.specs.declared.form.TheConstants.{FORMS}
use Rattle.amd64_form.specs.declared.decoding.DecodeFault.{DecodeFault}
use Rattle.amd64_form.specs.Inst.{IsInst}
use Rattle.amd64_form.specs.Encoding.{encoding}
use Rattle.amd64_form.specs.Form.{reading}
use Rattle.region_memory.specs.declared.layout.TheConstants.{CODE_BEGIN}

-- what stands at an address: no instruction, or one and the address of the next
pub data Fetched : Type 0 where
  Nothing : Fetched
  Here : (inst : Inst) (next : ℕ) → Fetched

abbrev pub here : ℕ → Result (Inst × ℕ) DecodeFault → Fetched
here at (Err fault) = Nothing
here at (Ok read) = Here read.0 (at + read.1)

-- what the table of forms reads at the address
unfoldable pub fetch : List ℕ → ℕ → Fetched
fetch code at =
    if nat_le CODE_BEGIN at && nat_lt at (CODE_BEGIN + length code)
    then here at (reading FORMS (drop (at - CODE_BEGIN) code))
    else Nothing

-- the encoding of the instruction stands in the code from the address on
abbrev pub StandsAt : List ℕ → ℕ → Inst → Type 0
StandsAt code at i =
    (CODE_BEGIN ≤ at) × (rest : List ℕ) × IsInst i × (drop (at - CODE_BEGIN) code ≡ encoding i ++ rest)

-- an instruction is fetched exactly where its encoding stands, and the next begins behind it
pub record FetchesCode (code : List ℕ) : Type 0 where
  pub found : (at : ℕ) (i : Inst) → StandsAt code at i → fetch code at ≡ Here i (at + length (encoding i))
  pub only : (at : ℕ) (i : Inst) (next : ℕ) → fetch code at ≡ Here i next → StandsAt code at i × (next ≡ at + length (encoding i))
