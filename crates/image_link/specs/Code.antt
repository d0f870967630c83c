-- The code of one function before it is linked, and the code that every program begins with.
use Rattle.std.specs.Prelude.{◌<◌, ◌≤◌, ◌+◌, ◌⊎◌, ℕ, pos, List, [], ◌∷◌, All, AllPairs, flat_map, length}
use Rattle.amd64_form.specs.declared.inst.Inst.{Inst}
use Rattle.amd64_form.specs.declared.inst.Inst.TheVariants.{Move, LoadAddress, Shift, Syscall}
use Rattle.amd64_form.specs.declared.operation.ShiftOp.TheVariants.{Shr}
use Rattle.amd64_form.specs.declared.reg.Reg.TheVariants.{Rax, Rdx, Rdi, Rsi}
use Rattle.amd64_form.specs.Encoding.{encoding}
use Rattle.amd64_form.specs.Operation.{shift_count}
use Rattle.image_link.specs.declared.code.Code.{Code}
use Rattle.image_link.specs.declared.code.CallSite.{CallSite}

-- What the first function comes back to, with a value in rax and 0 in rdx, or a reason in rax and its class 1, 2 or 3 in rdx:
-- it calls service 0, which ends the run with the value, or service 1, which ends it with the reason and the class.
-- The number of the service is (class + 3) / 4, which is 0 for no class and 1 for each class.
abbrev pub exit_part : List Inst
exit_part = Move Rdi Rax ∷ Move Rsi Rdx ∷ LoadAddress Rax Rdx (pos 3) ∷ Shift Shr Rax (shift_count 2) ∷ Syscall ∷ []

abbrev pub exit_bytes : List ℕ
exit_bytes = flat_map encoding exit_part

-- how many bytes of a call are filled
abbrev pub FIELD : ℕ
FIELD = 4

-- the field lies in code of so many bytes, and the call goes to one of so many functions
abbrev pub IsCallIn : ℕ → ℕ → CallSite → Type 0
IsCallIn bytes functions call = (call.at + FIELD ≤ bytes) × (call.target < functions)

-- the fields of two calls have no byte in common
abbrev pub AreApart : CallSite → CallSite → Type 0
AreApart a b = (a.at + FIELD ≤ b.at) ⊎ (b.at + FIELD ≤ a.at)

-- code that can be linked, in a program of so many functions
pub record IsPart (functions : ℕ) (c : Code) : Type 0 where
  pub entry : c.closure_entry < length c.bytes
  pub calls : All (IsCallIn (length c.bytes) functions) c.calls
  pub apart : AllPairs AreApart c.calls
