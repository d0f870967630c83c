-- How the table of forms is read. The public contracts of this crate cite nothing of it. The machine fetches by it, and its
-- `fetches_code` says by encodings alone what is fetched.
use Rattle.std.specs.Prelude.{ℕ, ◌+◌, ◌*◌, ◌/◌, ◌%◌, ℤ, Bool, not, ◌==◌, ◌&&◌, ◌||◌, nat_lt, nat_le, if◌then◌else◌, List, [], ◌∷◌, length, take, drop, replicate, slice_index, Result, Ok, Err}
use Rattle.std.specs.Int.{w32, w64, from_le_bytes, cast_signed}
use Rattle.amd64_form.specs.declared.reg.Reg.{Reg}
use Rattle.amd64_form.specs.declared.inst.Inst.{Inst}
use Rattle.amd64_form.specs.declared.inst.Inst.TheVariants.{Move, Load, Store, LoadConstant, Binary, BinaryConstant, Unary, Multiply, SignExtend, Shift, ShiftByCl, LoadAddress, Jump, Call, JumpIf, CallRegister, JumpRegister, Push, Pop, Return, Syscall}
use Rattle.amd64_form.specs.declared.form.Part.{Part}
use Rattle.amd64_form.specs.declared.form.Part.TheVariants.{Byte, Wide, WideOne, Plus, ModRm, Memory, MemorySib, Count, Any}
use Rattle.amd64_form.specs.declared.form.Fit.{Fit}
use Rattle.amd64_form.specs.declared.form.Fit.TheVariants.{Whole, Prefix, Apart}
use Rattle.amd64_form.specs.declared.form.Form.{Form}
use Rattle.amd64_form.specs.declared.form.Form.TheVariants as forms
use Rattle.amd64_form.specs.declared.decoding.DecodeFault.{DecodeFault}
use Rattle.amd64_form.specs.declared.decoding.DecodeFault.TheVariants.{Short, Unknown}
use Rattle.amd64_form.specs.Operation.{opcode, opcode_of_constant, binary_digit, unary_digit, shift_digit, condition_number, shift_count}
use Rattle.amd64_form.specs.Reg.{register}

abbrev pub admits : Part → ℕ → Bool
admits (Byte value) b = b == value
admits Wide b = b == 0x48 || b == 0x49 || b == 0x4C || b == 0x4D
admits WideOne b = b == 0x48 || b == 0x49
admits (Plus value) b = b / 8 == value / 8
admits ModRm b = nat_le 0xC0 b && nat_lt b 256
admits Memory b = nat_le 0x80 b && nat_le b 0xBF && not (b % 8 == 4)
admits MemorySib b = nat_le 0x80 b && nat_le b 0xBF && b % 8 == 4
admits Count b = nat_lt b 64
admits Any b = nat_lt b 256

abbrev pub parts_of : Form → List Part
parts_of forms.Move = Wide ∷ Byte 0x89 ∷ ModRm ∷ []
parts_of forms.Load = Wide ∷ Byte 0x8B ∷ Memory ∷ replicate 4 Any
parts_of forms.LoadSib = Wide ∷ Byte 0x8B ∷ MemorySib ∷ Byte 0x24 ∷ replicate 4 Any
parts_of forms.Store = Wide ∷ Byte 0x89 ∷ Memory ∷ replicate 4 Any
parts_of forms.StoreSib = Wide ∷ Byte 0x89 ∷ MemorySib ∷ Byte 0x24 ∷ replicate 4 Any
parts_of forms.LoadConstant = WideOne ∷ Plus 0xB8 ∷ replicate 8 Any
parts_of (forms.Binary op) = Wide ∷ Byte (opcode op) ∷ ModRm ∷ []
parts_of (forms.BinaryConstant op) = WideOne ∷ Byte (opcode_of_constant op) ∷ Plus (0xC0 + 8 * binary_digit op) ∷ replicate 4 Any
parts_of (forms.Unary op) = WideOne ∷ Byte 0xF7 ∷ Plus (0xC0 + 8 * unary_digit op) ∷ []
parts_of forms.Multiply = Wide ∷ Byte 0x0F ∷ Byte 0xAF ∷ ModRm ∷ []
parts_of forms.SignExtend = Byte 0x48 ∷ Byte 0x99 ∷ []
parts_of (forms.Shift op) = WideOne ∷ Byte 0xC1 ∷ Plus (0xC0 + 8 * shift_digit op) ∷ Count ∷ []
parts_of (forms.ShiftByCl op) = WideOne ∷ Byte 0xD3 ∷ Plus (0xC0 + 8 * shift_digit op) ∷ []
parts_of forms.LoadAddress = Wide ∷ Byte 0x8D ∷ Memory ∷ replicate 4 Any
parts_of forms.LoadAddressSib = Wide ∷ Byte 0x8D ∷ MemorySib ∷ Byte 0x24 ∷ replicate 4 Any
parts_of forms.Jump = Byte 0xE9 ∷ replicate 4 Any
parts_of forms.Call = Byte 0xE8 ∷ replicate 4 Any
parts_of (forms.JumpIf condition) = Byte 0x0F ∷ Byte (0x80 + condition_number condition) ∷ replicate 4 Any
parts_of forms.CallLow = Byte 0xFF ∷ Plus 0xD0 ∷ []
parts_of forms.CallHigh = Byte 0x41 ∷ Byte 0xFF ∷ Plus 0xD0 ∷ []
parts_of forms.JumpLow = Byte 0xFF ∷ Plus 0xE0 ∷ []
parts_of forms.JumpHigh = Byte 0x41 ∷ Byte 0xFF ∷ Plus 0xE0 ∷ []
parts_of forms.PushLow = Plus 0x50 ∷ []
parts_of forms.PushHigh = Byte 0x41 ∷ Plus 0x50 ∷ []
parts_of forms.PopLow = Plus 0x58 ∷ []
parts_of forms.PopHigh = Byte 0x41 ∷ Plus 0x58 ∷ []
parts_of forms.Return = Byte 0xC3 ∷ []
parts_of forms.Syscall = Byte 0x0F ∷ Byte 0x05 ∷ []

-- how bytes stand to these parts
abbrev pub fit : List Part → List ℕ → Fit
fit [] bytes = Whole
fit (p ∷ ps) [] = Prefix
fit (p ∷ ps) (b ∷ bs) = if admits p b then fit ps bs else Apart

-- the register of the field reg: its top bit is R of the prefix
abbrev pub reg_field : ℕ → ℕ → Reg
reg_field prefix byte = register (8 * (prefix / 4 % 2) + byte / 8 % 8)

-- the register in the low three bits of a byte: its top bit is B of the prefix
abbrev pub rm_field : ℕ → ℕ → Reg
rm_field prefix byte = register (8 * (prefix % 2) + byte % 8)

-- these two of a prefix before and the byte at this place
abbrev pub reg_at : List ℕ → ℕ → Reg
reg_at s at = reg_field (slice_index s 0) (slice_index s at)

abbrev pub rm_at : List ℕ → ℕ → Reg
rm_at s at = rm_field (slice_index s 0) (slice_index s at)

-- the signed constant of 32 bits from this place on
abbrev pub signed_at : List ℕ → ℕ → ℤ
signed_at s at = cast_signed w32 (from_le_bytes w32 (take 4 (drop at s)))

-- a load, a store and an address whose displacement stands at this place
abbrev pub load_of : ℕ → List ℕ → Inst
load_of at s = Load (reg_at s 2) (rm_at s 2) (signed_at s at)

abbrev pub store_of : ℕ → List ℕ → Inst
store_of at s = Store (rm_at s 2) (signed_at s at) (reg_at s 2)

abbrev pub load_address_of : ℕ → List ℕ → Inst
load_address_of at s = LoadAddress (reg_at s 2) (rm_at s 2) (signed_at s at)

abbrev pub inst_of : Form → List ℕ → Inst
inst_of forms.Move s = Move (rm_at s 2) (reg_at s 2)
inst_of forms.Load s = load_of 3 s
inst_of forms.LoadSib s = load_of 4 s
inst_of forms.Store s = store_of 3 s
inst_of forms.StoreSib s = store_of 4 s
inst_of forms.LoadConstant s = LoadConstant (rm_at s 1) (from_le_bytes w64 (take 8 (drop 2 s)))
inst_of (forms.Binary op) s = Binary op (rm_at s 2) (reg_at s 2)
inst_of (forms.BinaryConstant op) s = BinaryConstant op (rm_at s 2) (signed_at s 3)
inst_of (forms.Unary op) s = Unary op (rm_at s 2)
inst_of forms.Multiply s = Multiply (reg_at s 3) (rm_at s 3)
inst_of forms.SignExtend s = SignExtend
inst_of (forms.Shift op) s = Shift op (rm_at s 2) (shift_count (slice_index s 3 % 64))
inst_of (forms.ShiftByCl op) s = ShiftByCl op (rm_at s 2)
inst_of forms.LoadAddress s = load_address_of 3 s
inst_of forms.LoadAddressSib s = load_address_of 4 s
inst_of forms.Jump s = Jump (signed_at s 1)
inst_of forms.Call s = Call (signed_at s 1)
inst_of (forms.JumpIf condition) s = JumpIf condition (signed_at s 2)
inst_of forms.CallLow s = CallRegister (rm_field 0 (slice_index s 1))
inst_of forms.CallHigh s = CallRegister (rm_at s 2)
inst_of forms.JumpLow s = JumpRegister (rm_field 0 (slice_index s 1))
inst_of forms.JumpHigh s = JumpRegister (rm_at s 2)
inst_of forms.PushLow s = Push (rm_field 0 (slice_index s 0))
inst_of forms.PushHigh s = Push (rm_at s 1)
inst_of forms.PopLow s = Pop (rm_field 0 (slice_index s 0))
inst_of forms.PopHigh s = Pop (rm_at s 1)
inst_of forms.Return s = Return
inst_of forms.Syscall s = Syscall

-- what the fit to one form gives, or else the other forms
abbrev pub reading_by : Fit → Inst → ℕ → Result (Inst × ℕ) DecodeFault → Result (Inst × ℕ) DecodeFault
reading_by Whole i n others = Ok (i, n)
reading_by Prefix i n others = Err Short
reading_by Apart i n others = others

-- what the first form that fits gives
unfoldable pub reading : List Form → List ℕ → Result (Inst × ℕ) DecodeFault
reading [] bytes = Err Unknown
reading (f ∷ fs) bytes = reading_by (fit (parts_of f) bytes) (inst_of f bytes) (length (parts_of f)) (reading fs bytes)
