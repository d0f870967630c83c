-- The one encoding of each instruction, and the bytes that begin with one or break off inside one.
use Rattle.std.specs.Prelude.{◌≡◌, ◌≢◌, ℕ, ℤ, ◌+◌, ◌*◌, List, [], ◌∷◌, ◌++◌, nat_lt, nat_eq, if◌then◌else◌}
use Rattle.std.specs.Int.{w32, w64, to_le_bytes, cast_unsigned}
use Rattle.amd64_form.specs.declared.reg.Reg.{Reg}
use Rattle.amd64_form.specs.declared.inst.Inst.{Inst}
use Rattle.amd64_form.specs.declared.inst.Inst.TheVariants.{Move, Load, Store, LoadConstant, Binary, BinaryConstant, Unary, Multiply, SignExtend, Shift, ShiftByCl, LoadAddress, Jump, Call, JumpIf, CallRegister, JumpRegister, Push, Pop, Return, Syscall}
use Rattle.amd64_form.specs.Operation.{opcode, opcode_of_constant, binary_digit, unary_digit, shift_digit, condition_number, count_of}
use Rattle.amd64_form.specs.Reg.{number, high, low}
use Rattle.amd64_form.specs.Inst.{IsInst}

-- the REX prefix of these four bits: W for operands of 64 bits, R and X and B for the top bits of register numbers
abbrev pub rex : ℕ → ℕ → ℕ → ℕ → ℕ
rex w r x b = 0x40 + 8 * w + 4 * r + 2 * x + b

-- the ModRM byte in register mode, of the low three bits of the two register fields
abbrev pub mod_rm : ℕ → ℕ → ℕ
mod_rm reg rm = 0xC0 + 8 * reg + rm

-- the ModRM byte of a word in memory at a base and a displacement of 32 bits
abbrev pub mod_rm_memory : ℕ → ℕ → ℕ
mod_rm_memory reg rm = 0x80 + 8 * reg + rm

-- an opcode of 64 bits with register r in the field reg and register m in the field rm
abbrev pub two_registers : ℕ → Reg → Reg → List ℕ
two_registers opcode r m = rex 1 (high r) 0 (high m) ∷ opcode ∷ mod_rm (low r) (low m) ∷ []

-- an opcode of 64 bits that goes on in the field reg, with register m in the field rm
abbrev pub one_register : ℕ → ℕ → Reg → List ℕ
one_register opcode digit m = rex 1 0 0 (high m) ∷ opcode ∷ mod_rm digit (low m) ∷ []

-- a prefix where register m is r8 or above
abbrev pub prefix_of : Reg → List ℕ
prefix_of m = if nat_lt (number m) 8 then [] else rex 0 0 0 1 ∷ []

-- an opcode that has register r in its low three bits, and a prefix where r is r8 or above
abbrev pub short_register : ℕ → Reg → List ℕ
short_register opcode r = prefix_of r ++ (opcode + low r) ∷ []

-- an opcode of 64 bits without W, that goes on in the field reg, and a prefix where register m is r8 or above
abbrev pub near_register : ℕ → ℕ → Reg → List ℕ
near_register opcode digit m = prefix_of m ++ opcode ∷ mod_rm digit (low m) ∷ []

-- a constant of 64 bits, the lowest byte first
abbrev pub constant_64 : ℕ → List ℕ
constant_64 value = to_le_bytes w64 value

-- a signed constant of 32 bits in two's complement, the lowest byte first
abbrev pub constant_32 : ℤ → List ℕ
constant_32 value = to_le_bytes w32 (cast_unsigned w32 value)

-- the SIB byte of a base without an index, where the base's low three bits say that there is one
abbrev pub sib_of : Reg → List ℕ
sib_of base = if nat_eq (low base) 4 then 0x24 ∷ [] else []

-- an opcode of 64 bits with register r in the field reg, and the word in memory at the base and the displacement
abbrev pub memory : ℕ → Reg → Reg → ℤ → List ℕ
memory opcode r base offset =
    rex 1 (high r) 0 (high base) ∷ opcode ∷ mod_rm_memory (low r) (low base) ∷ sib_of base ++ constant_32 offset

-- the opcodes of the manual's volume 3, appendix A
abbrev pub encoding : Inst → List ℕ
encoding (Move to from) = two_registers 0x89 from to
encoding (Load to base offset) = memory 0x8B to base offset
encoding (Store base offset from) = memory 0x89 from base offset
encoding (LoadConstant to value) = rex 1 0 0 (high to) ∷ (0xB8 + low to) ∷ constant_64 value
encoding (Binary op to from) = two_registers (opcode op) from to
encoding (BinaryConstant op to value) = one_register (opcode_of_constant op) (binary_digit op) to ++ constant_32 value
encoding (Unary op of) = one_register 0xF7 (unary_digit op) of
encoding (Multiply to by) = rex 1 (high to) 0 (high by) ∷ 0x0F ∷ 0xAF ∷ mod_rm (low to) (low by) ∷ []
encoding SignExtend = rex 1 0 0 0 ∷ 0x99 ∷ []
encoding (Shift op to count) = one_register 0xC1 (shift_digit op) to ++ count_of count ∷ []
encoding (ShiftByCl op to) = one_register 0xD3 (shift_digit op) to
encoding (LoadAddress to base offset) = memory 0x8D to base offset
encoding (Jump offset) = 0xE9 ∷ constant_32 offset
encoding (Call offset) = 0xE8 ∷ constant_32 offset
encoding (JumpIf condition offset) = 0x0F ∷ (0x80 + condition_number condition) ∷ constant_32 offset
encoding (CallRegister m) = near_register 0xFF 2 m
encoding (JumpRegister m) = near_register 0xFF 4 m
encoding (Push r) = short_register 0x50 r
encoding (Pop r) = short_register 0x58 r
encoding Return = 0xC3 ∷ []
encoding Syscall = 0x0F ∷ 0x05 ∷ []

-- an instruction stands at the beginning of the bytes
abbrev pub BeginsWithInst : List ℕ → Type 0
BeginsWithInst bytes = (i : Inst) × (rest : List ℕ) × IsInst i × (bytes ≡ encoding i ++ rest)

-- the bytes break off inside an instruction
abbrev pub IsPartOfInst : List ℕ → Type 0
IsPartOfInst bytes = (i : Inst) × (more : List ℕ) × IsInst i × (more ≢ []) × (encoding i ≡ bytes ++ more)
