-- The numbers by which encodings name operations and conditions.
use Rattle.std.specs.Prelude.{ℕ}
use Rattle.amd64_form.specs.declared.operation.BinaryOp.{BinaryOp}
use Rattle.amd64_form.specs.declared.operation.BinaryOp.TheVariants.{Add, Or, And, Sub, Xor, Cmp, Test}
use Rattle.amd64_form.specs.declared.operation.UnaryOp.{UnaryOp}
use Rattle.amd64_form.specs.declared.operation.UnaryOp.TheVariants.{Not, Neg, Idiv}
use Rattle.amd64_form.specs.declared.operation.ShiftOp.{ShiftOp}
use Rattle.amd64_form.specs.declared.operation.ShiftOp.TheVariants.{Shl, Shr, Sar}
use Rattle.amd64_form.specs.declared.operation.ShiftCount.{ShiftCount}
use Rattle.amd64_form.specs.declared.condition.Condition.{Condition}
use Rattle.amd64_form.specs.declared.condition.Condition.TheVariants.{O, No, B, Ae, E, Ne, Be, A, S, Ns, L, Ge, Le, G}

-- the opcode with two registers
abbrev pub opcode : BinaryOp → ℕ
opcode Add = 0x01
opcode Or = 0x09
opcode And = 0x21
opcode Sub = 0x29
opcode Xor = 0x31
opcode Cmp = 0x39
opcode Test = 0x85

-- the opcode with a register and a constant
abbrev pub opcode_of_constant : BinaryOp → ℕ
opcode_of_constant Add = 0x81
opcode_of_constant Or = 0x81
opcode_of_constant And = 0x81
opcode_of_constant Sub = 0x81
opcode_of_constant Xor = 0x81
opcode_of_constant Cmp = 0x81
opcode_of_constant Test = 0xF7

-- the number with which that opcode goes on in the field reg
abbrev pub binary_digit : BinaryOp → ℕ
binary_digit Add = 0
binary_digit Or = 1
binary_digit And = 4
binary_digit Sub = 5
binary_digit Xor = 6
binary_digit Cmp = 7
binary_digit Test = 0

-- the number with which F7 goes on in the field reg
abbrev pub unary_digit : UnaryOp → ℕ
unary_digit Not = 2
unary_digit Neg = 3
unary_digit Idiv = 7

-- the number with which C1 and D3 go on in the field reg
abbrev pub shift_digit : ShiftOp → ℕ
shift_digit Shl = 4
shift_digit Shr = 5
shift_digit Sar = 7

-- the number of a condition, which an opcode has in its low four bits
abbrev pub condition_number : Condition → ℕ
condition_number O = 0x0
condition_number No = 0x1
condition_number B = 0x2
condition_number Ae = 0x3
condition_number E = 0x4
condition_number Ne = 0x5
condition_number Be = 0x6
condition_number A = 0x7
condition_number S = 0x8
condition_number Ns = 0x9
condition_number L = 0xC
condition_number Ge = 0xD
condition_number Le = 0xE
condition_number G = 0xF

-- the count of so many bits
abbrev pub shift_count : ℕ → ShiftCount
shift_count n = record { bits = n }

-- by how many bits a shift goes
abbrev pub count_of : ShiftCount → ℕ
count_of count = count.bits
