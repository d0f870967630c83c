-- The text of registers and instructions, as assemblers for AMD64 write them in Intel's syntax.
use Rattle.std.specs.Prelude.{ℕ, suc, ℤ, pos, negsuc, ◌+ℤ◌, List, ◌∷◌, ◌++◌, codes}
use Rattle.std.specs.Fmt.{decimal, signed_decimal}
use Rattle.amd64_form.specs.declared.reg.Reg.{Reg}
use Rattle.amd64_form.specs.declared.reg.Reg.TheVariants.{Rax, Rcx, Rdx, Rbx, Rsp, Rbp, Rsi, Rdi, R8, R9, R10, R11, R12, R13, R14, R15}
use Rattle.amd64_form.specs.declared.operation.BinaryOp.{BinaryOp}
use Rattle.amd64_form.specs.declared.operation.BinaryOp.TheVariants as binary
use Rattle.amd64_form.specs.declared.operation.UnaryOp.{UnaryOp}
use Rattle.amd64_form.specs.declared.operation.UnaryOp.TheVariants as unary
use Rattle.amd64_form.specs.declared.operation.ShiftOp.{ShiftOp}
use Rattle.amd64_form.specs.declared.operation.ShiftOp.TheVariants as shifts
use Rattle.amd64_form.specs.declared.condition.Condition.{Condition}
use Rattle.amd64_form.specs.declared.condition.Condition.TheVariants as conditions
use Rattle.amd64_form.specs.declared.inst.Inst.{Inst}
use Rattle.amd64_form.specs.declared.inst.Inst.TheVariants.{Move, Load, Store, LoadConstant, Binary, BinaryConstant, Unary, Multiply, SignExtend, Shift, ShiftByCl, LoadAddress, Jump, Call, JumpIf, CallRegister, JumpRegister, Push, Pop, Return, Syscall}
use Rattle.amd64_form.specs.Operation.{count_of}

abbrev pub reg_text : Reg → List ℕ
reg_text Rax = codes "rax"
reg_text Rcx = codes "rcx"
reg_text Rdx = codes "rdx"
reg_text Rbx = codes "rbx"
reg_text Rsp = codes "rsp"
reg_text Rbp = codes "rbp"
reg_text Rsi = codes "rsi"
reg_text Rdi = codes "rdi"
reg_text R8 = codes "r8"
reg_text R9 = codes "r9"
reg_text R10 = codes "r10"
reg_text R11 = codes "r11"
reg_text R12 = codes "r12"
reg_text R13 = codes "r13"
reg_text R14 = codes "r14"
reg_text R15 = codes "r15"

abbrev pub binary_text : BinaryOp → List ℕ
binary_text binary.Add = codes "add"
binary_text binary.Or = codes "or"
binary_text binary.And = codes "and"
binary_text binary.Sub = codes "sub"
binary_text binary.Xor = codes "xor"
binary_text binary.Cmp = codes "cmp"
binary_text binary.Test = codes "test"

abbrev pub unary_text : UnaryOp → List ℕ
unary_text unary.Not = codes "not"
unary_text unary.Neg = codes "neg"
unary_text unary.Idiv = codes "idiv"

abbrev pub shift_text : ShiftOp → List ℕ
shift_text shifts.Shl = codes "shl"
shift_text shifts.Shr = codes "shr"
shift_text shifts.Sar = codes "sar"

abbrev pub condition_text : Condition → List ℕ
condition_text conditions.O = codes "o"
condition_text conditions.No = codes "no"
condition_text conditions.B = codes "b"
condition_text conditions.Ae = codes "ae"
condition_text conditions.E = codes "e"
condition_text conditions.Ne = codes "ne"
condition_text conditions.Be = codes "be"
condition_text conditions.A = codes "a"
condition_text conditions.S = codes "s"
condition_text conditions.Ns = codes "ns"
condition_text conditions.L = codes "l"
condition_text conditions.Ge = codes "ge"
condition_text conditions.Le = codes "le"
condition_text conditions.G = codes "g"

-- a displacement with its sign
abbrev pub displacement_text : ℤ → List ℕ
displacement_text (pos n) = 43 ∷ decimal n
displacement_text (negsuc n) = 45 ∷ decimal (suc n)

-- the word in memory at a base and a displacement
abbrev pub address_text : Reg → ℤ → List ℕ
address_text base offset = codes "[" ++ reg_text base ++ displacement_text offset ++ codes "]"

-- a jump's target: the dot is the address of the jump itself, of so many bytes
abbrev pub target_text : ℕ → ℤ → List ℕ
target_text bytes offset = codes "." ++ displacement_text (offset +ℤ pos bytes)

abbrev pub inst_text : Inst → List ℕ
inst_text (Move to from) = codes "mov " ++ reg_text to ++ codes ", " ++ reg_text from
inst_text (Load to base offset) = codes "mov " ++ reg_text to ++ codes ", " ++ address_text base offset
inst_text (Store base offset from) = codes "mov " ++ address_text base offset ++ codes ", " ++ reg_text from
inst_text (LoadConstant to value) = codes "mov " ++ reg_text to ++ codes ", " ++ decimal value
inst_text (Binary op to from) = binary_text op ++ codes " " ++ reg_text to ++ codes ", " ++ reg_text from
inst_text (BinaryConstant op to value) = binary_text op ++ codes " " ++ reg_text to ++ codes ", " ++ signed_decimal value
inst_text (Unary op of) = unary_text op ++ codes " " ++ reg_text of
inst_text (Multiply to by) = codes "imul " ++ reg_text to ++ codes ", " ++ reg_text by
inst_text SignExtend = codes "cqo"
inst_text (Shift op to count) = shift_text op ++ codes " " ++ reg_text to ++ codes ", " ++ decimal (count_of count)
inst_text (ShiftByCl op to) = shift_text op ++ codes " " ++ reg_text to ++ codes ", cl"
inst_text (LoadAddress to base offset) = codes "lea " ++ reg_text to ++ codes ", " ++ address_text base offset
inst_text (Jump offset) = codes "jmp " ++ target_text 5 offset
inst_text (Call offset) = codes "call " ++ target_text 5 offset
inst_text (JumpIf condition offset) = codes "j" ++ condition_text condition ++ codes " " ++ target_text 6 offset
inst_text (CallRegister r) = codes "call " ++ reg_text r
inst_text (JumpRegister r) = codes "jmp " ++ reg_text r
inst_text (Push r) = codes "push " ++ reg_text r
inst_text (Pop r) = codes "pop " ++ reg_text r
inst_text Return = codes "ret"
inst_text Syscall = codes "syscall"
