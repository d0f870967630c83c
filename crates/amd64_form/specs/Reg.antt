-- The sixteen registers of 64 bits and their numbers.
use Rattle.std.specs.Prelude.{ℕ, ◌/◌, ◌%◌, List, [], ◌∷◌, slice_index_or as get_or}
use Rattle.amd64_form.specs.declared.reg.Reg.{Reg}
use Rattle.amd64_form.specs.declared.reg.Reg.TheVariants.{Rax, Rcx, Rdx, Rbx, Rsp, Rbp, Rsi, Rdi, R8, R9, R10, R11, R12, R13, R14, R15}

-- the number by which an encoding names a register
abbrev pub number : Reg → ℕ
number Rax = 0
number Rcx = 1
number Rdx = 2
number Rbx = 3
number Rsp = 4
number Rbp = 5
number Rsi = 6
number Rdi = 7
number R8 = 8
number R9 = 9
number R10 = 10
number R11 = 11
number R12 = 12
number R13 = 13
number R14 = 14
number R15 = 15

-- the top bit of that number, which stands in a REX prefix
abbrev pub high : Reg → ℕ
high r = number r / 8

-- the low three bits, which stand in the opcode or in the ModRM byte
abbrev pub low : Reg → ℕ
low r = number r % 8

-- the registers in the order of their numbers
abbrev pub registers : List Reg
registers = Rax ∷ Rcx ∷ Rdx ∷ Rbx ∷ Rsp ∷ Rbp ∷ Rsi ∷ Rdi ∷ R8 ∷ R9 ∷ R10 ∷ R11 ∷ R12 ∷ R13 ∷ R14 ∷ R15 ∷ []

-- the register of this number
abbrev pub register : ℕ → Reg
register n = get_or registers n Rax
