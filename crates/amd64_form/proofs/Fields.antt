-- Registers and their bits in the bytes of an encoding.
use Rattle.std.proofs.Common.{◌≡◌, ℕ, ◌+◌, ◌*◌, ◌/◌, ◌%◌, ◌<◌, true, eqb, refl, ap, ◌∙◌, arith, lit<}
use Rattle.std.proofs.lemmas.Bool.{eqb-true}
use Rattle.std.proofs.lemmas.Bool.Decides.{nat_tests}
use Rattle.amd64_form.specs.declared.reg.Reg.{Reg}
use Rattle.amd64_form.specs.declared.reg.Reg.TheVariants.{Rax, Rcx, Rdx, Rbx, Rsp, Rbp, Rsi, Rdi, R8, R9, R10, R11, R12, R13, R14, R15}
use Rattle.amd64_form.specs.declared.form.Part.TheVariants.{Wide, WideOne, Plus, ModRm}
use Rattle.amd64_form.specs.Reg.{number, high, low, register}
use Rattle.amd64_form.specs.Encoding.{rex, mod_rm}
use Rattle.amd64_form.proofs.Fit.{at_below}
use Rattle.amd64_form.specs.Form.{admits, reg_field, rm_field}

pub number_below : (r : Reg) → number r < 16
number_below Rax = lit< tt
number_below Rcx = lit< tt
number_below Rdx = lit< tt
number_below Rbx = lit< tt
number_below Rsp = lit< tt
number_below Rbp = lit< tt
number_below Rsi = lit< tt
number_below Rdi = lit< tt
number_below R8 = lit< tt
number_below R9 = lit< tt
number_below R10 = lit< tt
number_below R11 = lit< tt
number_below R12 = lit< tt
number_below R13 = lit< tt
number_below R14 = lit< tt
number_below R15 = lit< tt

pub register-number : (r : Reg) → register (number r) ≡ r
register-number Rax = refl
register-number Rcx = refl
register-number Rdx = refl
register-number Rbx = refl
register-number Rsp = refl
register-number Rbp = refl
register-number Rsi = refl
register-number Rdi = refl
register-number R8 = refl
register-number R9 = refl
register-number R10 = refl
register-number R11 = refl
register-number R12 = refl
register-number R13 = refl
register-number R14 = refl
register-number R15 = refl

pub number-register : (n : ℕ) → n < 16 → number (register n) ≡ n
number-register n lt = eqb-true (number (register n)) n (at_below (λ k. eqb (number (register k)) k) 16 n refl lt)

-- ---- what a byte says of registers

-- the register of these bits
pub bits_of : (top bits : ℕ) → top < 2 → bits < 8 → (high (register (8 * top + bits)) ≡ top) × (low (register (8 * top + bits)) ≡ bits)
bits_of top bits x y =
    let is : number (register (8 * top + bits)) ≡ 8 * top + bits = number-register (8 * top + bits) (omega arith) in
    (omega (arith, is), omega (arith, is))

pub reg_bits : (prefix byte : ℕ) → (high (reg_field prefix byte) ≡ prefix / 4 % 2) × (low (reg_field prefix byte) ≡ byte / 8 % 8)
reg_bits prefix byte = bits_of (prefix / 4 % 2) (byte / 8 % 8) (omega arith) (omega arith)

pub rm_bits : (prefix byte : ℕ) → (high (rm_field prefix byte) ≡ prefix % 2) × (low (rm_field prefix byte) ≡ byte % 8)
rm_bits prefix byte = bits_of (prefix % 2) (byte % 8) (omega arith) (omega arith)

pub wide_is : (b : ℕ) → admits Wide b ≡ true → b ≡ rex 1 (b / 4 % 2) 0 (b % 2)
wide_is b e = grind (arith, nat_tests)

pub wide_of_one_is : (b : ℕ) → admits WideOne b ≡ true → b ≡ rex 1 0 0 (b % 2)
wide_of_one_is b e = grind (arith, nat_tests)

pub mod_rm_is : (b : ℕ) → admits ModRm b ≡ true → b ≡ mod_rm (b / 8 % 8) (b % 8)
mod_rm_is b e = grind (arith, nat_tests)

pub with_register_is : (value b : ℕ) → admits (Plus value) b ≡ true → b ≡ 8 * (value / 8) + b % 8
with_register_is value b e = grind (arith, nat_tests)

-- ---- what registers give is admitted, and read again

pub wide_admitted : (r m : Reg) → admits Wide (rex 1 (high r) 0 (high m)) ≡ true
wide_admitted r m =
    let a : number r < 16 = number_below r in
    let b : number m < 16 = number_below m in
    grind (arith, nat_tests)

pub wide_of_one_admitted : (m : Reg) → admits WideOne (rex 1 0 0 (high m)) ≡ true
wide_of_one_admitted m =
    let b : number m < 16 = number_below m in
    grind (arith, nat_tests)

pub mod_rm_admitted : (r m : Reg) → admits ModRm (mod_rm (low r) (low m)) ≡ true
mod_rm_admitted r m = grind (arith, nat_tests)

pub with_register_admitted : (k : ℕ) (m : Reg) → admits (Plus (8 * k)) (8 * k + low m) ≡ true
with_register_admitted k m = grind (arith, nat_tests)

pub reg_field_is : (prefix byte : ℕ) (r : Reg) → prefix / 4 % 2 ≡ high r → byte / 8 % 8 ≡ low r → reg_field prefix byte ≡ r
reg_field_is prefix byte r x y =
    let is : 8 * (prefix / 4 % 2) + byte / 8 % 8 ≡ number r = omega arith in
    ap register is ∙ register-number r

pub rm_field_is : (prefix byte : ℕ) (r : Reg) → prefix % 2 ≡ high r → byte % 8 ≡ low r → rm_field prefix byte ≡ r
rm_field_is prefix byte r x y =
    let is : 8 * (prefix % 2) + byte % 8 ≡ number r = omega arith in
    ap register is ∙ register-number r
