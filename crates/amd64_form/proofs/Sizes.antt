-- How many bytes an encoding has: one at least and ten at most.
use Rattle.std.proofs.Common.{ℕ, ◌+◌, ◌<◌, ◌≤◌, true, false, List, [], ◌∷◌, ◌++◌, length, arith, length-append}
use Rattle.std.specs.Prelude.{Bool, nat_lt, nat_eq, if◌then◌else◌}
use Rattle.amd64_form.specs.declared.reg.Reg.{Reg}
use Rattle.amd64_form.specs.declared.inst.Inst.{Inst}
use Rattle.amd64_form.specs.declared.inst.Inst.TheVariants.{Move, Load, Store, LoadConstant, Binary, BinaryConstant, Unary, Multiply, SignExtend, Shift, ShiftByCl, LoadAddress, Jump, Call, JumpIf, CallRegister, JumpRegister, Push, Pop, Return, Syscall}
use Rattle.amd64_form.specs.Reg.{number, low}
use Rattle.amd64_form.specs.Encoding.{rex, prefix_of, sib_of, encoding}

one_or_none : (b : Bool) (x : ℕ) → length (if b then x ∷ [] else []) ≤ 1
one_or_none true x = omega arith
one_or_none false x = omega arith

none_or_one : (b : Bool) (x : ℕ) → length (if b then [] else x ∷ []) ≤ 1
none_or_one true x = omega arith
none_or_one false x = omega arith

sib_size : (base : Reg) → length (sib_of base) ≤ 1
sib_size base = one_or_none (nat_eq (low base) 4) 0x24

prefix_size : (r : Reg) → length (prefix_of r) ≤ 1
prefix_size r = none_or_one (nat_lt (number r) 8) (rex 0 0 0 1)

behind_sib : (base : Reg) (xs : List ℕ) → length (sib_of base ++ xs) ≤ 1 + length xs
behind_sib base xs = omega (arith, length-append (sib_of base) xs, sib_size base)

behind_prefix : (r : Reg) (xs : List ℕ) → length (prefix_of r ++ xs) ≤ 1 + length xs
behind_prefix r xs = omega (arith, length-append (prefix_of r) xs, prefix_size r)

pub encoding_size : (i : Inst) → length (encoding i) ≤ 10
encoding_size (Move to from) = omega arith
encoding_size (Load to base offset) = omega (arith, behind_sib base)
encoding_size (Store base offset from) = omega (arith, behind_sib base)
encoding_size (LoadConstant to value) = omega arith
encoding_size (Binary op to from) = omega arith
encoding_size (BinaryConstant op to value) = omega arith
encoding_size (Unary op of) = omega arith
encoding_size (Multiply to by) = omega arith
encoding_size SignExtend = omega arith
encoding_size (Shift op to count) = omega arith
encoding_size (ShiftByCl op to) = omega arith
encoding_size (LoadAddress to base offset) = omega (arith, behind_sib base)
encoding_size (Jump offset) = omega arith
encoding_size (Call offset) = omega arith
encoding_size (JumpIf condition offset) = omega arith
encoding_size (CallRegister r) = omega (arith, behind_prefix r)
encoding_size (JumpRegister r) = omega (arith, behind_prefix r)
encoding_size (Push r) = omega (arith, behind_prefix r)
encoding_size (Pop r) = omega (arith, behind_prefix r)
encoding_size Return = omega arith
encoding_size Syscall = omega arith

some_behind : (r : Reg) (x : ℕ) (xs : List ℕ) → 0 < length (prefix_of r ++ x ∷ xs)
some_behind r x xs = omega (arith, length-append (prefix_of r) (x ∷ xs))

pub some_bytes : (i : Inst) → 0 < length (encoding i)
some_bytes (Move to from) = omega arith
some_bytes (Load to base offset) = omega arith
some_bytes (Store base offset from) = omega arith
some_bytes (LoadConstant to value) = omega arith
some_bytes (Binary op to from) = omega arith
some_bytes (BinaryConstant op to value) = omega arith
some_bytes (Unary op of) = omega arith
some_bytes (Multiply to by) = omega arith
some_bytes SignExtend = omega arith
some_bytes (Shift op to count) = omega arith
some_bytes (ShiftByCl op to) = omega arith
some_bytes (LoadAddress to base offset) = omega arith
some_bytes (Jump offset) = omega arith
some_bytes (Call offset) = omega arith
some_bytes (JumpIf condition offset) = omega arith
some_bytes (CallRegister r) = some_behind r _ _
some_bytes (JumpRegister r) = some_behind r _ _
some_bytes (Push r) = some_behind r _ _
some_bytes (Pop r) = some_behind r _ _
some_bytes Return = omega arith
some_bytes Syscall = omega arith
