-- Which values of the type of instructions are instructions: each constant is in its range.
use Rattle.std.specs.Prelude.{◌<◌, ◌^◌, FitsSigned}
use Rattle.std.specs.Int.{w32}
use Rattle.amd64_form.specs.declared.inst.Inst.{Inst}
use Rattle.amd64_form.specs.declared.inst.Inst.TheVariants.{Move, Load, Store, LoadConstant, Binary, BinaryConstant, Unary, Multiply, SignExtend, Shift, ShiftByCl, LoadAddress, Jump, Call, JumpIf, CallRegister, JumpRegister, Push, Pop, Return, Syscall}
use Rattle.amd64_form.specs.Operation.{count_of}

abbrev pub IsInst : Inst → Type 0
IsInst (Move _ _) = Unit {0}
IsInst (Load _ _ offset) = FitsSigned w32 offset
IsInst (Store _ offset _) = FitsSigned w32 offset
IsInst (LoadConstant _ value) = value < 2 ^ 64
IsInst (Binary _ _ _) = Unit {0}
IsInst (BinaryConstant _ _ value) = FitsSigned w32 value
IsInst (Unary _ _) = Unit {0}
IsInst (Multiply _ _) = Unit {0}
IsInst SignExtend = Unit {0}
IsInst (Shift _ _ count) = count_of count < 64
IsInst (ShiftByCl _ _) = Unit {0}
IsInst (LoadAddress _ _ offset) = FitsSigned w32 offset
IsInst (Jump offset) = FitsSigned w32 offset
IsInst (Call offset) = FitsSigned w32 offset
IsInst (JumpIf _ offset) = FitsSigned w32 offset
IsInst (CallRegister _) = Unit {0}
IsInst (JumpRegister _) = Unit {0}
IsInst (Push _) = Unit {0}
IsInst (Pop _) = Unit {0}
IsInst Return = Unit {0}
IsInst Syscall = Unit {0}
