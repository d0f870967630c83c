-- Each form, in both directions. A new form has a line in each of these lists.
use Rattle.std.proofs.Common.{◌≡◌, ℕ, ◌+◌, ◌*◌, ◌%◌, ℤ, List, [], ◌∷◌, ◌++◌, length, drop, take, refl, sym, ap, ◌∙◌, arith, inl, inr, replicate}
use Rattle.std.specs.Prelude.{slice_index, FitsSigned}
use Rattle.std.specs.Int.{w32, w64, from_le_bytes, cast_signed}
use Rattle.std.proofs.lemmas.Bool.{cases_lt, cases_eq}
use Rattle.std.proofs.lemmas.List.{drop-drop}
use Rattle.amd64_form.specs.declared.reg.Reg.{Reg}
use Rattle.amd64_form.specs.declared.operation.BinaryOp.{BinaryOp}
use Rattle.amd64_form.specs.declared.operation.BinaryOp.TheVariants as binary
use Rattle.amd64_form.specs.declared.operation.UnaryOp.TheVariants as unary
use Rattle.amd64_form.specs.declared.operation.ShiftOp.{ShiftOp}
use Rattle.amd64_form.specs.declared.operation.ShiftOp.TheVariants as shifts
use Rattle.amd64_form.specs.declared.condition.Condition.TheVariants as conditions
use Rattle.amd64_form.specs.declared.inst.Inst.{Inst}
use Rattle.amd64_form.specs.declared.inst.Inst.TheVariants.{Move, Load, Store, LoadConstant, Binary, BinaryConstant, Unary, Multiply, SignExtend, Shift, ShiftByCl, LoadAddress, Jump, Call, JumpIf, CallRegister, JumpRegister, Push, Pop, Return, Syscall}
use Rattle.amd64_form.specs.declared.form.Part.TheVariants.{Byte, Wide, Plus, Memory, MemorySib, Any}
use Rattle.amd64_form.specs.declared.form.Fit.TheVariants.{Whole}
use Rattle.amd64_form.specs.declared.form.Form.{Form}
use Rattle.amd64_form.specs.declared.form.Form.TheVariants as forms
use Rattle.amd64_form.specs.declared.form.TheConstants.{FORMS}
use Rattle.amd64_form.specs.Operation.{opcode, opcode_of_constant, binary_digit, unary_digit, shift_digit, condition_number, shift_count, count_of}
use Rattle.amd64_form.specs.Reg.{number, high, low}
use Rattle.amd64_form.specs.Inst.{IsInst}
use Rattle.amd64_form.specs.Encoding.{rex, mod_rm, mod_rm_memory, encoding, one_register, short_register, near_register, memory, constant_32, constant_64}
use Rattle.amd64_form.specs.Form.{fit, parts_of, inst_of, rm_field, reg_at, rm_at, signed_at}
use Rattle.amd64_form.proofs.Table.{Has, has_at, fits}
use Rattle.amd64_form.proofs.Shapes.{two_registers_whole, two_registers_read, one_register_whole, one_register_fits, one_register_field, wide_opcode_whole, wide_opcode_fits, wide_opcode_field, short_low, short_high, short_low_whole, short_high_whole, short_low_fits, short_high_fits, short_low_field, short_high_field, near_low, near_high, near_low_whole, near_high_whole, near_low_fits, near_high_fits, near_low_field, near_high_field, multiply_whole, multiply_fits, multiply_fields, fixed_whole, fixed_fits, jump_whole, shift_whole, shift_fits, constant_64_whole, constant_64_fits, constant_64_field, constant_32_whole, constant_32_fits, constant_32_field}
use Rattle.amd64_form.proofs.Memory.{memory_whole, memory_sib_whole, memory_bytes, memory_sib_bytes, memory_fits, memory_sib_fits, memory_fields}

-- ---- bytes that fit a form whole are an encoding

pub record IsEncoding (f : Form) (bs : List ℕ) : Type 0 where
  pub ranges : IsInst (inst_of f bs)
  pub bytes : bs ≡ encoding (inst_of f bs) ++ drop (length (parts_of f)) bs
  pub all : length (encoding (inst_of f bs)) ≡ length (parts_of f)

load_constant_whole : (bs : List ℕ) → fits forms.LoadConstant bs ≡ Whole → IsEncoding forms.LoadConstant bs
load_constant_whole bs e =
    let h = wide_opcode_whole 23 (replicate 8 Any) bs e in
    let c = constant_64_whole (drop 2 bs) h.fits in
    let r : Reg = rm_field (slice_index bs 0) (slice_index bs 1) in
    let rest : drop 8 (drop 2 bs) ≡ drop 10 bs = drop-drop 8 2 bs in
    record {
      ranges = c.below;
      bytes = h.is ∙ ap (λ (s : List ℕ). rex 1 0 0 (high r) ∷ (0xB8 + low r) ∷ s) (c.is ∙ ap (λ (s : List ℕ). constant_64 (from_le_bytes w64 (take 8 (drop 2 bs))) ++ s) rest);
      all = refl;
    }

binary_constant_whole : (op : BinaryOp) (bs : List ℕ) → fits (forms.BinaryConstant op) bs ≡ Whole → IsEncoding (forms.BinaryConstant op) bs
binary_constant_whole op bs e =
    let h = one_register_whole (opcode_of_constant op) (binary_digit op) (replicate 4 Any) bs e in
    let c = constant_32_whole (drop 3 bs) h.fits in
    let before : List ℕ = one_register (opcode_of_constant op) (binary_digit op) (rm_at bs 2) in
    let value : List ℕ = constant_32 (signed_at bs 3) in
    let rest : drop 4 (drop 3 bs) ≡ drop 7 bs = drop-drop 4 3 bs in
    record {
      ranges = c.fits;
      bytes = h.is ∙ ap (λ (s : List ℕ). before ++ s) (c.is ∙ ap (λ (s : List ℕ). value ++ s) rest);
      all = refl;
    }

shift_is_encoding : (op : ShiftOp) (bs : List ℕ) → fits (forms.Shift op) bs ≡ Whole → IsEncoding (forms.Shift op) bs
shift_is_encoding op bs e =
    let h = shift_whole (shift_digit op) bs e in
    record { ranges = omega arith; bytes = h.is; all = refl }

pub is_encoding : (f : Form) (bs : List ℕ) → fits f bs ≡ Whole → IsEncoding f bs
is_encoding forms.Move bs e = record { ranges = tt; bytes = two_registers_whole 0x89 bs e; all = refl }
is_encoding forms.Load bs e = let h = memory_whole 0x8B bs e in record { ranges = h.fits; bytes = h.is; all = h.all }
is_encoding forms.LoadSib bs e = let h = memory_sib_whole 0x8B bs e in record { ranges = h.fits; bytes = h.is; all = h.all }
is_encoding forms.Store bs e = let h = memory_whole 0x89 bs e in record { ranges = h.fits; bytes = h.is; all = h.all }
is_encoding forms.StoreSib bs e = let h = memory_sib_whole 0x89 bs e in record { ranges = h.fits; bytes = h.is; all = h.all }
is_encoding forms.LoadConstant bs e = load_constant_whole bs e
is_encoding (forms.Binary op) bs e = record { ranges = tt; bytes = two_registers_whole (opcode op) bs e; all = refl }
is_encoding (forms.BinaryConstant op) bs e = binary_constant_whole op bs e
is_encoding (forms.Unary op) bs e = record { ranges = tt; bytes = (one_register_whole 0xF7 (unary_digit op) [] bs e).is; all = refl }
is_encoding forms.Multiply bs e = record { ranges = tt; bytes = multiply_whole bs e; all = refl }
is_encoding forms.SignExtend bs e = record { ranges = tt; bytes = (fixed_whole (0x48 ∷ 0x99 ∷ []) [] bs e).is; all = refl }
is_encoding (forms.Shift op) bs e = shift_is_encoding op bs e
is_encoding (forms.ShiftByCl op) bs e = record { ranges = tt; bytes = (one_register_whole 0xD3 (shift_digit op) [] bs e).is; all = refl }
is_encoding forms.LoadAddress bs e = let h = memory_whole 0x8D bs e in record { ranges = h.fits; bytes = h.is; all = h.all }
is_encoding forms.LoadAddressSib bs e = let h = memory_sib_whole 0x8D bs e in record { ranges = h.fits; bytes = h.is; all = h.all }
is_encoding forms.Jump bs e = let h = jump_whole (0xE9 ∷ []) bs e in record { ranges = h.fits; bytes = h.is; all = refl }
is_encoding forms.Call bs e = let h = jump_whole (0xE8 ∷ []) bs e in record { ranges = h.fits; bytes = h.is; all = refl }
is_encoding (forms.JumpIf condition) bs e = let h = jump_whole (0x0F ∷ (0x80 + condition_number condition) ∷ []) bs e in record { ranges = h.fits; bytes = h.is; all = refl }
is_encoding forms.CallLow bs e = let h = near_low_whole 0xFF 2 bs e in record { ranges = tt; bytes = h.0; all = h.1 }
is_encoding forms.CallHigh bs e = let h = near_high_whole 0xFF 2 bs e in record { ranges = tt; bytes = h.0; all = h.1 }
is_encoding forms.JumpLow bs e = let h = near_low_whole 0xFF 4 bs e in record { ranges = tt; bytes = h.0; all = h.1 }
is_encoding forms.JumpHigh bs e = let h = near_high_whole 0xFF 4 bs e in record { ranges = tt; bytes = h.0; all = h.1 }
is_encoding forms.PushLow bs e = let h = short_low_whole 10 bs e in record { ranges = tt; bytes = h.0; all = h.1 }
is_encoding forms.PushHigh bs e = let h = short_high_whole 10 bs e in record { ranges = tt; bytes = h.0; all = h.1 }
is_encoding forms.PopLow bs e = let h = short_low_whole 11 bs e in record { ranges = tt; bytes = h.0; all = h.1 }
is_encoding forms.PopHigh bs e = let h = short_high_whole 11 bs e in record { ranges = tt; bytes = h.0; all = h.1 }
is_encoding forms.Return bs e = record { ranges = tt; bytes = (fixed_whole (0xC3 ∷ []) [] bs e).is; all = refl }
is_encoding forms.Syscall bs e = record { ranges = tt; bytes = (fixed_whole (0x0F ∷ 0x05 ∷ []) [] bs e).is; all = refl }

-- ---- an encoding fits a form whole, and is read again

pub record IsReadAgain (i : Inst) (rest : List ℕ) : Type 0 where
  pub form : Form
  pub known : Has FORMS form
  pub whole : fits form (encoding i ++ rest) ≡ Whole
  pub is : inst_of form (encoding i ++ rest) ≡ i
  pub all : length (encoding i) ≡ length (parts_of form)

-- an instruction of a register in an opcode, whose two forms are these
short_again : (i : Reg → Inst) (k : ℕ) (low_form high_form : Form) (r : Reg) (rest : List ℕ)
    → ((s : Reg) → encoding (i s) ≡ short_register (8 * k) s)
    → parts_of low_form ≡ Plus (8 * k) ∷ []
    → parts_of high_form ≡ Byte 0x41 ∷ Plus (8 * k) ∷ []
    → ((bs : List ℕ) → inst_of low_form bs ≡ i (rm_field 0 (slice_index bs 0)))
    → ((bs : List ℕ) → inst_of high_form bs ≡ i (rm_field (slice_index bs 0) (slice_index bs 1)))
    → Has FORMS low_form → Has FORMS high_form → IsReadAgain (i r) rest
short_again i k low_form high_form r rest spelled low_parts high_parts low_is high_is low_known high_known =
    elim (cases_lt (number r) 8) [
      | inl lt ↦
          let bytes : encoding (i r) ≡ (8 * k + low r) ∷ [] = spelled r ∙ short_low (8 * k) r lt in
          let whole : fits low_form ((8 * k + low r) ∷ rest) ≡ Whole = ap (λ ps. fit ps ((8 * k + low r) ∷ rest)) low_parts ∙ short_low_fits k r rest in
          let is : inst_of low_form ((8 * k + low r) ∷ rest) ≡ i r = low_is ((8 * k + low r) ∷ rest) ∙ ap i (short_low_field k r lt) in
          record {
            form = low_form;
            known = low_known;
            whole = ap (λ (s : List ℕ). fits low_form (s ++ rest)) bytes ∙ whole;
            is = ap (λ (s : List ℕ). inst_of low_form (s ++ rest)) bytes ∙ is;
            all = ap length bytes ∙ ap length (sym low_parts);
          }
      | inr le ↦
          let bytes : encoding (i r) ≡ 0x41 ∷ (8 * k + low r) ∷ [] = spelled r ∙ short_high (8 * k) r le in
          let whole : fits high_form (0x41 ∷ (8 * k + low r) ∷ rest) ≡ Whole = ap (λ ps. fit ps (0x41 ∷ (8 * k + low r) ∷ rest)) high_parts ∙ short_high_fits k r rest in
          let is : inst_of high_form (0x41 ∷ (8 * k + low r) ∷ rest) ≡ i r = high_is (0x41 ∷ (8 * k + low r) ∷ rest) ∙ ap i (short_high_field k r le) in
          record {
            form = high_form;
            known = high_known;
            whole = ap (λ (s : List ℕ). fits high_form (s ++ rest)) bytes ∙ whole;
            is = ap (λ (s : List ℕ). inst_of high_form (s ++ rest)) bytes ∙ is;
            all = ap length bytes ∙ ap length (sym high_parts);
          }
    ]

-- the same behind an opcode that goes on in the field reg
near_again : (i : Reg → Inst) (opcode digit : ℕ) (low_form high_form : Form) (r : Reg) (rest : List ℕ)
    → ((s : Reg) → encoding (i s) ≡ near_register opcode digit s)
    → parts_of low_form ≡ Byte opcode ∷ Plus (0xC0 + 8 * digit) ∷ []
    → parts_of high_form ≡ Byte 0x41 ∷ Byte opcode ∷ Plus (0xC0 + 8 * digit) ∷ []
    → ((bs : List ℕ) → inst_of low_form bs ≡ i (rm_field 0 (slice_index bs 1)))
    → ((bs : List ℕ) → inst_of high_form bs ≡ i (rm_field (slice_index bs 0) (slice_index bs 2)))
    → Has FORMS low_form → Has FORMS high_form → IsReadAgain (i r) rest
near_again i opcode digit low_form high_form r rest spelled low_parts high_parts low_is high_is low_known high_known =
    elim (cases_lt (number r) 8) [
      | inl lt ↦
          let bytes : encoding (i r) ≡ opcode ∷ mod_rm digit (low r) ∷ [] = spelled r ∙ near_low opcode digit r lt in
          let whole : fits low_form (opcode ∷ mod_rm digit (low r) ∷ rest) ≡ Whole = ap (λ ps. fit ps (opcode ∷ mod_rm digit (low r) ∷ rest)) low_parts ∙ near_low_fits opcode digit r rest in
          let is : inst_of low_form (opcode ∷ mod_rm digit (low r) ∷ rest) ≡ i r = low_is (opcode ∷ mod_rm digit (low r) ∷ rest) ∙ ap i (near_low_field digit r lt) in
          record {
            form = low_form;
            known = low_known;
            whole = ap (λ (s : List ℕ). fits low_form (s ++ rest)) bytes ∙ whole;
            is = ap (λ (s : List ℕ). inst_of low_form (s ++ rest)) bytes ∙ is;
            all = ap length bytes ∙ ap length (sym low_parts);
          }
      | inr le ↦
          let bytes : encoding (i r) ≡ 0x41 ∷ opcode ∷ mod_rm digit (low r) ∷ [] = spelled r ∙ near_high opcode digit r le in
          let whole : fits high_form (0x41 ∷ opcode ∷ mod_rm digit (low r) ∷ rest) ≡ Whole = ap (λ ps. fit ps (0x41 ∷ opcode ∷ mod_rm digit (low r) ∷ rest)) high_parts ∙ near_high_fits opcode digit r rest in
          let is : inst_of high_form (0x41 ∷ opcode ∷ mod_rm digit (low r) ∷ rest) ≡ i r = high_is (0x41 ∷ opcode ∷ mod_rm digit (low r) ∷ rest) ∙ ap i (near_high_field digit r le) in
          record {
            form = high_form;
            known = high_known;
            whole = ap (λ (s : List ℕ). fits high_form (s ++ rest)) bytes ∙ whole;
            is = ap (λ (s : List ℕ). inst_of high_form (s ++ rest)) bytes ∙ is;
            all = ap length bytes ∙ ap length (sym high_parts);
          }
    ]

-- an instruction with a word in memory, whose two forms are these
memory_again : (i : Reg → Reg → ℤ → Inst) (opcode : ℕ) (plain_form sib_form : Form) (r base : Reg) (offset : ℤ) (rest : List ℕ)
    → encoding (i r base offset) ≡ memory opcode r base offset
    → parts_of plain_form ≡ Wide ∷ Byte opcode ∷ Memory ∷ replicate 4 Any
    → parts_of sib_form ≡ Wide ∷ Byte opcode ∷ MemorySib ∷ Byte 0x24 ∷ replicate 4 Any
    → ((bs : List ℕ) → inst_of plain_form bs ≡ i (reg_at bs 2) (rm_at bs 2) (signed_at bs 3))
    → ((bs : List ℕ) → inst_of sib_form bs ≡ i (reg_at bs 2) (rm_at bs 2) (signed_at bs 4))
    → Has FORMS plain_form → Has FORMS sib_form → FitsSigned w32 offset → IsReadAgain (i r base offset) rest
memory_again i opcode plain_form sib_form r base offset rest spelled plain_parts sib_parts plain_is sib_is plain_known sib_known small =
    let fields = memory_fields r base in
    let value : cast_signed w32 (from_le_bytes w32 (take 4 (constant_32 offset ++ rest))) ≡ offset = constant_32_field offset rest small in
    let x : ℕ = rex 1 (high r) 0 (high base) in
    let y : ℕ = mod_rm_memory (low r) (low base) in
    elim (cases_eq (low base) 4) [
      | inr away ↦
          let bytes : encoding (i r base offset) ≡ x ∷ opcode ∷ y ∷ constant_32 offset = spelled ∙ memory_bytes opcode r base offset away in
          let whole : fits plain_form (x ∷ opcode ∷ y ∷ constant_32 offset ++ rest) ≡ Whole = ap (λ ps. fit ps (x ∷ opcode ∷ y ∷ constant_32 offset ++ rest)) plain_parts ∙ memory_fits opcode r base offset rest away in
          let is : inst_of plain_form (x ∷ opcode ∷ y ∷ constant_32 offset ++ rest) ≡ i r base offset =
          plain_is (x ∷ opcode ∷ y ∷ constant_32 offset ++ rest) ∙ cc (fields.0, fields.1, value) in
          record {
            form = plain_form;
            known = plain_known;
            whole = ap (λ (s : List ℕ). fits plain_form (s ++ rest)) bytes ∙ whole;
            is = ap (λ (s : List ℕ). inst_of plain_form (s ++ rest)) bytes ∙ is;
            all = ap length bytes ∙ ap length (sym plain_parts);
          }
      | inl here ↦
          let bytes : encoding (i r base offset) ≡ x ∷ opcode ∷ y ∷ 0x24 ∷ constant_32 offset = spelled ∙ memory_sib_bytes opcode r base offset here in
          let whole : fits sib_form (x ∷ opcode ∷ y ∷ 0x24 ∷ constant_32 offset ++ rest) ≡ Whole = ap (λ ps. fit ps (x ∷ opcode ∷ y ∷ 0x24 ∷ constant_32 offset ++ rest)) sib_parts ∙ memory_sib_fits opcode r base offset rest here in
          let is : inst_of sib_form (x ∷ opcode ∷ y ∷ 0x24 ∷ constant_32 offset ++ rest) ≡ i r base offset =
          sib_is (x ∷ opcode ∷ y ∷ 0x24 ∷ constant_32 offset ++ rest) ∙ cc (fields.0, fields.1, value) in
          record {
            form = sib_form;
            known = sib_known;
            whole = ap (λ (s : List ℕ). fits sib_form (s ++ rest)) bytes ∙ whole;
            is = ap (λ (s : List ℕ). inst_of sib_form (s ++ rest)) bytes ∙ is;
            all = ap length bytes ∙ ap length (sym sib_parts);
          }
    ]

in_table : (f : Form) → Has FORMS f
in_table forms.Move = has_at FORMS 0 forms.Move refl
in_table forms.Load = has_at FORMS 1 forms.Load refl
in_table forms.LoadSib = has_at FORMS 2 forms.LoadSib refl
in_table forms.Store = has_at FORMS 3 forms.Store refl
in_table forms.StoreSib = has_at FORMS 4 forms.StoreSib refl
in_table forms.LoadConstant = has_at FORMS 5 forms.LoadConstant refl
in_table (forms.Binary binary.Add) = has_at FORMS 6 (forms.Binary binary.Add) refl
in_table (forms.Binary binary.Or) = has_at FORMS 7 (forms.Binary binary.Or) refl
in_table (forms.Binary binary.And) = has_at FORMS 8 (forms.Binary binary.And) refl
in_table (forms.Binary binary.Sub) = has_at FORMS 9 (forms.Binary binary.Sub) refl
in_table (forms.Binary binary.Xor) = has_at FORMS 10 (forms.Binary binary.Xor) refl
in_table (forms.Binary binary.Cmp) = has_at FORMS 11 (forms.Binary binary.Cmp) refl
in_table (forms.Binary binary.Test) = has_at FORMS 12 (forms.Binary binary.Test) refl
in_table (forms.BinaryConstant binary.Add) = has_at FORMS 13 (forms.BinaryConstant binary.Add) refl
in_table (forms.BinaryConstant binary.Or) = has_at FORMS 14 (forms.BinaryConstant binary.Or) refl
in_table (forms.BinaryConstant binary.And) = has_at FORMS 15 (forms.BinaryConstant binary.And) refl
in_table (forms.BinaryConstant binary.Sub) = has_at FORMS 16 (forms.BinaryConstant binary.Sub) refl
in_table (forms.BinaryConstant binary.Xor) = has_at FORMS 17 (forms.BinaryConstant binary.Xor) refl
in_table (forms.BinaryConstant binary.Cmp) = has_at FORMS 18 (forms.BinaryConstant binary.Cmp) refl
in_table (forms.BinaryConstant binary.Test) = has_at FORMS 19 (forms.BinaryConstant binary.Test) refl
in_table (forms.Unary unary.Not) = has_at FORMS 20 (forms.Unary unary.Not) refl
in_table (forms.Unary unary.Neg) = has_at FORMS 21 (forms.Unary unary.Neg) refl
in_table (forms.Unary unary.Idiv) = has_at FORMS 22 (forms.Unary unary.Idiv) refl
in_table forms.Multiply = has_at FORMS 23 forms.Multiply refl
in_table forms.SignExtend = has_at FORMS 24 forms.SignExtend refl
in_table (forms.Shift shifts.Shl) = has_at FORMS 25 (forms.Shift shifts.Shl) refl
in_table (forms.Shift shifts.Shr) = has_at FORMS 26 (forms.Shift shifts.Shr) refl
in_table (forms.Shift shifts.Sar) = has_at FORMS 27 (forms.Shift shifts.Sar) refl
in_table (forms.ShiftByCl shifts.Shl) = has_at FORMS 28 (forms.ShiftByCl shifts.Shl) refl
in_table (forms.ShiftByCl shifts.Shr) = has_at FORMS 29 (forms.ShiftByCl shifts.Shr) refl
in_table (forms.ShiftByCl shifts.Sar) = has_at FORMS 30 (forms.ShiftByCl shifts.Sar) refl
in_table forms.LoadAddress = has_at FORMS 31 forms.LoadAddress refl
in_table forms.LoadAddressSib = has_at FORMS 32 forms.LoadAddressSib refl
in_table forms.Jump = has_at FORMS 33 forms.Jump refl
in_table forms.Call = has_at FORMS 34 forms.Call refl
in_table (forms.JumpIf conditions.O) = has_at FORMS 35 (forms.JumpIf conditions.O) refl
in_table (forms.JumpIf conditions.No) = has_at FORMS 36 (forms.JumpIf conditions.No) refl
in_table (forms.JumpIf conditions.B) = has_at FORMS 37 (forms.JumpIf conditions.B) refl
in_table (forms.JumpIf conditions.Ae) = has_at FORMS 38 (forms.JumpIf conditions.Ae) refl
in_table (forms.JumpIf conditions.E) = has_at FORMS 39 (forms.JumpIf conditions.E) refl
in_table (forms.JumpIf conditions.Ne) = has_at FORMS 40 (forms.JumpIf conditions.Ne) refl
in_table (forms.JumpIf conditions.Be) = has_at FORMS 41 (forms.JumpIf conditions.Be) refl
in_table (forms.JumpIf conditions.A) = has_at FORMS 42 (forms.JumpIf conditions.A) refl
in_table (forms.JumpIf conditions.S) = has_at FORMS 43 (forms.JumpIf conditions.S) refl
in_table (forms.JumpIf conditions.Ns) = has_at FORMS 44 (forms.JumpIf conditions.Ns) refl
in_table (forms.JumpIf conditions.L) = has_at FORMS 45 (forms.JumpIf conditions.L) refl
in_table (forms.JumpIf conditions.Ge) = has_at FORMS 46 (forms.JumpIf conditions.Ge) refl
in_table (forms.JumpIf conditions.Le) = has_at FORMS 47 (forms.JumpIf conditions.Le) refl
in_table (forms.JumpIf conditions.G) = has_at FORMS 48 (forms.JumpIf conditions.G) refl
in_table forms.CallLow = has_at FORMS 49 forms.CallLow refl
in_table forms.CallHigh = has_at FORMS 50 forms.CallHigh refl
in_table forms.JumpLow = has_at FORMS 51 forms.JumpLow refl
in_table forms.JumpHigh = has_at FORMS 52 forms.JumpHigh refl
in_table forms.PushLow = has_at FORMS 53 forms.PushLow refl
in_table forms.PushHigh = has_at FORMS 54 forms.PushHigh refl
in_table forms.PopLow = has_at FORMS 55 forms.PopLow refl
in_table forms.PopHigh = has_at FORMS 56 forms.PopHigh refl
in_table forms.Return = has_at FORMS 57 forms.Return refl
in_table forms.Syscall = has_at FORMS 58 forms.Syscall refl

pub is_read_again : (i : Inst) (rest : List ℕ) → IsInst i → IsReadAgain i rest
is_read_again (Move to from) rest h =
    let t = two_registers_read 0x89 from to rest in
    record { form = forms.Move; known = in_table forms.Move; whole = t.whole; is = cc (t.reg, t.rm); all = refl }
is_read_again (Load to base offset) rest h =
    memory_again Load 0x8B forms.Load forms.LoadSib to base offset rest refl refl refl (λ bs. refl) (λ bs. refl) (in_table forms.Load) (in_table forms.LoadSib) h
is_read_again (Store base offset from) rest h =
    memory_again (λ r m d. Store m d r) 0x89 forms.Store forms.StoreSib from base offset rest refl refl refl (λ bs. refl) (λ bs. refl) (in_table forms.Store) (in_table forms.StoreSib) h
is_read_again (LoadConstant to value) rest h =
    record {
      form = forms.LoadConstant;
      known = in_table forms.LoadConstant;
      whole = wide_opcode_fits 23 to (replicate 8 Any) (constant_64 value ++ rest) (constant_64_fits value rest);
      is = ap (λ r. LoadConstant r (from_le_bytes w64 (take 8 (constant_64 value ++ rest)))) (wide_opcode_field 23 to) ∙ ap (LoadConstant to) (constant_64_field value rest h);
      all = refl;
    }
is_read_again (Binary op to from) rest h =
    let t = two_registers_read (opcode op) from to rest in
    record { form = forms.Binary op; known = in_table (forms.Binary op); whole = t.whole; is = cc (t.reg, t.rm); all = refl }
is_read_again (BinaryConstant op to value) rest h =
    record {
      form = forms.BinaryConstant op;
      known = in_table (forms.BinaryConstant op);
      whole = one_register_fits (opcode_of_constant op) (binary_digit op) to (replicate 4 Any) (constant_32 value ++ rest) (constant_32_fits value rest);
      is = ap (λ r. BinaryConstant op r (cast_signed w32 (from_le_bytes w32 (take 4 (constant_32 value ++ rest))))) (one_register_field (binary_digit op) to) ∙ ap (BinaryConstant op to) (constant_32_field value rest h);
      all = refl;
    }
is_read_again (Unary op of) rest h =
    record {
      form = forms.Unary op;
      known = in_table (forms.Unary op);
      whole = one_register_fits 0xF7 (unary_digit op) of [] rest refl;
      is = ap (Unary op) (one_register_field (unary_digit op) of);
      all = refl;
    }
is_read_again (Multiply to by) rest h =
    let f = multiply_fields to by in
    record { form = forms.Multiply; known = in_table forms.Multiply; whole = multiply_fits to by rest; is = cc (f.0, f.1); all = refl }
is_read_again SignExtend rest h =
    record { form = forms.SignExtend; known = in_table forms.SignExtend; whole = refl; is = refl; all = refl }
is_read_again (Shift op to count) rest h =
    let same : count_of count % 64 ≡ count_of count = omega (arith, h) in
    record {
      form = forms.Shift op;
      known = in_table (forms.Shift op);
      whole = shift_fits (shift_digit op) (count_of count) to rest h;
      is = ap (λ r. Shift op r (shift_count (count_of count % 64))) (one_register_field (shift_digit op) to) ∙ ap (λ n. Shift op to (shift_count n)) same;
      all = refl;
    }
is_read_again (ShiftByCl op to) rest h =
    record {
      form = forms.ShiftByCl op;
      known = in_table (forms.ShiftByCl op);
      whole = one_register_fits 0xD3 (shift_digit op) to [] rest refl;
      is = ap (ShiftByCl op) (one_register_field (shift_digit op) to);
      all = refl;
    }
is_read_again (LoadAddress to base offset) rest h =
    memory_again LoadAddress 0x8D forms.LoadAddress forms.LoadAddressSib to base offset rest refl refl refl (λ bs. refl) (λ bs. refl) (in_table forms.LoadAddress) (in_table forms.LoadAddressSib) h
is_read_again (Jump offset) rest h =
    record {
      form = forms.Jump;
      known = in_table forms.Jump;
      whole = fixed_fits (0xE9 ∷ []) (replicate 4 Any) (constant_32 offset ++ rest) (constant_32_fits offset rest);
      is = ap Jump (constant_32_field offset rest h);
      all = refl;
    }
is_read_again (Call offset) rest h =
    record {
      form = forms.Call;
      known = in_table forms.Call;
      whole = fixed_fits (0xE8 ∷ []) (replicate 4 Any) (constant_32 offset ++ rest) (constant_32_fits offset rest);
      is = ap Call (constant_32_field offset rest h);
      all = refl;
    }
is_read_again (JumpIf condition offset) rest h =
    record {
      form = forms.JumpIf condition;
      known = in_table (forms.JumpIf condition);
      whole = fixed_fits (0x0F ∷ (0x80 + condition_number condition) ∷ []) (replicate 4 Any) (constant_32 offset ++ rest) (constant_32_fits offset rest);
      is = ap (JumpIf condition) (constant_32_field offset rest h);
      all = refl;
    }
is_read_again (CallRegister r) rest h =
    near_again CallRegister 0xFF 2 forms.CallLow forms.CallHigh r rest (λ s. refl) refl refl (λ bs. refl) (λ bs. refl) (in_table forms.CallLow) (in_table forms.CallHigh)
is_read_again (JumpRegister r) rest h =
    near_again JumpRegister 0xFF 4 forms.JumpLow forms.JumpHigh r rest (λ s. refl) refl refl (λ bs. refl) (λ bs. refl) (in_table forms.JumpLow) (in_table forms.JumpHigh)
is_read_again (Push r) rest h =
    short_again Push 10 forms.PushLow forms.PushHigh r rest (λ s. refl) refl refl (λ bs. refl) (λ bs. refl) (in_table forms.PushLow) (in_table forms.PushHigh)
is_read_again (Pop r) rest h =
    short_again Pop 11 forms.PopLow forms.PopHigh r rest (λ s. refl) refl refl (λ bs. refl) (λ bs. refl) (in_table forms.PopLow) (in_table forms.PopHigh)
is_read_again Return rest h =
    record { form = forms.Return; known = in_table forms.Return; whole = refl; is = refl; all = refl }
is_read_again Syscall rest h =
    record { form = forms.Syscall; known = in_table forms.Syscall; whole = refl; is = refl; all = refl }
