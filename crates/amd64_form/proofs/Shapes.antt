-- The shapes of encodings, each in both directions: bytes that fit its parts are such an encoding, and such an encoding fits them.
use Rattle.std.proofs.Common.{◌≡◌, ℕ, zero, suc, ◌+◌, ◌*◌, ◌/◌, ◌%◌, ◌<◌, ◌≤◌, ◌^◌, true, false, List, [], ◌∷◌, ◌++◌, length, take, drop, replicate, map, get_or, append_assoc, refl, sym, ap, subst, ◌∙◌, arith, ltb, ℤ, Fits}
use Rattle.std.specs.Prelude.{slice_index, FitsSigned}
use Rattle.std.specs.Int.{w32, w64, byte_at, bytes_low_first, to_le_bytes, from_le_bytes, cast_unsigned, cast_signed}
use Rattle.std.proofs.lemmas.Bool.{eqb-true, ltb-true, lt-ltb}
use Rattle.std.proofs.lemmas.Bool.Decides.{nat_tests}
use Rattle.std.proofs.lemmas.List.{take-append-drop, length-take, take_at, drop-drop}
use Rattle.std.proofs.lemmas.Nat.{le_bytes_4, le_bytes_8, from_le_bytes-to_le_bytes_4, from_le_bytes-to_le_bytes_8}
use Rattle.std.proofs.Math.Facts.{sfits_to_z, Fits-of_z}
use Rattle.std.proofs.lemmas.Int.{of_z-to_z, to_z-of_z}
use Rattle.amd64_form.specs.declared.reg.Reg.{Reg}
use Rattle.amd64_form.specs.declared.form.Part.{Part}
use Rattle.amd64_form.specs.declared.form.Part.TheVariants.{Byte, Wide, WideOne, Plus, ModRm, Count, Any}
use Rattle.amd64_form.specs.declared.form.Fit.TheVariants.{Whole}
use Rattle.amd64_form.specs.Reg.{number, high, low}
use Rattle.amd64_form.specs.declared.inst.Inst.TheVariants.{Multiply}
use Rattle.amd64_form.specs.Encoding.{rex, mod_rm, two_registers, one_register, prefix_of, short_register, near_register, constant_64, constant_32, encoding}
use Rattle.amd64_form.specs.Form.{admits, fit, reg_field, rm_field, reg_at, rm_at, signed_at}
use Rattle.amd64_form.proofs.Fit.{whole_test, passed}
use Rattle.amd64_form.proofs.Fields.{number_below, reg_bits, rm_bits, wide_is, wide_of_one_is, mod_rm_is, with_register_is, wide_admitted, wide_of_one_admitted, mod_rm_admitted, with_register_admitted, reg_field_is, rm_field_is}

-- ---- the first byte

pub record Cell (p : Part) (ps : List Part) (bs : List ℕ) : Type 0 where
  pub first : ℕ
  pub others : List ℕ
  pub is : bs ≡ first ∷ others
  pub admitted : admits p first ≡ true
  pub fits : fit ps others ≡ Whole

pub cell : (p : Part) (ps : List Part) (bs : List ℕ) → fit (p ∷ ps) bs ≡ Whole → Cell p ps bs
cell p ps [] e = absurd cc
cell p ps (b ∷ bs) e =
    let t = whole_test (admits p b) (fit ps bs) e in
    record { first = b; others = bs; is = refl; admitted = t.0; fits = t.1 }

pub one_more : (p : Part) (ps : List Part) (b : ℕ) (bs : List ℕ) → admits p b ≡ true → fit ps bs ≡ Whole → fit (p ∷ ps) (b ∷ bs) ≡ Whole
one_more p ps b bs x y = passed (admits p b) (fit ps bs) x ∙ y

pub byte_is : (value b : ℕ) → admits (Byte value) b ≡ true → b ≡ value
byte_is value b e = eqb-true b value e

pub byte_admitted : (value : ℕ) → admits (Byte value) value ≡ true
byte_admitted value = grind (arith, nat_tests)

-- ---- two registers

pub two_registers_whole : (opcode : ℕ) (bs : List ℕ) → fit (Wide ∷ Byte opcode ∷ ModRm ∷ []) bs ≡ Whole
    → bs ≡ two_registers opcode (reg_field (slice_index bs 0) (slice_index bs 2)) (rm_field (slice_index bs 0) (slice_index bs 2)) ++ drop 3 bs
two_registers_whole opcode bs e =
    let x = cell Wide (Byte opcode ∷ ModRm ∷ []) bs e in
    let y = cell (Byte opcode) (ModRm ∷ []) x.others x.fits in
    let z = cell ModRm [] y.others y.fits in
    let is : bs ≡ x.first ∷ y.first ∷ z.first ∷ z.others = cc (x.is, y.is, z.is) in
    let reg = reg_bits x.first z.first in
    let rm = rm_bits x.first z.first in
    let a : x.first ≡ rex 1 (high (reg_field x.first z.first)) 0 (high (rm_field x.first z.first)) = rw (reg.0, rm.0) (wide_is x.first x.admitted) in
    let b : y.first ≡ opcode = byte_is opcode y.first y.admitted in
    let c : z.first ≡ mod_rm (low (reg_field x.first z.first)) (low (rm_field x.first z.first)) = rw (reg.1, rm.1) (mod_rm_is z.first z.admitted) in
    subst (λ (s : List ℕ). s ≡ two_registers opcode (reg_field (slice_index s 0) (slice_index s 2)) (rm_field (slice_index s 0) (slice_index s 2)) ++ drop 3 s) (sym is) cc

pub record TwoRegistersRead (opcode : ℕ) (r m : Reg) (rest : List ℕ) : Type 0 where
  pub whole : fit (Wide ∷ Byte opcode ∷ ModRm ∷ []) (two_registers opcode r m ++ rest) ≡ Whole
  pub reg : reg_field (rex 1 (high r) 0 (high m)) (mod_rm (low r) (low m)) ≡ r
  pub rm : rm_field (rex 1 (high r) 0 (high m)) (mod_rm (low r) (low m)) ≡ m

pub two_registers_read : (opcode : ℕ) (r m : Reg) (rest : List ℕ) → TwoRegistersRead opcode r m rest
two_registers_read opcode r m rest =
    let a : number r < 16 = number_below r in
    let b : number m < 16 = number_below m in
    record {
      whole =
          one_more Wide (Byte opcode ∷ ModRm ∷ []) (rex 1 (high r) 0 (high m)) (opcode ∷ mod_rm (low r) (low m) ∷ rest) (wide_admitted r m)
          (one_more (Byte opcode) (ModRm ∷ []) opcode (mod_rm (low r) (low m) ∷ rest) (byte_admitted opcode)
          (one_more ModRm [] (mod_rm (low r) (low m)) rest (mod_rm_admitted r m) refl));
      reg = reg_field_is _ _ r (omega arith) (omega arith);
      rm = rm_field_is _ _ m (omega arith) (omega arith);
    }

-- ---- one register behind an opcode that goes on in the field reg

pub record OneRegisterIs (opcode digit : ℕ) (ps : List Part) (bs : List ℕ) : Type 0 where
  pub is : bs ≡ one_register opcode digit (rm_field (slice_index bs 0) (slice_index bs 2)) ++ drop 3 bs
  pub fits : fit ps (drop 3 bs) ≡ Whole

pub one_register_whole : (opcode digit : ℕ) (ps : List Part) (bs : List ℕ) → fit (WideOne ∷ Byte opcode ∷ Plus (0xC0 + 8 * digit) ∷ ps) bs ≡ Whole → OneRegisterIs opcode digit ps bs
one_register_whole opcode digit ps bs e =
    let x = cell WideOne (Byte opcode ∷ Plus (0xC0 + 8 * digit) ∷ ps) bs e in
    let y = cell (Byte opcode) (Plus (0xC0 + 8 * digit) ∷ ps) x.others x.fits in
    let z = cell (Plus (0xC0 + 8 * digit)) ps y.others y.fits in
    let is : bs ≡ x.first ∷ y.first ∷ z.first ∷ z.others = cc (x.is, y.is, z.is) in
    let rm = rm_bits x.first z.first in
    let a : x.first ≡ rex 1 0 0 (high (rm_field x.first z.first)) = rw rm.0 (wide_of_one_is x.first x.admitted) in
    let b : y.first ≡ opcode = byte_is opcode y.first y.admitted in
    let c : z.first ≡ mod_rm digit (low (rm_field x.first z.first)) =
    let d : z.first ≡ 8 * ((0xC0 + 8 * digit) / 8) + z.first % 8 = with_register_is (0xC0 + 8 * digit) z.first z.admitted in
    rw rm.1 (omega arith) in
    subst (λ (s : List ℕ). OneRegisterIs opcode digit ps s) (sym is) (record { is = cc; fits = z.fits })

pub one_register_fits : (opcode digit : ℕ) (m : Reg) (ps : List Part) (rest : List ℕ) → fit ps rest ≡ Whole → fit (WideOne ∷ Byte opcode ∷ Plus (0xC0 + 8 * digit) ∷ ps) (one_register opcode digit m ++ rest) ≡ Whole
one_register_fits opcode digit m ps rest e =
    let d : admits (Plus (0xC0 + 8 * digit)) (mod_rm digit (low m)) ≡ true = grind (arith, nat_tests) in
    one_more WideOne (Byte opcode ∷ Plus (0xC0 + 8 * digit) ∷ ps) (rex 1 0 0 (high m)) (opcode ∷ mod_rm digit (low m) ∷ rest) (wide_of_one_admitted m)
    (one_more (Byte opcode) (Plus (0xC0 + 8 * digit) ∷ ps) opcode (mod_rm digit (low m) ∷ rest) (byte_admitted opcode)
    (one_more (Plus (0xC0 + 8 * digit)) ps (mod_rm digit (low m)) rest d e))

pub one_register_field : (digit : ℕ) (m : Reg) → rm_field (rex 1 0 0 (high m)) (mod_rm digit (low m)) ≡ m
one_register_field digit m =
    let b : number m < 16 = number_below m in
    rm_field_is _ _ m (omega arith) (omega arith)

-- ---- a register in an opcode of 64 bits, which is 8 k

pub record WideOpcodeIs (k : ℕ) (ps : List Part) (bs : List ℕ) : Type 0 where
  pub is : bs ≡ rex 1 0 0 (high (rm_field (slice_index bs 0) (slice_index bs 1))) ∷ (8 * k + low (rm_field (slice_index bs 0) (slice_index bs 1))) ∷ drop 2 bs
  pub fits : fit ps (drop 2 bs) ≡ Whole

pub wide_opcode_whole : (k : ℕ) (ps : List Part) (bs : List ℕ) → fit (WideOne ∷ Plus (8 * k) ∷ ps) bs ≡ Whole → WideOpcodeIs k ps bs
wide_opcode_whole k ps bs e =
    let x = cell WideOne (Plus (8 * k) ∷ ps) bs e in
    let y = cell (Plus (8 * k)) ps x.others x.fits in
    let is : bs ≡ x.first ∷ y.first ∷ y.others = cc (x.is, y.is) in
    let rm = rm_bits x.first y.first in
    let a : x.first ≡ rex 1 0 0 (high (rm_field x.first y.first)) = rw rm.0 (wide_of_one_is x.first x.admitted) in
    let b : y.first ≡ 8 * k + low (rm_field x.first y.first) =
    let d : y.first ≡ 8 * (8 * k / 8) + y.first % 8 = with_register_is (8 * k) y.first y.admitted in
    rw rm.1 (omega arith) in
    subst (λ (s : List ℕ). WideOpcodeIs k ps s) (sym is) (record { is = cc; fits = y.fits })

pub wide_opcode_fits : (k : ℕ) (m : Reg) (ps : List Part) (rest : List ℕ) → fit ps rest ≡ Whole → fit (WideOne ∷ Plus (8 * k) ∷ ps) (rex 1 0 0 (high m) ∷ (8 * k + low m) ∷ rest) ≡ Whole
wide_opcode_fits k m ps rest e =
    one_more WideOne (Plus (8 * k) ∷ ps) (rex 1 0 0 (high m)) ((8 * k + low m) ∷ rest) (wide_of_one_admitted m)
    (one_more (Plus (8 * k)) ps (8 * k + low m) rest (with_register_admitted k m) e)

pub wide_opcode_field : (k : ℕ) (m : Reg) → rm_field (rex 1 0 0 (high m)) (8 * k + low m) ≡ m
wide_opcode_field k m =
    let b : number m < 16 = number_below m in
    rm_field_is _ _ m (omega arith) (omega arith)

-- ---- a register in an opcode, which is 8 k, with a prefix from r8 on

pub prefix_low : (r : Reg) → number r < 8 → prefix_of r ≡ []
prefix_low r lt =
    let t : ltb (number r) 8 ≡ true = grind (arith, nat_tests) in
    rw t refl

pub prefix_high : (r : Reg) → 8 ≤ number r → prefix_of r ≡ 0x41 ∷ []
prefix_high r le =
    let t : ltb (number r) 8 ≡ false = grind (arith, nat_tests) in
    rw t refl

pub short_low : (opcode : ℕ) (r : Reg) → number r < 8 → short_register opcode r ≡ (opcode + low r) ∷ []
short_low opcode r lt = ap (λ (s : List ℕ). s ++ (opcode + low r) ∷ []) (prefix_low r lt)

pub short_high : (opcode : ℕ) (r : Reg) → 8 ≤ number r → short_register opcode r ≡ 0x41 ∷ (opcode + low r) ∷ []
short_high opcode r le = ap (λ (s : List ℕ). s ++ (opcode + low r) ∷ []) (prefix_high r le)

pub short_low_whole : (k : ℕ) (bs : List ℕ) → fit (Plus (8 * k) ∷ []) bs ≡ Whole → (bs ≡ short_register (8 * k) (rm_field 0 (slice_index bs 0)) ++ drop 1 bs) × (length (short_register (8 * k) (rm_field 0 (slice_index bs 0))) ≡ 1)
short_low_whole k bs e =
    let x = cell (Plus (8 * k)) [] bs e in
    let r : Reg = rm_field 0 x.first in
    let rm = rm_bits 0 x.first in
    let lt : number r < 8 = omega (arith, rm.0) in
    let a : x.first ≡ 8 * k + low r =
    let d : x.first ≡ 8 * (8 * k / 8) + x.first % 8 = with_register_is (8 * k) x.first x.admitted in
    rw rm.1 (omega arith) in
    let is : short_register (8 * k) r ≡ x.first ∷ [] = short_low (8 * k) r lt ∙ cc in
    subst (λ (s : List ℕ). (s ≡ short_register (8 * k) (rm_field 0 (slice_index s 0)) ++ drop 1 s) × (length (short_register (8 * k) (rm_field 0 (slice_index s 0))) ≡ 1)) (sym x.is)
    (ap (λ (s : List ℕ). s ++ x.others) (sym is), ap length is)

pub short_high_whole : (k : ℕ) (bs : List ℕ) → fit (Byte 0x41 ∷ Plus (8 * k) ∷ []) bs ≡ Whole
    → (bs ≡ short_register (8 * k) (rm_field (slice_index bs 0) (slice_index bs 1)) ++ drop 2 bs) × (length (short_register (8 * k) (rm_field (slice_index bs 0) (slice_index bs 1))) ≡ 2)
short_high_whole k bs e =
    let x = cell (Byte 0x41) (Plus (8 * k) ∷ []) bs e in
    let y = cell (Plus (8 * k)) [] x.others x.fits in
    let b : x.first ≡ 0x41 = byte_is 0x41 x.first x.admitted in
    let at : bs ≡ x.first ∷ y.first ∷ y.others = cc (x.is, y.is) in
    let r : Reg = rm_field x.first y.first in
    let rm = rm_bits x.first y.first in
    let le : 8 ≤ number r = omega (arith, rm.0, b) in
    let a : y.first ≡ 8 * k + low r =
    let d : y.first ≡ 8 * (8 * k / 8) + y.first % 8 = with_register_is (8 * k) y.first y.admitted in
    rw rm.1 (omega arith) in
    let is : short_register (8 * k) r ≡ x.first ∷ y.first ∷ [] = short_high (8 * k) r le ∙ cc in
    subst (λ (s : List ℕ). (s ≡ short_register (8 * k) (rm_field (slice_index s 0) (slice_index s 1)) ++ drop 2 s) × (length (short_register (8 * k) (rm_field (slice_index s 0) (slice_index s 1))) ≡ 2)) (sym at)
    (ap (λ (s : List ℕ). s ++ y.others) (sym is), ap length is)

pub short_low_fits : (k : ℕ) (r : Reg) (rest : List ℕ) → fit (Plus (8 * k) ∷ []) ((8 * k + low r) ∷ rest) ≡ Whole
short_low_fits k r rest = one_more (Plus (8 * k)) [] _ rest (with_register_admitted k r) refl

pub short_high_fits : (k : ℕ) (r : Reg) (rest : List ℕ) → fit (Byte 0x41 ∷ Plus (8 * k) ∷ []) (0x41 ∷ (8 * k + low r) ∷ rest) ≡ Whole
short_high_fits k r rest = one_more (Byte 0x41) (Plus (8 * k) ∷ []) 0x41 ((8 * k + low r) ∷ rest) refl (short_low_fits k r rest)

pub short_low_field : (k : ℕ) (r : Reg) → number r < 8 → rm_field 0 (8 * k + low r) ≡ r
short_low_field k r lt = rm_field_is 0 _ r (omega arith) (omega arith)

pub short_high_field : (k : ℕ) (r : Reg) → 8 ≤ number r → rm_field 0x41 (8 * k + low r) ≡ r
short_high_field k r le =
    let b : number r < 16 = number_below r in
    rm_field_is 0x41 _ r (omega arith) (omega arith)

-- ---- a register behind an opcode that goes on in the field reg, with a prefix from r8 on

pub near_low : (opcode digit : ℕ) (r : Reg) → number r < 8 → near_register opcode digit r ≡ opcode ∷ mod_rm digit (low r) ∷ []
near_low opcode digit r lt = ap (λ (s : List ℕ). s ++ opcode ∷ mod_rm digit (low r) ∷ []) (prefix_low r lt)

pub near_high : (opcode digit : ℕ) (r : Reg) → 8 ≤ number r → near_register opcode digit r ≡ 0x41 ∷ opcode ∷ mod_rm digit (low r) ∷ []
near_high opcode digit r le = ap (λ (s : List ℕ). s ++ opcode ∷ mod_rm digit (low r) ∷ []) (prefix_high r le)

-- such a ModRm byte
digit_is : (digit prefix b : ℕ) → admits (Plus (0xC0 + 8 * digit)) b ≡ true → b ≡ mod_rm digit (low (rm_field prefix b))
digit_is digit prefix b e =
    let d : b ≡ 8 * ((0xC0 + 8 * digit) / 8) + b % 8 = with_register_is (0xC0 + 8 * digit) b e in
    let rm = rm_bits prefix b in
    rw rm.1 (omega arith)

digit_admitted : (digit : ℕ) (m : Reg) → admits (Plus (0xC0 + 8 * digit)) (mod_rm digit (low m)) ≡ true
digit_admitted digit m = grind (arith, nat_tests)

pub near_low_whole : (opcode digit : ℕ) (bs : List ℕ) → fit (Byte opcode ∷ Plus (0xC0 + 8 * digit) ∷ []) bs ≡ Whole
    → (bs ≡ near_register opcode digit (rm_field 0 (slice_index bs 1)) ++ drop 2 bs) × (length (near_register opcode digit (rm_field 0 (slice_index bs 1))) ≡ 2)
near_low_whole opcode digit bs e =
    let x = cell (Byte opcode) (Plus (0xC0 + 8 * digit) ∷ []) bs e in
    let y = cell (Plus (0xC0 + 8 * digit)) [] x.others x.fits in
    let b : x.first ≡ opcode = byte_is opcode x.first x.admitted in
    let at : bs ≡ x.first ∷ y.first ∷ y.others = cc (x.is, y.is) in
    let r : Reg = rm_field 0 y.first in
    let rm = rm_bits 0 y.first in
    let lt : number r < 8 = omega (arith, rm.0) in
    let a : y.first ≡ mod_rm digit (low r) = digit_is digit 0 y.first y.admitted in
    let is : near_register opcode digit r ≡ x.first ∷ y.first ∷ [] = near_low opcode digit r lt ∙ cc in
    subst (λ (s : List ℕ). (s ≡ near_register opcode digit (rm_field 0 (slice_index s 1)) ++ drop 2 s) × (length (near_register opcode digit (rm_field 0 (slice_index s 1))) ≡ 2)) (sym at)
    (ap (λ (s : List ℕ). s ++ y.others) (sym is), ap length is)

pub near_high_whole : (opcode digit : ℕ) (bs : List ℕ) → fit (Byte 0x41 ∷ Byte opcode ∷ Plus (0xC0 + 8 * digit) ∷ []) bs ≡ Whole
    → (bs ≡ near_register opcode digit (rm_field (slice_index bs 0) (slice_index bs 2)) ++ drop 3 bs) × (length (near_register opcode digit (rm_field (slice_index bs 0) (slice_index bs 2))) ≡ 3)
near_high_whole opcode digit bs e =
    let w = cell (Byte 0x41) (Byte opcode ∷ Plus (0xC0 + 8 * digit) ∷ []) bs e in
    let x = cell (Byte opcode) (Plus (0xC0 + 8 * digit) ∷ []) w.others w.fits in
    let y = cell (Plus (0xC0 + 8 * digit)) [] x.others x.fits in
    let p : w.first ≡ 0x41 = byte_is 0x41 w.first w.admitted in
    let b : x.first ≡ opcode = byte_is opcode x.first x.admitted in
    let at : bs ≡ w.first ∷ x.first ∷ y.first ∷ y.others = cc (w.is, x.is, y.is) in
    let r : Reg = rm_field w.first y.first in
    let rm = rm_bits w.first y.first in
    let le : 8 ≤ number r = omega (arith, rm.0, p) in
    let a : y.first ≡ mod_rm digit (low r) = digit_is digit w.first y.first y.admitted in
    let is : near_register opcode digit r ≡ w.first ∷ x.first ∷ y.first ∷ [] = near_high opcode digit r le ∙ cc in
    subst (λ (s : List ℕ). (s ≡ near_register opcode digit (rm_field (slice_index s 0) (slice_index s 2)) ++ drop 3 s) × (length (near_register opcode digit (rm_field (slice_index s 0) (slice_index s 2))) ≡ 3)) (sym at)
    (ap (λ (s : List ℕ). s ++ y.others) (sym is), ap length is)

pub near_low_fits : (opcode digit : ℕ) (r : Reg) (rest : List ℕ) → fit (Byte opcode ∷ Plus (0xC0 + 8 * digit) ∷ []) (opcode ∷ mod_rm digit (low r) ∷ rest) ≡ Whole
near_low_fits opcode digit r rest =
    one_more (Byte opcode) (Plus (0xC0 + 8 * digit) ∷ []) opcode (mod_rm digit (low r) ∷ rest) (byte_admitted opcode)
    (one_more (Plus (0xC0 + 8 * digit)) [] (mod_rm digit (low r)) rest (digit_admitted digit r) refl)

pub near_high_fits : (opcode digit : ℕ) (r : Reg) (rest : List ℕ) → fit (Byte 0x41 ∷ Byte opcode ∷ Plus (0xC0 + 8 * digit) ∷ []) (0x41 ∷ opcode ∷ mod_rm digit (low r) ∷ rest) ≡ Whole
near_high_fits opcode digit r rest =
    one_more (Byte 0x41) (Byte opcode ∷ Plus (0xC0 + 8 * digit) ∷ []) 0x41 (opcode ∷ mod_rm digit (low r) ∷ rest) refl (near_low_fits opcode digit r rest)

pub near_low_field : (digit : ℕ) (r : Reg) → number r < 8 → rm_field 0 (mod_rm digit (low r)) ≡ r
near_low_field digit r lt = rm_field_is 0 _ r (omega arith) (omega arith)

pub near_high_field : (digit : ℕ) (r : Reg) → 8 ≤ number r → rm_field 0x41 (mod_rm digit (low r)) ≡ r
near_high_field digit r le =
    let b : number r < 16 = number_below r in
    rm_field_is 0x41 _ r (omega arith) (omega arith)

-- ---- the product, whose opcode has two bytes

pub multiply_whole : (bs : List ℕ) → fit (Wide ∷ Byte 0x0F ∷ Byte 0xAF ∷ ModRm ∷ []) bs ≡ Whole → bs ≡ encoding (Multiply (reg_at bs 3) (rm_at bs 3)) ++ drop 4 bs
multiply_whole bs e =
    let x = cell Wide (Byte 0x0F ∷ Byte 0xAF ∷ ModRm ∷ []) bs e in
    let y = cell (Byte 0x0F) (Byte 0xAF ∷ ModRm ∷ []) x.others x.fits in
    let w = cell (Byte 0xAF) (ModRm ∷ []) y.others y.fits in
    let z = cell ModRm [] w.others w.fits in
    let is : bs ≡ x.first ∷ y.first ∷ w.first ∷ z.first ∷ z.others = cc (x.is, y.is, w.is, z.is) in
    let reg = reg_bits x.first z.first in
    let rm = rm_bits x.first z.first in
    let a : x.first ≡ rex 1 (high (reg_field x.first z.first)) 0 (high (rm_field x.first z.first)) = rw (reg.0, rm.0) (wide_is x.first x.admitted) in
    let b : y.first ≡ 0x0F = byte_is 0x0F y.first y.admitted in
    let c : w.first ≡ 0xAF = byte_is 0xAF w.first w.admitted in
    let d : z.first ≡ mod_rm (low (reg_field x.first z.first)) (low (rm_field x.first z.first)) = rw (reg.1, rm.1) (mod_rm_is z.first z.admitted) in
    subst (λ (s : List ℕ). s ≡ encoding (Multiply (reg_at s 3) (rm_at s 3)) ++ drop 4 s) (sym is) cc

pub multiply_fits : (r m : Reg) (rest : List ℕ) → fit (Wide ∷ Byte 0x0F ∷ Byte 0xAF ∷ ModRm ∷ []) (encoding (Multiply r m) ++ rest) ≡ Whole
multiply_fits r m rest =
    one_more Wide (Byte 0x0F ∷ Byte 0xAF ∷ ModRm ∷ []) (rex 1 (high r) 0 (high m)) (0x0F ∷ 0xAF ∷ mod_rm (low r) (low m) ∷ rest) (wide_admitted r m)
    (one_more ModRm [] (mod_rm (low r) (low m)) rest (mod_rm_admitted r m) refl)

pub multiply_fields : (r m : Reg)
    → (reg_field (rex 1 (high r) 0 (high m)) (mod_rm (low r) (low m)) ≡ r) × (rm_field (rex 1 (high r) 0 (high m)) (mod_rm (low r) (low m)) ≡ m)
multiply_fields r m =
    let a : number r < 16 = number_below r in
    let b : number m < 16 = number_below m in
    (reg_field_is _ _ r (omega arith) (omega arith), rm_field_is _ _ m (omega arith) (omega arith))

-- ---- fixed bytes

pub record FixedIs (xs : List ℕ) (ps : List Part) (bs : List ℕ) : Type 0 where
  pub is : bs ≡ xs ++ drop (length xs) bs
  pub fits : fit ps (drop (length xs) bs) ≡ Whole

pub fixed_whole : (xs : List ℕ) (ps : List Part) (bs : List ℕ) → fit (map Byte xs ++ ps) bs ≡ Whole → FixedIs xs ps bs
fixed_whole [] ps bs e = record { is = refl; fits = e }
fixed_whole (x ∷ xs) ps bs e =
    let c = cell (Byte x) (map Byte xs ++ ps) bs e in
    let rest = fixed_whole xs ps c.others c.fits in
    let first : c.first ≡ x = byte_is x c.first c.admitted in
    let is : c.first ∷ c.others ≡ x ∷ xs ++ drop (length xs) c.others = cc (first, rest.is) in
    subst (FixedIs (x ∷ xs) ps) (sym c.is) (record { is = is; fits = rest.fits })

pub fixed_fits : (xs : List ℕ) (ps : List Part) (rest : List ℕ) → fit ps rest ≡ Whole → fit (map Byte xs ++ ps) (xs ++ rest) ≡ Whole
fixed_fits [] ps rest e = e
fixed_fits (x ∷ xs) ps rest e = one_more (Byte x) (map Byte xs ++ ps) x (xs ++ rest) (byte_admitted x) (fixed_fits xs ps rest e)

-- ---- constants

byte_below : (i n : ℕ) → byte_at i n < 256
byte_below zero n = omega arith
byte_below (suc i) n = omega arith

constants_fit : (k i n : ℕ) (rest : List ℕ) → fit (replicate k Any) (bytes_low_first i k n ++ rest) ≡ Whole
constants_fit zero i n rest = refl
constants_fit (suc k) i n rest =
    let lt : byte_at i n < 256 = byte_below i n in
    one_more Any (replicate k Any) _ _ (grind (arith, nat_tests)) (constants_fit k (suc i) n rest)

pub record AreConstants (k : ℕ) (bs : List ℕ) : Type 0 where
  pub enough : k ≤ length bs
  pub below : (i : ℕ) → get_or (take k bs) i 0 < 256

first_below : (b : ℕ) (bs : List ℕ) → b < 256 → ((i : ℕ) → get_or bs i 0 < 256) → (i : ℕ) → get_or (b ∷ bs) i 0 < 256
first_below b bs x y zero = x
first_below b bs x y (suc i) = y i

constants_whole : (k : ℕ) (bs : List ℕ) → fit (replicate k Any) bs ≡ Whole → AreConstants k bs
constants_whole zero bs e = record { enough = omega arith; below = λ i. omega arith }
constants_whole (suc k) bs e =
    let x = cell Any (replicate k Any) bs e in
    let rest = constants_whole k x.others x.fits in
    let first : x.first < 256 = ltb-true x.first 256 x.admitted in
    subst (AreConstants (suc k)) (sym x.is) (record { enough = omega (arith, rest.enough); below = first_below x.first (take k x.others) first rest.below })

pub record Constant64Is (bs : List ℕ) : Type 0 where
  pub is : bs ≡ constant_64 (from_le_bytes w64 (take 8 bs)) ++ drop 8 bs
  pub below : from_le_bytes w64 (take 8 bs) < 2 ^ 64

pub constant_64_whole : (bs : List ℕ) → fit (replicate 8 Any) bs ≡ Whole → Constant64Is bs
constant_64_whole bs e =
    let c = constants_whole 8 bs e in
    let back : constant_64 (from_le_bytes w64 (take 8 bs)) ≡ take 8 bs = le_bytes_8 (take 8 bs) _ (omega (arith, length-take 8 bs, c.enough)) c.below refl in
    record {
      is = sym (ap (λ (s : List ℕ). s ++ drop 8 bs) back ∙ take-append-drop 8 bs);
      below = omega (arith, c.below 0, c.below 1, c.below 2, c.below 3, c.below 4, c.below 5, c.below 6, c.below 7);
    }

pub constant_64_fits : (value : ℕ) (rest : List ℕ) → fit (replicate 8 Any) (constant_64 value ++ rest) ≡ Whole
constant_64_fits value rest = constants_fit 8 0 value rest

pub constant_64_field : (value : ℕ) (rest : List ℕ) → value < 2 ^ 64 → from_le_bytes w64 (take 8 (constant_64 value ++ rest)) ≡ value
constant_64_field value rest lt = ap (from_le_bytes w64) (take_at (constant_64 value) rest 8 refl) ∙ from_le_bytes-to_le_bytes_8 value lt

pub record Constant32Is (bs : List ℕ) : Type 0 where
  pub is : bs ≡ constant_32 (cast_signed w32 (from_le_bytes w32 (take 4 bs))) ++ drop 4 bs
  pub fits : FitsSigned w32 (cast_signed w32 (from_le_bytes w32 (take 4 bs)))

pub constant_32_whole : (bs : List ℕ) → fit (replicate 4 Any) bs ≡ Whole → Constant32Is bs
constant_32_whole bs e =
    let c = constants_whole 4 bs e in
    let n : ℕ = from_le_bytes w32 (take 4 bs) in
    let below : n < 2 ^ 32 = omega (arith, c.below 0, c.below 1, c.below 2, c.below 3) in
    let back : to_le_bytes w32 n ≡ take 4 bs = le_bytes_4 (take 4 bs) _ (omega (arith, length-take 4 bs, c.enough)) c.below refl in
    let same : constant_32 (cast_signed w32 n) ≡ take 4 bs = ap (to_le_bytes w32) (of_z-to_z w32 n below) ∙ back in
    record {
      is = sym (ap (λ (s : List ℕ). s ++ drop 4 bs) same ∙ take-append-drop 4 bs);
      fits = sfits_to_z {w = w32} {n = n} (omega arith);
    }

pub constant_32_fits : (value : ℤ) (rest : List ℕ) → fit (replicate 4 Any) (constant_32 value ++ rest) ≡ Whole
constant_32_fits value rest = constants_fit 4 0 (cast_unsigned w32 value) rest

pub constant_32_field : (value : ℤ) (rest : List ℕ) → FitsSigned w32 value → cast_signed w32 (from_le_bytes w32 (take 4 (constant_32 value ++ rest))) ≡ value
constant_32_field value rest fits =
    let fit32 : Fits w32 (cast_unsigned w32 value) = Fits-of_z {w = w32} {z = value} fits in
    let below : cast_unsigned w32 value < 2 ^ 32 = omega arith in
    ap (λ (s : List ℕ). cast_signed w32 (from_le_bytes w32 s)) (take_at (constant_32 value) rest 4 refl)
    ∙ ap (cast_signed w32) (from_le_bytes-to_le_bytes_4 (cast_unsigned w32 value) below) ∙ to_z-of_z w32 value fits

-- ---- fixed bytes and a constant

pub record JumpIs (xs : List ℕ) (bs : List ℕ) : Type 0 where
  pub is : bs ≡ (xs ++ constant_32 (signed_at bs (length xs))) ++ drop (length xs + 4) bs
  pub fits : FitsSigned w32 (signed_at bs (length xs))

pub jump_whole : (xs : List ℕ) (bs : List ℕ) → fit (map Byte xs ++ replicate 4 Any) bs ≡ Whole → JumpIs xs bs
jump_whole xs bs e =
    let f = fixed_whole xs (replicate 4 Any) bs e in
    let c = constant_32_whole (drop (length xs) bs) f.fits in
    let value : List ℕ = constant_32 (signed_at bs (length xs)) in
    let rest : drop 4 (drop (length xs) bs) ≡ drop (length xs + 4) bs = drop-drop 4 (length xs) bs in
    record {
      is = f.is ∙ ap (λ (s : List ℕ). xs ++ s) (c.is ∙ ap (λ (s : List ℕ). value ++ s) rest) ∙ sym (append_assoc xs value (drop (length xs + 4) bs));
      fits = c.fits;
    }

-- ---- a shift's count

pub record ShiftIs (digit : ℕ) (bs : List ℕ) : Type 0 where
  pub is : bs ≡ (one_register 0xC1 digit (rm_at bs 2) ++ (slice_index bs 3 % 64) ∷ []) ++ drop 4 bs

pub shift_whole : (digit : ℕ) (bs : List ℕ) → fit (WideOne ∷ Byte 0xC1 ∷ Plus (0xC0 + 8 * digit) ∷ Count ∷ []) bs ≡ Whole → ShiftIs digit bs
shift_whole digit bs e =
    let x = cell WideOne (Byte 0xC1 ∷ Plus (0xC0 + 8 * digit) ∷ Count ∷ []) bs e in
    let y = cell (Byte 0xC1) (Plus (0xC0 + 8 * digit) ∷ Count ∷ []) x.others x.fits in
    let z = cell (Plus (0xC0 + 8 * digit)) (Count ∷ []) y.others y.fits in
    let w = cell Count [] z.others z.fits in
    let at : bs ≡ x.first ∷ y.first ∷ z.first ∷ w.first ∷ w.others = cc (x.is, y.is, z.is, w.is) in
    let below : w.first < 64 = ltb-true w.first 64 w.admitted in
    let same : w.first ≡ w.first % 64 = omega (arith, below) in
    let there : fit (WideOne ∷ Byte 0xC1 ∷ Plus (0xC0 + 8 * digit) ∷ Count ∷ []) (x.first ∷ y.first ∷ z.first ∷ w.first ∷ w.others) ≡ Whole = subst (λ (s : List ℕ). fit (WideOne ∷ Byte 0xC1 ∷ Plus (0xC0 + 8 * digit) ∷ Count ∷ []) s ≡ Whole) at e in
    let h = one_register_whole 0xC1 digit (Count ∷ []) (x.first ∷ y.first ∷ z.first ∷ w.first ∷ w.others) there in
    subst (ShiftIs digit) (sym at) (record { is = h.is ∙ ap (λ n. one_register 0xC1 digit (rm_field x.first z.first) ++ n ∷ w.others) same })

pub shift_fits : (digit n : ℕ) (m : Reg) (rest : List ℕ) → n < 64 → fit (WideOne ∷ Byte 0xC1 ∷ Plus (0xC0 + 8 * digit) ∷ Count ∷ []) ((one_register 0xC1 digit m ++ n ∷ []) ++ rest) ≡ Whole
shift_fits digit n m rest lt =
    one_register_fits 0xC1 digit m (Count ∷ []) (n ∷ rest) (one_more Count [] n rest (lt-ltb n 64 lt) refl)
