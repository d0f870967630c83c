-- The shape of instructions with a word in memory, in both directions, with and without the SIB byte.
use Rattle.std.proofs.Common.{◌≡◌, ℕ, ◌+◌, ◌/◌, ◌%◌, ◌<◌, true, List, [], ◌∷◌, ◌++◌, length, drop, replicate, refl, sym, ap, subst, ◌∙◌, arith, ℤ}
use Rattle.std.specs.Prelude.{FitsSigned}
use Rattle.std.specs.Int.{w32}
use Rattle.std.proofs.lemmas.Bool.{ne_eqb}
use Rattle.std.proofs.lemmas.Bool.Decides.{nat_tests}
use Rattle.amd64_form.specs.declared.reg.Reg.{Reg}
use Rattle.amd64_form.specs.declared.form.Part.TheVariants.{Byte, Wide, Memory, MemorySib, Any}
use Rattle.amd64_form.specs.declared.form.Fit.TheVariants.{Whole}
use Rattle.amd64_form.specs.Reg.{number, high, low}
use Rattle.amd64_form.specs.Encoding.{rex, mod_rm_memory, sib_of, memory, constant_32}
use Rattle.amd64_form.specs.Form.{admits, fit, reg_field, rm_field, reg_at, rm_at, signed_at}
use Rattle.amd64_form.proofs.Fields.{number_below, reg_bits, rm_bits, wide_is, wide_admitted, reg_field_is, rm_field_is}
use Rattle.amd64_form.proofs.Shapes.{cell, one_more, byte_is, byte_admitted, constant_32_whole, constant_32_fits}

-- ---- the ModRm byte, and whether a SIB byte follows

memory_is : (b : ℕ) → admits Memory b ≡ true → (b ≡ mod_rm_memory (b / 8 % 8) (b % 8)) × (b % 8 ≡ 4 → ⊥)
memory_is b e = (grind (arith, nat_tests), λ h. grind (arith, nat_tests))

memory_sib_is : (b : ℕ) → admits MemorySib b ≡ true → (b ≡ mod_rm_memory (b / 8 % 8) (b % 8)) × (b % 8 ≡ 4)
memory_sib_is b e = (grind (arith, nat_tests), grind (arith, nat_tests))

memory_admitted : (r m : Reg) → (low m ≡ 4 → ⊥) → admits Memory (mod_rm_memory (low r) (low m)) ≡ true
memory_admitted r m h = grind (arith, nat_tests)

memory_sib_admitted : (r m : Reg) → low m ≡ 4 → admits MemorySib (mod_rm_memory (low r) (low m)) ≡ true
memory_sib_admitted r m h = grind (arith, nat_tests)

pub no_sib : (base : Reg) → (low base ≡ 4 → ⊥) → sib_of base ≡ []
no_sib base h = rw (ne_eqb (low base) 4 h) refl

pub some_sib : (base : Reg) → low base ≡ 4 → sib_of base ≡ 0x24 ∷ []
some_sib base h = rw h refl

-- ---- bytes of this shape

pub record MemoryIs (opcode at : ℕ) (bs : List ℕ) : Type 0 where
  pub is : bs ≡ memory opcode (reg_at bs 2) (rm_at bs 2) (signed_at bs at) ++ drop (at + 4) bs
  pub all : length (memory opcode (reg_at bs 2) (rm_at bs 2) (signed_at bs at)) ≡ at + 4
  pub fits : FitsSigned w32 (signed_at bs at)

pub memory_whole : (opcode : ℕ) (bs : List ℕ) → fit (Wide ∷ Byte opcode ∷ Memory ∷ replicate 4 Any) bs ≡ Whole → MemoryIs opcode 3 bs
memory_whole opcode bs e =
    let x = cell Wide (Byte opcode ∷ Memory ∷ replicate 4 Any) bs e in
    let y = cell (Byte opcode) (Memory ∷ replicate 4 Any) x.others x.fits in
    let z = cell Memory (replicate 4 Any) y.others y.fits in
    let is : bs ≡ x.first ∷ y.first ∷ z.first ∷ z.others = cc (x.is, y.is, z.is) in
    let r : Reg = reg_field x.first z.first in
    let base : Reg = rm_field x.first z.first in
    let reg = reg_bits x.first z.first in
    let rm = rm_bits x.first z.first in
    let byte = memory_is z.first z.admitted in
    let a : x.first ≡ rex 1 (high r) 0 (high base) = rw (reg.0, rm.0) (wide_is x.first x.admitted) in
    let b : y.first ≡ opcode = byte_is opcode y.first y.admitted in
    let c : z.first ≡ mod_rm_memory (low r) (low base) = rw (reg.1, rm.1) byte.0 in
    let none : sib_of base ≡ [] = no_sib base (λ h. byte.1 (sym rm.1 ∙ h)) in
    let d = constant_32_whole z.others z.fits in
    let value : List ℕ = constant_32 (signed_at z.others 0) in
    let tail : z.others ≡ (sib_of base ++ value) ++ drop 4 z.others = d.is ∙ ap (λ (s : List ℕ). (s ++ value) ++ drop 4 z.others) (sym none) in
    subst (MemoryIs opcode 3) (sym is) (record {
      is = cc (a, b, c, tail);
      all = ap (λ (s : List ℕ). length (0 ∷ 0 ∷ 0 ∷ s ++ value)) none;
      fits = d.fits;
    })

pub memory_sib_whole : (opcode : ℕ) (bs : List ℕ) → fit (Wide ∷ Byte opcode ∷ MemorySib ∷ Byte 0x24 ∷ replicate 4 Any) bs ≡ Whole → MemoryIs opcode 4 bs
memory_sib_whole opcode bs e =
    let x = cell Wide (Byte opcode ∷ MemorySib ∷ Byte 0x24 ∷ replicate 4 Any) bs e in
    let y = cell (Byte opcode) (MemorySib ∷ Byte 0x24 ∷ replicate 4 Any) x.others x.fits in
    let z = cell MemorySib (Byte 0x24 ∷ replicate 4 Any) y.others y.fits in
    let w = cell (Byte 0x24) (replicate 4 Any) z.others z.fits in
    let is : bs ≡ x.first ∷ y.first ∷ z.first ∷ w.first ∷ w.others = cc (x.is, y.is, z.is, w.is) in
    let r : Reg = reg_field x.first z.first in
    let base : Reg = rm_field x.first z.first in
    let reg = reg_bits x.first z.first in
    let rm = rm_bits x.first z.first in
    let byte = memory_sib_is z.first z.admitted in
    let a : x.first ≡ rex 1 (high r) 0 (high base) = rw (reg.0, rm.0) (wide_is x.first x.admitted) in
    let b : y.first ≡ opcode = byte_is opcode y.first y.admitted in
    let c : z.first ≡ mod_rm_memory (low r) (low base) = rw (reg.1, rm.1) byte.0 in
    let s : w.first ≡ 0x24 = byte_is 0x24 w.first w.admitted in
    let some : sib_of base ≡ 0x24 ∷ [] = some_sib base (rm.1 ∙ byte.1) in
    let d = constant_32_whole w.others w.fits in
    let value : List ℕ = constant_32 (signed_at w.others 0) in
    let rest : w.first ∷ w.others ≡ (0x24 ∷ value) ++ drop 4 w.others = cc (s, d.is) in
    let tail : w.first ∷ w.others ≡ (sib_of base ++ value) ++ drop 4 w.others = rest ∙ ap (λ (s : List ℕ). (s ++ value) ++ drop 4 w.others) (sym some) in
    subst (MemoryIs opcode 4) (sym is) (record {
      is = cc (a, b, c, tail);
      all = ap (λ (s : List ℕ). length (0 ∷ 0 ∷ 0 ∷ s ++ value)) some;
      fits = d.fits;
    })

-- ---- an instruction of this shape

pub memory_bytes : (opcode : ℕ) (r base : Reg) (offset : ℤ) → (low base ≡ 4 → ⊥) → memory opcode r base offset ≡ rex 1 (high r) 0 (high base) ∷ opcode ∷ mod_rm_memory (low r) (low base) ∷ constant_32 offset
memory_bytes opcode r base offset h = ap (λ (s : List ℕ). rex 1 (high r) 0 (high base) ∷ opcode ∷ mod_rm_memory (low r) (low base) ∷ s ++ constant_32 offset) (no_sib base h)

pub memory_sib_bytes : (opcode : ℕ) (r base : Reg) (offset : ℤ) → low base ≡ 4 → memory opcode r base offset ≡ rex 1 (high r) 0 (high base) ∷ opcode ∷ mod_rm_memory (low r) (low base) ∷ 0x24 ∷ constant_32 offset
memory_sib_bytes opcode r base offset h = ap (λ (s : List ℕ). rex 1 (high r) 0 (high base) ∷ opcode ∷ mod_rm_memory (low r) (low base) ∷ s ++ constant_32 offset) (some_sib base h)

pub memory_fits : (opcode : ℕ) (r base : Reg) (offset : ℤ) (rest : List ℕ) → (low base ≡ 4 → ⊥)
    → fit (Wide ∷ Byte opcode ∷ Memory ∷ replicate 4 Any) (rex 1 (high r) 0 (high base) ∷ opcode ∷ mod_rm_memory (low r) (low base) ∷ constant_32 offset ++ rest) ≡ Whole
memory_fits opcode r base offset rest h =
    one_more Wide (Byte opcode ∷ Memory ∷ replicate 4 Any) (rex 1 (high r) 0 (high base)) (opcode ∷ mod_rm_memory (low r) (low base) ∷ constant_32 offset ++ rest) (wide_admitted r base)
    (one_more (Byte opcode) (Memory ∷ replicate 4 Any) opcode (mod_rm_memory (low r) (low base) ∷ constant_32 offset ++ rest) (byte_admitted opcode)
    (one_more Memory (replicate 4 Any) (mod_rm_memory (low r) (low base)) (constant_32 offset ++ rest) (memory_admitted r base h) (constant_32_fits offset rest)))

pub memory_sib_fits : (opcode : ℕ) (r base : Reg) (offset : ℤ) (rest : List ℕ) → low base ≡ 4
    → fit (Wide ∷ Byte opcode ∷ MemorySib ∷ Byte 0x24 ∷ replicate 4 Any) (rex 1 (high r) 0 (high base) ∷ opcode ∷ mod_rm_memory (low r) (low base) ∷ 0x24 ∷ constant_32 offset ++ rest) ≡ Whole
memory_sib_fits opcode r base offset rest h =
    one_more Wide (Byte opcode ∷ MemorySib ∷ Byte 0x24 ∷ replicate 4 Any) (rex 1 (high r) 0 (high base)) (opcode ∷ mod_rm_memory (low r) (low base) ∷ 0x24 ∷ constant_32 offset ++ rest) (wide_admitted r base)
    (one_more (Byte opcode) (MemorySib ∷ Byte 0x24 ∷ replicate 4 Any) opcode (mod_rm_memory (low r) (low base) ∷ 0x24 ∷ constant_32 offset ++ rest) (byte_admitted opcode)
    (one_more MemorySib (Byte 0x24 ∷ replicate 4 Any) (mod_rm_memory (low r) (low base)) (0x24 ∷ constant_32 offset ++ rest) (memory_sib_admitted r base h) (constant_32_fits offset rest)))

pub memory_fields : (r base : Reg)
    → (reg_field (rex 1 (high r) 0 (high base)) (mod_rm_memory (low r) (low base)) ≡ r) × (rm_field (rex 1 (high r) 0 (high base)) (mod_rm_memory (low r) (low base)) ≡ base)
memory_fields r base =
    let a : number r < 16 = number_below r in
    let b : number base < 16 = number_below base in
    (reg_field_is _ _ r (omega arith) (omega arith), rm_field_is _ _ base (omega arith) (omega arith))
