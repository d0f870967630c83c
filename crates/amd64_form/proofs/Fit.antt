-- How bytes stand to the parts of a form.
use Rattle.std.proofs.Common.{◌≡◌, ◌≢◌, ℕ, ◌+◌, ◌≤◌, ◌<◌, Bool, true, false, cond, List, [], ◌∷◌, ◌++◌, length, drop, map, zero, suc, not, ◌&&◌, ◌||◌, ◌⊎◌, inl, inr, ◌*◌, ◌/◌, refl, ap, subst, ◌∙◌, arith}
use Rattle.std.specs.Prelude.{nat_lt}
use Rattle.std.proofs.lemmas.Bool.{cases_lt, ltb-true}
use Rattle.std.proofs.lemmas.Bool.Decides.{nat_tests}
use Rattle.std.proofs.lemmas.List.{length-map, drop_all}
use Rattle.std.proofs.Math.Seq.{drop-cons}
use Rattle.amd64_form.specs.declared.form.Part.{Part}
use Rattle.amd64_form.specs.declared.form.Part.TheVariants.{Byte, Wide, WideOne, Plus, ModRm, Memory, MemorySib, Count, Any}
use Rattle.amd64_form.specs.declared.form.Fit.{Fit}
use Rattle.amd64_form.specs.declared.form.Fit.TheVariants.{Whole, Prefix, Apart}
use Rattle.amd64_form.specs.Form.{admits, fit}

-- ---- one byte

pub whole_test : (t : Bool) (f : Fit) → cond t f Apart ≡ Whole → (t ≡ true) × (f ≡ Whole)
whole_test true f e = (refl, e)
whole_test false f e = absurd cc

pub prefix_test : (t : Bool) (f : Fit) → cond t f Apart ≡ Prefix → (t ≡ true) × (f ≡ Prefix)
prefix_test true f e = (refl, e)
prefix_test false f e = absurd cc

pub passed : (t : Bool) (f : Fit) → t ≡ true → cond t f Apart ≡ f
passed t f e = rw e refl

stopped : (t : Bool) (f : Fit) → t ≡ false → cond t f Apart ≡ Apart
stopped t f e = rw e refl

apart_either : (t : Bool) (f : Fit) → f ≡ Apart → cond t f Apart ≡ Apart
apart_either true f e = e
apart_either false f e = refl

-- ---- lengths

-- an encoding has a byte for each part
pub fit_length : (ps : List Part) (bs : List ℕ) → fit ps bs ≡ Whole → length ps ≤ length bs
fit_length [] bs e = omega arith
fit_length (p ∷ ps) [] e = absurd cc
fit_length (p ∷ ps) (b ∷ bs) e = omega (arith, fit_length ps bs (whole_test (admits p b) (fit ps bs) e).1)

-- a part of an encoding breaks off inside it
pub fit_part : (ps : List Part) (bs more : List ℕ) → fit ps (bs ++ more) ≡ Whole → length bs < length ps → fit ps bs ≡ Prefix
fit_part [] bs more e lt = absurd (omega (arith, lt))
fit_part (p ∷ ps) [] more e lt = refl
fit_part (p ∷ ps) (b ∷ bs) more e lt =
    let w = whole_test (admits p b) (fit ps (bs ++ more)) e in
    passed (admits p b) (fit ps bs) w.0 ∙ fit_part ps bs more w.1 (omega (arith, lt))

-- where the bytes end before the parts
pub breaks_off : (ps : List Part) (bs : List ℕ) (i : ℕ) → i < length ps → length bs ≤ i → fit (drop i ps) (drop i bs) ≡ Prefix
breaks_off ps bs i lt le = rw (drop_all i bs le, drop-cons ps i Any lt) refl

-- ---- what completes a part of an encoding

abbrev pub least : Part → ℕ
least (Byte value) = value
least Wide = 0x48
least WideOne = 0x48
least (Plus value) = 8 * (value / 8)
least ModRm = 0xC0
least Memory = 0x80
least MemorySib = 0x84
least Count = 0
least Any = 0

least_admitted : (p : Part) → admits p (least p) ≡ true
least_admitted (Byte value) = grind arith
least_admitted Wide = refl
least_admitted WideOne = refl
least_admitted (Plus value) = grind (arith, nat_tests)
least_admitted ModRm = refl
least_admitted Memory = refl
least_admitted MemorySib = refl
least_admitted Count = refl
least_admitted Any = refl

least_fit : (ps : List Part) → fit ps (map least ps) ≡ Whole
least_fit [] = refl
least_fit (p ∷ ps) = rw (least_admitted p) (least_fit ps)

pub record Completes (ps : List Part) (bs more : List ℕ) : Type 0 where
  pub some : more ≢ []
  pub whole : fit ps (bs ++ more) ≡ Whole
  pub all : length (bs ++ more) ≡ length ps

pub completed : (ps : List Part) (bs : List ℕ) → fit ps bs ≡ Prefix → (more : List ℕ) × Completes ps bs more
completed [] bs e = absurd cc
completed (p ∷ ps) [] e =
    (map least (p ∷ ps), record { some = λ h. cc; whole = least_fit (p ∷ ps); all = length-map (p ∷ ps) least })
completed (p ∷ ps) (b ∷ bs) e =
    let t = prefix_test (admits p b) (fit ps bs) e in
    let r = completed ps bs t.1 in
    (r.0, record { some = r.1.some; whole = passed (admits p b) (fit ps (bs ++ r.0)) t.0 ∙ r.1.whole; all = ap suc r.1.all })

-- ---- forms apart

-- the greatest byte that a part admits
abbrev pub most : Part → ℕ
most (Byte value) = value
most Wide = 0x4D
most WideOne = 0x49
most (Plus value) = 8 * (value / 8) + 7
most ModRm = 255
most Memory = 0xBF
most MemorySib = 0xBC
most Count = 63
most Any = 255

admitted_at_most : (p : Part) (b : ℕ) → admits p b ≡ true → b ≤ most p
admitted_at_most (Byte value) b e = grind (arith, nat_tests)
admitted_at_most Wide b e = grind (arith, nat_tests)
admitted_at_most WideOne b e = grind (arith, nat_tests)
admitted_at_most (Plus value) b e = grind (arith, nat_tests)
admitted_at_most ModRm b e = grind (arith, nat_tests)
admitted_at_most Memory b e = grind (arith, nat_tests)
admitted_at_most MemorySib b e = grind (arith, nat_tests)
admitted_at_most Count b e = grind (arith, nat_tests)
admitted_at_most Any b e = grind (arith, nat_tests)

admitted_at_least : (p : Part) (b : ℕ) → admits p b ≡ true → least p ≤ b
admitted_at_least (Byte value) b e = grind (arith, nat_tests)
admitted_at_least Wide b e = grind (arith, nat_tests)
admitted_at_least WideOne b e = grind (arith, nat_tests)
admitted_at_least (Plus value) b e = grind (arith, nat_tests)
admitted_at_least ModRm b e = grind (arith, nat_tests)
admitted_at_least Memory b e = grind (arith, nat_tests)
admitted_at_least MemorySib b e = grind (arith, nat_tests)
admitted_at_least Count b e = grind (arith, nat_tests)
admitted_at_least Any b e = grind (arith, nat_tests)

-- every number below n passes the test
abbrev pub all_below : (ℕ → Bool) → ℕ → Bool
all_below test zero = true
all_below test (suc n) = test n && all_below test n

-- no byte is admitted by both
abbrev none_common : Part → Part → Bool
none_common p q =
    nat_lt (most p) (least q) || (nat_lt (most q) (least p) || all_below (λ b. not (admits p b && admits q b)) (suc (most p)))

-- at some place no byte is admitted by both
abbrev pub are_apart : List Part → List Part → Bool
are_apart [] qs = false
are_apart (p ∷ ps) [] = false
are_apart (p ∷ ps) (q ∷ qs) = none_common p q || are_apart ps qs

pub both : (s t : Bool) → (s && t) ≡ true → (s ≡ true) × (t ≡ true)
both true t e = (refl, e)
both false t e = absurd cc

either : (s t : Bool) → (s || t) ≡ true → (s ≡ true) ⊎ (t ≡ true)
either true t e = inl refl
either false t e = inr e

not_both : (s t : Bool) → not (s && t) ≡ true → s ≡ true → t ≡ true → ⊥
not_both s t e x y = cc

pub at_below : (test : ℕ → Bool) (n k : ℕ) → all_below test n ≡ true → k < n → test k ≡ true
at_below test zero k e lt = absurd (omega (arith, lt))
at_below test (suc n) k e lt =
    let parts = both (test n) (all_below test n) e in
    elim (cases_lt k n) [
      | inl below ↦ at_below test n k parts.1 below
      | inr above ↦
          let same : n ≡ k = omega arith in
          subst (λ m. test m ≡ true) same parts.0
    ]

none_admitted : (p q : Part) (b : ℕ) → none_common p q ≡ true → admits p b ≡ true → admits q b ≡ true → ⊥
none_admitted p q b e x y =
    let test : ℕ → Bool = λ c. not (admits p c && admits q c) in
    elim (either (nat_lt (most p) (least q)) (nat_lt (most q) (least p) || all_below test (suc (most p))) e) [
      | inl below ↦ let lt : most p < least q = ltb-true (most p) (least q) below in absurd (omega (arith, lt, admitted_at_most p b x, admitted_at_least q b y))
      | inr others ↦ elim (either (nat_lt (most q) (least p)) (all_below test (suc (most p))) others) [
        | inl above ↦ let lt : most q < least p = ltb-true (most q) (least p) above in absurd (omega (arith, lt, admitted_at_most q b y, admitted_at_least p b x))
        | inr each ↦ not_both (admits p b) (admits q b) (at_below test (suc (most p)) b each (omega (arith, admitted_at_most p b x))) x y
      ]
    ]

not_true : (t : Bool) → (t ≡ true → ⊥) → t ≡ false
not_true true h = absurd (h refl)
not_true false h = refl

-- of two forms that are apart one at most fits the bytes
pub apart_first : (ps qs : List Part) (bs : List ℕ) → are_apart ps qs ≡ true → fit ps bs ≡ Whole → fit qs bs ≡ Apart
apart_first [] qs bs e w = absurd cc
apart_first (p ∷ ps) [] bs e w = absurd cc
apart_first (p ∷ ps) (q ∷ qs) [] e w = absurd cc
apart_first (p ∷ ps) (q ∷ qs) (b ∷ bs) e w =
    let t = whole_test (admits p b) (fit ps bs) w in
    elim (either (none_common p q) (are_apart ps qs) e) [
      | inl here ↦ stopped (admits q b) (fit qs bs) (not_true (admits q b) (λ y. none_admitted p q b here t.0 y))
      | inr later ↦ apart_either (admits q b) (fit qs bs) (apart_first ps qs bs later t.1)
    ]

pub apart_second : (ps qs : List Part) (bs : List ℕ) → are_apart ps qs ≡ true → fit qs bs ≡ Whole → fit ps bs ≡ Apart
apart_second [] qs bs e w = absurd cc
apart_second (p ∷ ps) [] bs e w = absurd cc
apart_second (p ∷ ps) (q ∷ qs) [] e w = absurd cc
apart_second (p ∷ ps) (q ∷ qs) (b ∷ bs) e w =
    let t = whole_test (admits q b) (fit qs bs) w in
    elim (either (none_common p q) (are_apart ps qs) e) [
      | inl here ↦ stopped (admits p b) (fit ps bs) (not_true (admits p b) (λ x. none_admitted p q b here x t.0))
      | inr later ↦ apart_either (admits p b) (fit ps bs) (apart_second ps qs bs later t.1)
    ]
