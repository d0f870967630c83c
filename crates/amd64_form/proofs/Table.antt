-- What the table of forms gives for some bytes.
use Rattle.std.proofs.Common.{◌≡◌, ℕ, zero, suc, Some, Bool, true, List, [], ◌∷◌, length, ◌&&◌, ◌⊎◌, Result, Ok, Err, refl, sym, ap, subst, ◌∙◌, inl, inr}
use Rattle.std.specs.Prelude.{slice_get}
use Rattle.std.specs.List.{list_all}
use Rattle.amd64_form.specs.declared.inst.Inst.{Inst}
use Rattle.amd64_form.specs.declared.decoding.DecodeFault.{DecodeFault}
use Rattle.amd64_form.specs.declared.decoding.DecodeFault.TheVariants.{Short}
use Rattle.amd64_form.specs.declared.form.Fit.{Fit}
use Rattle.amd64_form.specs.declared.form.Fit.TheVariants.{Whole, Prefix, Apart}
use Rattle.amd64_form.specs.declared.form.Form.{Form}
use Rattle.amd64_form.specs.declared.form.TheConstants.{FORMS}
use Rattle.amd64_form.specs.Form.{fit, parts_of, inst_of, reading_by, reading}
use Rattle.amd64_form.proofs.Fit.{are_apart, both, apart_first, apart_second}

-- each two forms are apart
abbrev all_apart : List Form → Bool
all_apart [] = true
all_apart (f ∷ fs) = list_all (λ g. are_apart (parts_of f) (parts_of g)) fs && all_apart fs

forms_apart : all_apart FORMS ≡ true
forms_apart = refl

abbrev pub Has : List Form → Form → Type 0
Has [] f = ⊥
Has (g ∷ gs) f = (f ≡ g) ⊎ Has gs f

pub has_at : (fs : List Form) (k : ℕ) (f : Form) → slice_get fs k ≡ Some f → Has fs f
has_at [] k f e = absurd cc
has_at (g ∷ gs) zero f e = inl cc
has_at (g ∷ gs) (suc k) f e = inr (has_at gs k f e)

abbrev pub fits : Form → List ℕ → Fit
fits f bs = fit (parts_of f) bs

all_at : (test : Form → Bool) (fs : List Form) (f : Form) → list_all test fs ≡ true → Has fs f → test f ≡ true
all_at test [] f e h = absurd h
all_at test (g ∷ gs) f e h =
    let parts = both (test g) (list_all test gs) e in
    elim h [
      | inl same ↦ subst (λ k. test k ≡ true) (sym same) parts.0
      | inr later ↦ all_at test gs f parts.1 later
    ]

-- ---- what is in the table is found

-- the first form that fits, where a form fits whole
whole_found : (fs : List Form) (f : Form) (bs : List ℕ) → all_apart fs ≡ true → Has fs f → fits f bs ≡ Whole → reading fs bs ≡ Ok (inst_of f bs, length (parts_of f))
unfolding reading
whole_found [] f bs e h w = absurd h
whole_found (g ∷ gs) f bs e h w =
    let parts = both (list_all (λ k. are_apart (parts_of g) (parts_of k)) gs) (all_apart gs) e in
    elim h [
      | inl same ↦
          let here : fits g bs ≡ Whole = subst (λ k. fits k bs ≡ Whole) same w in
          let answer : reading (g ∷ gs) bs ≡ Ok (inst_of g bs, length (parts_of g)) = ap (λ v. reading_by v (inst_of g bs) (length (parts_of g)) (reading gs bs)) here in
          subst (λ k. reading (g ∷ gs) bs ≡ Ok (inst_of k bs, length (parts_of k))) (sym same) answer
      | inr later ↦
          let away : fits g bs ≡ Apart = apart_second (parts_of g) (parts_of f) bs (all_at (λ k. are_apart (parts_of g) (parts_of k)) gs f parts.0 later) w in
          ap (λ v. reading_by v (inst_of g bs) (length (parts_of g)) (reading gs bs)) away ∙ whole_found gs f bs parts.1 later w
    ]

prefix_at : (v : Fit) (g : Form) (gs : List Form) (f : Form) (bs : List ℕ) → fits g bs ≡ v → all_apart (g ∷ gs) ≡ true → Has (g ∷ gs) f → fits f bs ≡ Prefix → (Has gs f → reading gs bs ≡ Err Short)
    → reading_by v (inst_of g bs) (length (parts_of g)) (reading gs bs) ≡ Err Short
prefix_at Whole g gs f bs is e h w rest =
    let parts = both (list_all (λ k. are_apart (parts_of g) (parts_of k)) gs) (all_apart gs) e in
    elim h [
      | inl same ↦ let here : fits g bs ≡ Prefix = subst (λ k. fits k bs ≡ Prefix) same w in absurd cc
      | inr later ↦
          let away : fits f bs ≡ Apart = apart_first (parts_of g) (parts_of f) bs (all_at (λ k. are_apart (parts_of g) (parts_of k)) gs f parts.0 later) is in
          absurd cc
    ]
prefix_at Prefix g gs f bs is e h w rest = refl
prefix_at Apart g gs f bs is e h w rest =
    elim h [
      | inl same ↦ let here : fits g bs ≡ Prefix = subst (λ k. fits k bs ≡ Prefix) same w in absurd cc
      | inr later ↦ rest later
    ]

-- a form that may still fit, where a form does
prefix_found : (fs : List Form) (f : Form) (bs : List ℕ) → all_apart fs ≡ true → Has fs f → fits f bs ≡ Prefix → reading fs bs ≡ Err Short
unfolding reading
prefix_found [] f bs e h w = absurd h
prefix_found (g ∷ gs) f bs e h w =
    prefix_at (fits g bs) g gs f bs refl e h w (λ later. prefix_found gs f bs (both (list_all (λ k. are_apart (parts_of g) (parts_of k)) gs) (all_apart gs) e).1 later w)

pub whole_is_read : (f : Form) (bs : List ℕ) → Has FORMS f → fits f bs ≡ Whole → reading FORMS bs ≡ Ok (inst_of f bs, length (parts_of f))
whole_is_read f bs h w = whole_found FORMS f bs forms_apart h w

pub prefix_is_short : (f : Form) (bs : List ℕ) → Has FORMS f → fits f bs ≡ Prefix → reading FORMS bs ≡ Err Short
prefix_is_short f bs h w = prefix_found FORMS f bs forms_apart h w

-- ---- what is found is of a form

abbrev pub IsReadBy : List ℕ → Inst → ℕ → Type 0
IsReadBy bs i n = (f : Form) × (fits f bs ≡ Whole) × (inst_of f bs ≡ i) × (length (parts_of f) ≡ n)

read_at : (v : Fit) (g : Form) (bs : List ℕ) (i : Inst) (n : ℕ) (others : Result (Inst × ℕ) DecodeFault) → fits g bs ≡ v → reading_by v (inst_of g bs) (length (parts_of g)) others ≡ Ok (i, n) → (others ≡ Ok (i, n) → IsReadBy bs i n) → IsReadBy bs i n
read_at Whole g bs i n others is e rest =
    let same : (inst_of g bs, length (parts_of g)) ≡ (i, n) = cc in
    (g, is, ap (λ (x : Inst × ℕ). x.0) same, ap (λ (x : Inst × ℕ). x.1) same)
read_at Prefix g bs i n others is e rest = absurd cc
read_at Apart g bs i n others is e rest = rest e

pub read_is_whole : (fs : List Form) (bs : List ℕ) (i : Inst) (n : ℕ) → reading fs bs ≡ Ok (i, n) → IsReadBy bs i n
unfolding reading
read_is_whole [] bs i n e = absurd cc
read_is_whole (g ∷ gs) bs i n e = read_at (fits g bs) g bs i n (reading gs bs) refl e (read_is_whole gs bs i n)

short_at : (v : Fit) (g : Form) (bs : List ℕ) (others : Result (Inst × ℕ) DecodeFault) → fits g bs ≡ v → reading_by v (inst_of g bs) (length (parts_of g)) others ≡ Err Short → (others ≡ Err Short → (f : Form) × (fits f bs ≡ Prefix)) → (f : Form) × (fits f bs ≡ Prefix)
short_at Whole g bs others is e rest = absurd cc
short_at Prefix g bs others is e rest = (g, is)
short_at Apart g bs others is e rest = rest e

pub short_is_prefix : (fs : List Form) (bs : List ℕ) → reading fs bs ≡ Err Short → (f : Form) × (fits f bs ≡ Prefix)
unfolding reading
short_is_prefix [] bs e = absurd cc
short_is_prefix (g ∷ gs) bs e = short_at (fits g bs) g bs (reading gs bs) refl e (short_is_prefix gs bs)
