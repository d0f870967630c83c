-- Characters: their bytes by table 3-7 of the Unicode Standard are the UTF-8 of their code points.
use Rattle.std.proofs.Common.{◌≡◌, ◌⊎◌, inl, inr, ℕ, suc, ◌+◌, ◌-◌, ◌*◌, ◌/◌, ◌%◌, ◌≤◌, ◌<◌, Bool, true, false, cond, ◌&&◌, nat_le, nat_lt, nat_eq, List, [], ◌∷◌, ◌++◌, length, take, Option, Some, None, refl, ap, sym, ◌∙◌, subst, arith}
use Rattle.std.specs.List.{prefix_len}
use Rattle.std.specs.Char.{IsScalar, encode_utf8}
use Rattle.std.proofs.lemmas.Bool.Decides.{nat_tests}
use Rattle.core_text.specs.declared.utf8.Sequence.{Sequence}
use Rattle.core_text.specs.Bytes.{is_from, is_continuation}
use Rattle.core_text.specs.Utf8.{sequence_of, goes_on, longer_length, character_length}
use Rattle.core_text.specs.declared.code_point.CodePoint.{CodePoint}
use Rattle.core_text.specs.CodePoints.{point, first_bits, with_bits, decoded}
use Rattle.core_text.proofs.Prefixes.{count_some}
use Rattle.core_text.specs.Prefixes.{AreAll, BeginsWith}
use Rattle.core_text.specs.Characters.{IsCharacter}

-- the bytes of characters of two, three and four bytes
pub record Two (c d : ℕ) : Type 0 where
  pub first_low : 194 ≤ c
  pub first_high : c ≤ 223
  pub second_low : 128 ≤ d
  pub second_high : d ≤ 191

pub record Three (c d e : ℕ) : Type 0 where
  pub first_low : 224 ≤ c
  pub first_high : c ≤ 239
  pub second_low : 128 ≤ d
  pub second_high : d ≤ 191
  pub at_224 : c ≡ 224 → 160 ≤ d
  pub at_237 : c ≡ 237 → d ≤ 159
  pub third_low : 128 ≤ e
  pub third_high : e ≤ 191

pub record Four (c d e f : ℕ) : Type 0 where
  pub first_low : 240 ≤ c
  pub first_high : c ≤ 244
  pub second_low : 128 ≤ d
  pub second_high : d ≤ 191
  pub at_240 : c ≡ 240 → 144 ≤ d
  pub at_244 : c ≡ 244 → d ≤ 143
  pub third_low : 128 ≤ e
  pub third_high : e ≤ 191
  pub fourth_low : 128 ≤ f
  pub fourth_high : f ≤ 191

-- their code points
abbrev pub of_two : ℕ → ℕ → ℕ
of_two c d = (c - 192) * 64 + (d - 128)

abbrev pub of_three : ℕ → ℕ → ℕ → ℕ
of_three c d e = ((c - 224) * 64 + (d - 128)) * 64 + (e - 128)

abbrev pub of_four : ℕ → ℕ → ℕ → ℕ → ℕ
of_four c d e f = (((c - 240) * 64 + (d - 128)) * 64 + (e - 128)) * 64 + (f - 128)

lt_true : (a b : ℕ) → a < b → nat_lt a b ≡ true
lt_true a b h = grind (arith, nat_tests)

lt_false : (a b : ℕ) → b ≤ a → nat_lt a b ≡ false
lt_false a b h = grind (arith, nat_tests)

scalar_low : (v : ℕ) → v < 55296 → IsScalar v
scalar_low v h = grind (arith, nat_tests)

scalar_high : (v : ℕ) → 57344 ≤ v → v < 1114112 → IsScalar v
scalar_high v h k = grind (arith, nat_tests)

abbrev pub next : ℕ → ℕ
next v = 128 + v % 64

pub encode_two : (v : ℕ) → 128 ≤ v → v < 2048 → encode_utf8 v ≡ (192 + v / 64) ∷ next v ∷ []
unfolding encode_utf8
encode_two v low high = simp (lt_false v 128 low, lt_true v 2048 high)

pub encode_three : (v : ℕ) → 2048 ≤ v → v < 65536 → encode_utf8 v ≡ (224 + v / 4096) ∷ next (v / 64) ∷ next v ∷ []
unfolding encode_utf8
encode_three v low high = simp (lt_false v 128 (omega arith), lt_false v 2048 low, lt_true v 65536 high)

pub encode_four : (v : ℕ) → 65536 ≤ v → encode_utf8 v ≡ (240 + v / 262144) ∷ next (v / 4096) ∷ next (v / 64) ∷ next v ∷ []
unfolding encode_utf8
encode_four v low = simp (lt_false v 128 (omega arith), lt_false v 2048 (omega arith), lt_false v 65536 low)

pair : (a b c d : ℕ) → a ≡ c → b ≡ d → a ∷ b ∷ [] ≡ c ∷ d ∷ []
pair a b c d p q = cc

triple : (a b c d e f : ℕ) → a ≡ d → b ≡ e → c ≡ f → a ∷ b ∷ c ∷ [] ≡ d ∷ e ∷ f ∷ []
triple a b c d e f p q r = cc

quadruple : (a b c d e f g h : ℕ) → a ≡ e → b ≡ f → c ≡ g → d ≡ h → a ∷ b ∷ c ∷ d ∷ [] ≡ e ∷ f ∷ g ∷ h ∷ []
quadruple a b c d e f g h p q r s = cc

two_is : (c d : ℕ) → Two c d → IsCharacter (of_two c d) (c ∷ d ∷ [])
two_is c d t =
    let v = of_two c d in
    (scalar_low v (omega (arith, t)), encode_two v (omega (arith, t)) (omega (arith, t)) ∙ pair _ _ c d (omega (arith, t)) (omega (arith, t)))

three_scalar : (c d e : ℕ) → Three c d e → (c ≤ 236) ⊎ ((c ≡ 237) ⊎ (238 ≤ c)) → IsScalar (of_three c d e)
three_scalar c d e t (inl h) = scalar_low (of_three c d e) (omega (arith, t, h))
three_scalar c d e t (inr (inl h)) = scalar_low (of_three c d e) (omega (arith, t.first_low, t.second_low, t.at_237 h, t.third_low, t.third_high, h))
three_scalar c d e t (inr (inr h)) = scalar_high (of_three c d e) (omega (arith, t, h)) (omega (arith, t, h))

around : (c n : ℕ) → (c < n) ⊎ ((c ≡ n) ⊎ (n < c))
around c n = grind arith

three_range : (c : ℕ) → (c < 237) ⊎ ((c ≡ 237) ⊎ (237 < c)) → (c ≤ 236) ⊎ ((c ≡ 237) ⊎ (238 ≤ c))
three_range c (inl h) = inl (omega (arith, h))
three_range c (inr (inl h)) = inr (inl h)
three_range c (inr (inr h)) = inr (inr h)

above_224 : (c d e : ℕ) → Three c d e → (c < 224) ⊎ ((c ≡ 224) ⊎ (224 < c)) → 2048 ≤ of_three c d e
above_224 c d e t (inl h) = absurd (omega (arith, t.first_low, h))
above_224 c d e t (inr (inl h)) = omega (arith, t.at_224 h, h)
above_224 c d e t (inr (inr h)) = omega (arith, h)

three_is : (c d e : ℕ) → Three c d e → IsCharacter (of_three c d e) (c ∷ d ∷ e ∷ [])
three_is c d e t =
    let v = of_three c d e in (
      three_scalar c d e t (three_range c (around c 237)),
      encode_three v (above_224 c d e t (around c 224)) (omega (arith, t)) ∙ triple _ _ _ c d e (omega (arith, t)) (omega (arith, t)) (omega (arith, t)),
    )

below_244 : (c d e f : ℕ) → Four c d e f → (c < 244) ⊎ ((c ≡ 244) ⊎ (244 < c)) → of_four c d e f < 1114112
below_244 c d e f t (inl h) = omega (arith, t, h)
below_244 c d e f t (inr (inl h)) = omega (arith, t.at_244 h, t.third_high, t.fourth_high, h)
below_244 c d e f t (inr (inr h)) = absurd (omega (arith, t.first_high, h))

above_240 : (c d e f : ℕ) → Four c d e f → (c < 240) ⊎ ((c ≡ 240) ⊎ (240 < c)) → 65536 ≤ of_four c d e f
above_240 c d e f t (inl h) = absurd (omega (arith, t.first_low, h))
above_240 c d e f t (inr (inl h)) = omega (arith, t.at_240 h, h)
above_240 c d e f t (inr (inr h)) = omega (arith, h)

four_is : (c d e f : ℕ) → Four c d e f → IsCharacter (of_four c d e f) (c ∷ d ∷ e ∷ f ∷ [])
four_is c d e f t =
    let v = of_four c d e f in
    let low : 65536 ≤ v = above_240 c d e f t (around c 240) in (
      scalar_high v (omega (arith, low)) (below_244 c d e f t (around c 244)),
      encode_four v low ∙ quadruple _ _ _ _ c d e f (omega (arith, t)) (omega (arith, t)) (omega (arith, t)) (omega (arith, t)),
    )

-- and the other way round: the bytes of a code point
two_of : (v : ℕ) → 128 ≤ v → v < 2048 → Two (192 + v / 64) (next v)
two_of v low high = record { first_low = omega arith; first_high = omega arith; second_low = omega arith; second_high = omega arith }

three_of : (v : ℕ) → 2048 ≤ v → v < 65536 → (v < 55296) ⊎ (57344 ≤ v) → Three (224 + v / 4096) (next (v / 64)) (next v)
three_of v low high s = record {
  first_low = omega arith;
  first_high = omega arith;
  second_low = omega arith;
  second_high = omega arith;
  at_224 = λ h. omega (arith, h);
  at_237 = λ h. omega (arith, h, s);
  third_low = omega arith;
  third_high = omega arith;
}

four_of : (v : ℕ) → 65536 ≤ v → v < 1114112 → Four (240 + v / 262144) (next (v / 4096)) (next (v / 64)) (next v)
four_of v low high = record {
  first_low = omega arith;
  first_high = omega arith;
  second_low = omega arith;
  second_high = omega arith;
  at_240 = λ h. omega (arith, h);
  at_244 = λ h. omega (arith, h);
  third_low = omega arith;
  third_high = omega arith;
  fourth_low = omega arith;
  fourth_high = omega arith;
}

-- a number of 0 to 127 is itself
pub encode_one : (v : ℕ) → v < 128 → encode_utf8 v ≡ v ∷ []
unfolding encode_utf8
encode_one v h = simp (lt_true v 128 h)

pub one_is : (c : ℕ) → c < 128 → IsCharacter c (c ∷ [])
one_is c h = (scalar_low c (omega (arith, h)), encode_one c h)

-- the code points by the bytes' bits
bits_one : (c : ℕ) → c < 128 → first_bits c ≡ c
bits_one c h = grind (arith, nat_tests)

bits_two : (c d : ℕ) → Two c d → first_bits c ≡ c - 192
bits_two c d t = grind (arith, nat_tests)

bits_three : (c d e : ℕ) → Three c d e → first_bits c ≡ c - 224
bits_three c d e t = grind (arith, nat_tests)

bits_four : (c d e f : ℕ) → Four c d e f → first_bits c ≡ c - 240
bits_four c d e f t = grind (arith, nat_tests)

-- what character_length takes for a character
pub data Shape : ℕ → List ℕ → ℕ → Type 0 where
  one : {c : ℕ} {t : List ℕ} → c < 128 → Shape c t 1
  two : {c d : ℕ} {t : List ℕ} → Two c d → Shape c (d ∷ t) 2
  three : {c d e : ℕ} {t : List ℕ} → Three c d e → Shape c (d ∷ e ∷ t) 3
  four : {c d e f : ℕ} {t : List ℕ} → Four c d e f → Shape c (d ∷ e ∷ f ∷ t) 4

abbrev pub Decoded : ℕ → List ℕ → ℕ → List ℕ → List ℕ → Type 0
Decoded c t n cs us = IsCharacter (with_bits (first_bits c) (take (n - 1) t)) cs

shaped : (c : ℕ) (t : List ℕ) (n : ℕ) → Shape c t n → BeginsWith (Decoded c t n) (c ∷ t) n
shaped c t n (one h) = record { prefix = c ∷ []; rest = t; is = refl; size = refl; holds = subst (λ v. IsCharacter v (c ∷ [])) (sym (bits_one c h)) (one_is c h) }
shaped c t n (two {d = d} {t = u} h) = record {
  prefix = c ∷ d ∷ [];
  rest = u;
  is = refl;
  size = refl;
  holds = subst (λ b. IsCharacter (b * 64 + (d - 128)) (c ∷ d ∷ [])) (sym (bits_two c d h)) (two_is c d h);
}
shaped c t n (three {d = d} {e = e} {t = u} h) = record {
  prefix = c ∷ d ∷ e ∷ [];
  rest = u;
  is = refl;
  size = refl;
  holds = subst (λ b. IsCharacter ((b * 64 + (d - 128)) * 64 + (e - 128)) (c ∷ d ∷ e ∷ [])) (sym (bits_three c d e h)) (three_is c d e h);
}
shaped c t n (four {d = d} {e = e} {f = f} {t = u} h) = record {
  prefix = c ∷ d ∷ e ∷ f ∷ [];
  rest = u;
  is = refl;
  size = refl;
  holds = subst (λ b. IsCharacter (((b * 64 + (d - 128)) * 64 + (e - 128)) * 64 + (f - 128)) (c ∷ d ∷ e ∷ f ∷ [])) (sym (bits_four c d e f h)) (four_is c d e f h);
}

-- a continuation at the beginning
abbrev pub Continues : ℕ → List ℕ → Type 0
Continues k s = (e : ℕ) × (t : List ℕ) × (s ≡ e ∷ t) × (128 ≤ e) × (e ≤ 191) × (k ≤ prefix_len is_continuation t)

continues_step : (k e : ℕ) (t : List ℕ) (b : Bool) → is_continuation e ≡ b → suc k ≤ cond b (1 + prefix_len is_continuation t) 0 → Continues k (e ∷ t)
continues_step k e t true is h = (e, t, refl, grind (arith, nat_tests), grind (arith, nat_tests), omega (arith, h))
continues_step k e t false is h = absurd (omega (arith, h))

continues : (k : ℕ) (s : List ℕ) → suc k ≤ prefix_len is_continuation s → Continues k s
continues k [] h = absurd (omega (arith, h))
continues k (e ∷ t) h = continues_step k e t (is_continuation e) refl h

-- what goes on as a sequence
abbrev pub GoesOn : Sequence → List ℕ → ℕ → Type 0
GoesOn q t n = (d : ℕ) × (u : List ℕ) × (t ≡ d ∷ u) × (q.low ≤ d) × (d ≤ q.high) × (q.more ≤ prefix_len is_continuation u) × (n ≡ q.more + 2)

goes_test : (q : Sequence) (d k : ℕ) → (nat_le q.low d && nat_le d q.high && nat_le q.more k) ≡ true → (q.low ≤ d) × (d ≤ q.high) × (q.more ≤ k)
goes_test q d k h = (grind (arith, nat_tests), grind (arith, nat_tests), grind (arith, nat_tests))

some_same : (k n : ℕ) (o : Option ℕ) → o ≡ Some k → o ≡ Some n → n ≡ k
some_same k n o f g = cc

goes_step : (q : Sequence) (t : List ℕ) (n : ℕ) (b : Bool) → goes_on q t ≡ b → cond b (Some (q.more + 2)) None ≡ Some n → GoesOn q t n
goes_step q [] n true is h = absurd (cc)
goes_step q (d ∷ u) n true is h =
    let g = goes_test q d (prefix_len is_continuation u) is in
    (d, u, refl, g.0, g.1, g.2, some_same (q.more + 2) n (Some (q.more + 2)) refl h)
goes_step q t n false is h = absurd (cc)

goes : (q : Sequence) (t : List ℕ) (n : ℕ) → longer_length (Some q) t ≡ Some n → GoesOn q t n
goes q t n h = goes_step q t n (goes_on q t) refl h

-- sequences of two, three and four bytes
shape_two : (c : ℕ) (t : List ℕ) (n : ℕ) (q : Sequence) → GoesOn q t n → q.more ≡ 0 → ((d : ℕ) → q.low ≤ d → d ≤ q.high → Two c d) → Shape c t n
shape_two c t n q g more h =
    let e : 2 ≡ n = omega (arith, g.6, more) in
    subst (λ n. Shape c t n) e (subst (λ t. Shape c t 2) (sym g.2) (two (h g.0 g.3 g.4)))

shape_three : (c : ℕ) (t : List ℕ) (n : ℕ) (q : Sequence) → GoesOn q t n → q.more ≡ 1 → ((d e : ℕ) → q.low ≤ d → d ≤ q.high → 128 ≤ e → e ≤ 191 → Three c d e) → Shape c t n
shape_three c t n q g more h =
    let e : 3 ≡ n = omega (arith, g.6, more) in
    let k = continues 0 g.1 (omega (arith, g.5, more)) in
    subst (λ n. Shape c t n) e (subst (λ t. Shape c t 3) (sym (g.2 ∙ ap (λ u. g.0 ∷ u) k.2)) (three (h g.0 k.0 g.3 g.4 k.3 k.4)))

shape_four : (c : ℕ) (t : List ℕ) (n : ℕ) (q : Sequence) → GoesOn q t n → q.more ≡ 2
    → ((d e f : ℕ) → q.low ≤ d → d ≤ q.high → 128 ≤ e → e ≤ 191 → 128 ≤ f → f ≤ 191 → Four c d e f) → Shape c t n
shape_four c t n q g more h =
    let e : 4 ≡ n = omega (arith, g.6, more) in
    let k = continues 1 g.1 (omega (arith, g.5, more)) in
    let l = continues 0 k.1 k.5 in
    subst (λ n. Shape c t n) e (subst (λ t. Shape c t 4) (sym (g.2 ∙ ap (λ u. g.0 ∷ u) (k.2 ∙ ap (λ u. k.0 ∷ u) l.2))) (four (h g.0 k.0 l.0 g.3 g.4 k.3 k.4 l.3 l.4)))

-- by the first byte
by : (c : ℕ) (t : List ℕ) (n : ℕ) (b : Bool) (x y : Option Sequence) → (b ≡ true → longer_length x t ≡ Some n → Shape c t n) → (b ≡ false → longer_length y t ≡ Some n → Shape c t n)
    → longer_length (cond b x y) t ≡ Some n → Shape c t n
by c t n true x y f g h = f refl h
by c t n false x y f g h = g refl h

longer_shape : (c : ℕ) (t : List ℕ) (n : ℕ) → longer_length (sequence_of c) t ≡ Some n → Shape c t n
longer_shape c t n =
    by c t n (is_from 194 223 c) _ _
    (λ is h. shape_two c t n _ (goes _ t n h) refl (λ d low high. record { first_low = grind (arith, nat_tests); first_high = grind (arith, nat_tests); second_low = low; second_high = high }))
    (λ no2. by c t n (nat_eq c 224) _ _
    (λ is h. let e : c ≡ 224 = grind (arith, nat_tests) in
    shape_three c t n _ (goes _ t n h) refl (λ d e2 low high tl th. record {
      first_low = omega (arith, e);
      first_high = omega (arith, e);
      second_low = omega (arith, low);
      second_high = high;
      at_224 = λ _. low;
      at_237 = λ w. absurd (omega (arith, w, e));
      third_low = tl;
      third_high = th;
    }))
    (λ not_224. let n224 : c ≡ 224 → ⊥ = λ w. grind (arith, nat_tests) in
    by c t n (nat_eq c 237) _ _
    (λ is h. let e : c ≡ 237 = grind (arith, nat_tests) in
    shape_three c t n _ (goes _ t n h) refl (λ d e2 low high tl th. record {
      first_low = omega (arith, e);
      first_high = omega (arith, e);
      second_low = low;
      second_high = omega (arith, high);
      at_224 = λ w. absurd (omega (arith, w, e));
      at_237 = λ _. high;
      third_low = tl;
      third_high = th;
    }))
    (λ not_237. let n237 : c ≡ 237 → ⊥ = λ w. grind (arith, nat_tests) in
    by c t n (is_from 225 239 c) _ _
    (λ is h. shape_three c t n _ (goes _ t n h) refl (λ d e2 low high tl th. record {
      first_low = grind (arith, nat_tests);
      first_high = grind (arith, nat_tests);
      second_low = low;
      second_high = high;
      at_224 = λ w. absurd (n224 w);
      at_237 = λ w. absurd (n237 w);
      third_low = tl;
      third_high = th;
    }))
    (λ no3. by c t n (nat_eq c 240) _ _
    (λ is h. let e : c ≡ 240 = grind (arith, nat_tests) in
    shape_four c t n _ (goes _ t n h) refl (λ d e2 f low high tl th ul uh. record {
      first_low = omega (arith, e);
      first_high = omega (arith, e);
      second_low = omega (arith, low);
      second_high = high;
      at_240 = λ _. low;
      at_244 = λ w. absurd (omega (arith, w, e));
      third_low = tl;
      third_high = th;
      fourth_low = ul;
      fourth_high = uh;
    }))
    (λ not_240. let n240 : c ≡ 240 → ⊥ = λ w. grind (arith, nat_tests) in
    by c t n (is_from 241 243 c) _ _
    (λ is h. let low_first : 241 ≤ c = grind (arith, nat_tests) in
    let high_first : c ≤ 243 = grind (arith, nat_tests) in
    shape_four c t n _ (goes _ t n h) refl (λ d e2 f low high tl th ul uh. record {
      first_low = omega (arith, low_first);
      first_high = omega (arith, high_first);
      second_low = low;
      second_high = high;
      at_240 = λ w. absurd (omega (arith, w, low_first));
      at_244 = λ w. absurd (omega (arith, w, high_first));
      third_low = tl;
      third_high = th;
      fourth_low = ul;
      fourth_high = uh;
    }))
    (λ no4. by c t n (nat_eq c 244) _ _
    (λ is h. let e : c ≡ 244 = grind (arith, nat_tests) in
    shape_four c t n _ (goes _ t n h) refl (λ d e2 f low high tl th ul uh. record {
      first_low = omega (arith, e);
      first_high = omega (arith, e);
      second_low = low;
      second_high = omega (arith, high);
      at_240 = λ w. absurd (omega (arith, w, e));
      at_244 = λ _. high;
      third_low = tl;
      third_high = th;
      fourth_low = ul;
      fourth_high = uh;
    }))
    (λ not_244 h. absurd (cc))))))))

first_shape : (c : ℕ) (t : List ℕ) (n : ℕ) (b : Bool) → nat_le c 127 ≡ b → cond b (Some 1) (longer_length (sequence_of c) t) ≡ Some n → Shape c t n
first_shape c t n true is h = subst (λ n. Shape c t n) (sym (some_same 1 n (Some 1) refl h)) (one (grind (arith, nat_tests)))
first_shape c t n false is h = longer_shape c t n h

-- the character at the beginning is decoded as its code point
pub decoded_there : (c : ℕ) (t : List ℕ) (n : ℕ) → character_length (c ∷ t) ≡ Some n → BeginsWith (Decoded c t n) (c ∷ t) n
unfolding character_length
decoded_there c t n h = shaped c t n (first_shape c t n (nat_le c 127) refl h)

-- and the other way round: a character is taken whole, and as its code point
continuation : (d : ℕ) → 128 ≤ d → d ≤ 191 → is_continuation d ≡ true
continuation d low high = grind (arith, nat_tests)

first_long : (c : ℕ) (t : List ℕ) (r : Option ℕ) → 128 ≤ c → longer_length (sequence_of c) t ≡ r → character_length (c ∷ t) ≡ r
unfolding character_length
first_long c t r low h = let e : nat_le c 127 ≡ false = grind (arith, nat_tests) in ap (λ b. cond b (Some 1) (longer_length (sequence_of c) t)) e ∙ h

goes_test_on : (q : Sequence) (d k : ℕ) → q.low ≤ d → d ≤ q.high → q.more ≤ k → (nat_le q.low d && nat_le d q.high && nat_le q.more k) ≡ true
goes_test_on q d k low high more = grind (arith, nat_tests)

long : (c d n : ℕ) (u : List ℕ) (q : Sequence) → 128 ≤ c → sequence_of c ≡ Some q → q.low ≤ d → d ≤ q.high → q.more ≤ prefix_len is_continuation u → q.more + 2 ≡ n → character_length (c ∷ d ∷ u) ≡ Some n
long c d n u q big is low high more size =
    first_long c (d ∷ u) (Some n) big
    (ap (λ q. longer_length q (d ∷ u)) is ∙ ap (λ b. cond b (Some (q.more + 2)) None) (goes_test_on q d (prefix_len is_continuation u) low high more) ∙ ap Some size)

two_taken : (c d : ℕ) (us : List ℕ) → Two c d → character_length (c ∷ d ∷ us) ≡ Some 2
two_taken c d us t =
    let q : Sequence = record { low = 128; high = 191; more = 0 } in
    let is : sequence_of c ≡ Some q = grind (arith, nat_tests) in
    long c d 2 us q (omega (arith, t)) is t.second_low t.second_high (omega arith) refl

three_more : (e : ℕ) (us : List ℕ) → 128 ≤ e → e ≤ 191 → 1 ≤ prefix_len is_continuation (e ∷ us)
three_more e us low high = count_some is_continuation (e ∷ []) us (continuation e low high, tt)

three_taken_by : (c d e : ℕ) (us : List ℕ) → Three c d e → (c < 224) ⊎ ((c ≡ 224) ⊎ (224 < c)) → (c < 237) ⊎ ((c ≡ 237) ⊎ (237 < c)) → character_length (c ∷ d ∷ e ∷ us) ≡ Some 3
three_taken_by c d e us t (inl h) k = absurd (omega (arith, t.first_low, h))
three_taken_by c d e us t (inr (inl h)) k =
    let q : Sequence = record { low = 160; high = 191; more = 1 } in
    let is : sequence_of c ≡ Some q = grind (arith, nat_tests) in
    long c d 3 (e ∷ us) q (omega (arith, h)) is (t.at_224 h) t.second_high (three_more e us t.third_low t.third_high) refl
three_taken_by c d e us t (inr (inr h)) (inr (inl k)) =
    let q : Sequence = record { low = 128; high = 159; more = 1 } in
    let is : sequence_of c ≡ Some q = grind (arith, nat_tests) in
    long c d 3 (e ∷ us) q (omega (arith, h)) is t.second_low (t.at_237 k) (three_more e us t.third_low t.third_high) refl
three_taken_by c d e us t (inr (inr h)) (inl k) =
    let q : Sequence = record { low = 128; high = 191; more = 1 } in
    let is : sequence_of c ≡ Some q = grind (arith, nat_tests) in
    long c d 3 (e ∷ us) q (omega (arith, h)) is t.second_low t.second_high (three_more e us t.third_low t.third_high) refl
three_taken_by c d e us t (inr (inr h)) (inr (inr k)) =
    let q : Sequence = record { low = 128; high = 191; more = 1 } in
    let is : sequence_of c ≡ Some q = grind (arith, nat_tests) in
    long c d 3 (e ∷ us) q (omega (arith, h)) is t.second_low t.second_high (three_more e us t.third_low t.third_high) refl

four_more : (e f : ℕ) (us : List ℕ) → 128 ≤ e → e ≤ 191 → 128 ≤ f → f ≤ 191 → 2 ≤ prefix_len is_continuation (e ∷ f ∷ us)
four_more e f us low high low2 high2 = count_some is_continuation (e ∷ f ∷ []) us (continuation e low high, (continuation f low2 high2, tt))

four_taken_by : (c d e f : ℕ) (us : List ℕ) → Four c d e f → (c < 240) ⊎ ((c ≡ 240) ⊎ (240 < c)) → (c < 244) ⊎ ((c ≡ 244) ⊎ (244 < c)) → character_length (c ∷ d ∷ e ∷ f ∷ us) ≡ Some 4
four_taken_by c d e f us t (inl h) k = absurd (omega (arith, t.first_low, h))
four_taken_by c d e f us t (inr (inl h)) k =
    let q : Sequence = record { low = 144; high = 191; more = 2 } in
    let is : sequence_of c ≡ Some q = grind (arith, nat_tests) in
    long c d 4 (e ∷ f ∷ us) q (omega (arith, h)) is (t.at_240 h) t.second_high (four_more e f us t.third_low t.third_high t.fourth_low t.fourth_high) refl
four_taken_by c d e f us t (inr (inr h)) (inl k) =
    let q : Sequence = record { low = 128; high = 191; more = 2 } in
    let is : sequence_of c ≡ Some q = grind (arith, nat_tests) in
    long c d 4 (e ∷ f ∷ us) q (omega (arith, h)) is t.second_low t.second_high (four_more e f us t.third_low t.third_high t.fourth_low t.fourth_high) refl
four_taken_by c d e f us t (inr (inr h)) (inr (inl k)) =
    let q : Sequence = record { low = 128; high = 143; more = 2 } in
    let is : sequence_of c ≡ Some q = grind (arith, nat_tests) in
    long c d 4 (e ∷ f ∷ us) q (omega (arith, h)) is t.second_low (t.at_244 k) (four_more e f us t.third_low t.third_high t.fourth_low t.fourth_high) refl
four_taken_by c d e f us t (inr (inr h)) (inr (inr k)) = absurd (omega (arith, t.first_high, k))

-- the character at the beginning of a text that goes on, decoded
abbrev pub decode : List ℕ → List ℕ → Option CodePoint
decode [] us = None
decode (c ∷ t) us = decoded (character_length (c ∷ t ++ us)) c (t ++ us)

abbrev pub Decodes : ℕ → List ℕ → List ℕ → Type 0
Decodes v us cs = decode cs us ≡ point v (length cs)

found_point : (v w n : ℕ) → v ≡ w → point v n ≡ point w n
found_point v w n e = ap (λ x. point x n) e

decodes_one : (v : ℕ) (us : List ℕ) → v < 128 → Decodes v us (v ∷ [])
unfolding character_length
decodes_one v us h =
    let e : nat_le v 127 ≡ true = grind (arith, nat_tests) in
    ap (λ b. decoded (cond b (Some 1) (longer_length (sequence_of v) us)) v us) e ∙ found_point (first_bits v) v 1 (bits_one v h)

decodes_two : (v c d : ℕ) (us : List ℕ) → Two c d → of_two c d ≡ v → Decodes v us (c ∷ d ∷ [])
decodes_two v c d us t e =
    ap (λ n. decoded n c (d ∷ us)) (two_taken c d us t) ∙ found_point _ v 2 (ap (λ b. b * 64 + (d - 128)) (bits_two c d t) ∙ e)

decodes_three : (v c d e : ℕ) (us : List ℕ) → Three c d e → of_three c d e ≡ v → Decodes v us (c ∷ d ∷ e ∷ [])
decodes_three v c d e us t is =
    ap (λ n. decoded n c (d ∷ e ∷ us)) (three_taken_by c d e us t (around c 224) (around c 237))
    ∙ found_point _ v 3 (ap (λ b. (b * 64 + (d - 128)) * 64 + (e - 128)) (bits_three c d e t) ∙ is)

decodes_four : (v c d e f : ℕ) (us : List ℕ) → Four c d e f → of_four c d e f ≡ v → Decodes v us (c ∷ d ∷ e ∷ f ∷ [])
decodes_four v c d e f us t is =
    ap (λ n. decoded n c (d ∷ e ∷ f ∷ us)) (four_taken_by c d e f us t (around c 240) (around c 244))
    ∙ found_point _ v 4 (ap (λ b. ((b * 64 + (d - 128)) * 64 + (e - 128)) * 64 + (f - 128)) (bits_four c d e f t) ∙ is)

scalar_cases_of : (v : ℕ) → IsScalar v → (v < 55296) ⊎ (57344 ≤ v)
scalar_cases_of v is = grind (arith, nat_tests)

scalar_below : (v : ℕ) → IsScalar v → v < 1114112
scalar_below v is = grind (arith, nat_tests)

decodes_by : (v : ℕ) (us : List ℕ) → IsScalar v → (v < 128) ⊎ ((128 ≤ v) × (v < 2048)) ⊎ ((2048 ≤ v) × (v < 65536)) ⊎ (65536 ≤ v) → Decodes v us (encode_utf8 v)
decodes_by v us is (inl h) = subst (Decodes v us) (sym (encode_one v h)) (decodes_one v us h)
decodes_by v us is (inr (inl (low, high))) = subst (Decodes v us) (sym (encode_two v low high)) (decodes_two v (192 + v / 64) (next v) us (two_of v low high) (omega arith))
decodes_by v us is (inr (inr (inl (low, high)))) =
    subst (Decodes v us) (sym (encode_three v low high)) (decodes_three v (224 + v / 4096) (next (v / 64)) (next v) us (three_of v low high (scalar_cases_of v is)) (omega arith))
decodes_by v us is (inr (inr (inr low))) =
    subst (Decodes v us) (sym (encode_four v low))
    (decodes_four v (240 + v / 262144) (next (v / 4096)) (next (v / 64)) (next v) us (four_of v low (scalar_below v is)) (omega arith))

pub sizes : (v : ℕ) → (v < 128) ⊎ ((128 ≤ v) × (v < 2048)) ⊎ ((2048 ≤ v) × (v < 65536)) ⊎ (65536 ≤ v)
sizes v = grind arith

pub decodes : (v : ℕ) (cs us : List ℕ) → IsCharacter v cs → Decodes v us cs
decodes v cs us (is, e) = subst (Decodes v us) e (decodes_by v us is (sizes v))

-- the bytes of a character but its first
pub next_continues : (v : ℕ) → is_continuation (next v) ≡ true
next_continues v = let low : 128 ≤ next v = omega arith in let high : next v ≤ 191 = omega arith in continuation (next v) low high

abbrev pub Continuing : List ℕ → Type 0
Continuing [] = Unit {0}
Continuing (c ∷ cs) = AreAll is_continuation cs

continuing_by : (v : ℕ) → (v < 128) ⊎ ((128 ≤ v) × (v < 2048)) ⊎ ((2048 ≤ v) × (v < 65536)) ⊎ (65536 ≤ v) → Continuing (encode_utf8 v)
continuing_by v (inl h) = subst Continuing (sym (encode_one v h)) tt
continuing_by v (inr (inl (low, high))) = subst Continuing (sym (encode_two v low high)) (next_continues v, tt)
continuing_by v (inr (inr (inl (low, high)))) = subst Continuing (sym (encode_three v low high)) (next_continues (v / 64), (next_continues v, tt))
continuing_by v (inr (inr (inr low))) = subst Continuing (sym (encode_four v low)) (next_continues (v / 4096), (next_continues (v / 64), (next_continues v, tt)))

pub continues_all : (v c : ℕ) (cs : List ℕ) → IsCharacter v (c ∷ cs) → AreAll is_continuation cs
continues_all v c cs (is, e) = subst Continuing e (continuing_by v (sizes v))
