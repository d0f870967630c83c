-- Numbers in decimal digits.
use Rattle.std.proofs.Common.{◌≡◌, ℕ, ◌+◌, ◌-◌, ◌*◌, ◌^◌, ◌<◌, ◌≤◌, ◌⊎◌, inl, inr, Bool, true, false, drop, get_or, length, List, [], ◌∷◌, Option, Some, None, refl, sym, ap, ◌∙◌, arith}
use Rattle.std.proofs.lemmas.Bool.Decides.{nat_tests}
use Rattle.std.proofs.lemmas.List.{at_drop_more, drop_all}
use Rattle.std.specs.Prelude.{if◌then◌else◌, nat_lt}
use Rattle.eval_source.specs.Arguments.{with_digits, that_fits, is_digit}

digit_then : (d : Bool) (o : Option ℕ) (m k : ℕ) → (o ≡ Some m → k ≤ m) → (if d then o else None) ≡ Some m → k ≤ m
digit_then true o m k h e = h e
digit_then false o m k h e = absurd (cc)

-- a number with digits behind it is no less
no_less : (n : ℕ) (bs : List ℕ) (m : ℕ) → with_digits n bs ≡ Some m → n ≤ m
no_less n [] m e = let h : n ≡ m = cc in omega (arith, h)
no_less n (b ∷ bs) m e = digit_then (is_digit b) (with_digits (n * 10 + (b - 48)) bs) m n (λ f. let h : n * 10 + (b - 48) ≤ m = no_less (n * 10 + (b - 48)) bs m f in omega (arith, h)) e

wide_test : (b : Bool) (n : ℕ) → b ≡ false → (if b then Some n else None) ≡ None
wide_test true n e = absurd (cc)
wide_test false n e = refl

wide_at : (o : Option ℕ) → ((m : ℕ) → o ≡ Some m → 2 ^ 64 ≤ m) → that_fits o ≡ None
wide_at None h = refl
wide_at (Some m) h = let wide : 2 ^ 64 ≤ m = h m refl in wide_test (nat_lt m (2 ^ 64)) m (grind (arith, nat_tests))

-- one that has more than 64 bits stays so
pub wide_stays : (n : ℕ) (bs : List ℕ) → 2 ^ 64 ≤ n → that_fits (with_digits n bs) ≡ None
wide_stays n bs h = wide_at (with_digits n bs) (λ m e. let le : n ≤ m = no_less n bs m e in omega (arith, le, h))

digit_test : (d : Bool) (o : Option ℕ) → d ≡ false → that_fits (if d then o else None) ≡ None
digit_test true o e = absurd (cc)
digit_test false o e = refl

-- no number has such a digit next
pub no_digit : (n b : ℕ) (bs : List ℕ) → (is_digit b ≡ false) ⊎ (2 ^ 64 ≤ n * 10 + (b - 48)) → that_fits (with_digits n (b ∷ bs)) ≡ None
no_digit n b bs (inl e) = digit_test (is_digit b) (with_digits (n * 10 + (b - 48)) bs) e
no_digit n b bs (inr h) = wide_next (is_digit b)
  where
    wide_next : (d : Bool) → that_fits (if d then with_digits (n * 10 + (b - 48)) bs else None) ≡ None
    wide_next true = wide_stays (n * 10 + (b - 48)) bs h
    wide_next false = refl

pub one_digit : (n b : ℕ) (bs : List ℕ) → is_digit b ≡ true → with_digits n (b ∷ bs) ≡ with_digits (n * 10 + (b - 48)) bs
one_digit n b bs e = of (is_digit b) e
  where
    of : (d : Bool) → d ≡ true → (if d then with_digits (n * 10 + (b - 48)) bs else None) ≡ with_digits (n * 10 + (b - 48)) bs
    of true e = refl
    of false e = absurd (cc)

pub digit_stops : (ds : List ℕ) (i n : ℕ) → i < length ds → (is_digit (get_or ds i 0) ≡ false) ⊎ (2 ^ 64 ≤ n * 10 + (get_or ds i 0 - 48)) → with_digits n (drop i ds) ≡ with_digits 0 ds
    → None ≡ that_fits (with_digits 0 ds)
digit_stops ds i n h e is = sym (ap that_fits (sym is) ∙ at_drop_more (λ l. that_fits (with_digits n l)) ds i 0 h ∙ no_digit n (get_or ds i 0) (drop (i + 1) ds) e)

pub digit_goes : (ds : List ℕ) (i n m : ℕ) → i < length ds → is_digit (get_or ds i 0) ≡ true → m ≡ n * 10 + (get_or ds i 0 - 48) → with_digits n (drop i ds) ≡ with_digits 0 ds
    → with_digits m (drop (i + 1) ds) ≡ with_digits 0 ds
digit_goes ds i n m h e v is = ap (λ k. with_digits k (drop (i + 1) ds)) v ∙ sym (one_digit n (get_or ds i 0) (drop (i + 1) ds) e) ∙ sym (at_drop_more (with_digits n) ds i 0 h) ∙ is

fits_test : (b : Bool) (n : ℕ) → b ≡ true → Some n ≡ (if b then Some n else None)
fits_test true n e = refl
fits_test false n e = absurd (cc)

pub digits_end : (ds : List ℕ) (i n : ℕ) → length ds ≤ i → n < 2 ^ 64 → with_digits n (drop i ds) ≡ with_digits 0 ds → Some n ≡ that_fits (with_digits 0 ds)
digits_end ds i n h fit is = fits_test (nat_lt n (2 ^ 64)) n (grind (arith, nat_tests)) ∙ ap (λ l. that_fits (with_digits n l)) (sym (drop_all i ds h)) ∙ ap that_fits is

pub ruleset digits = (digit_stops, digit_goes, digits_end)
