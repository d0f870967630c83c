-- What stands behind may be cut off.
use Rattle.std.proofs.Common.{◌≡◌, ℕ, ◌+◌, ◌<◌, false, cond, nat_eq, ℤ, List, ◌∷◌, ◌++◌, length, ap, sym, ◌∙◌, subst, append_assoc, arith}
use Rattle.std.specs.List.{prefix_len}
use Rattle.std.proofs.lemmas.Bool.Decides.{nat_tests}
use Rattle.core_text.specs.Bytes.{is_digit, begins}
use Rattle.core_text.specs.Fractions.{fraction_length}
use Rattle.core_text.specs.Prefixes.{AreAll, BeginsWithNone, AreDigits}
use Rattle.core_text.specs.Characters.{IsQuoted, closing, code_point}
use Rattle.core_text.specs.Numbers.{IsExponent, exponent, IsFraction, plain, with_exponent, IsInteger, integer, IsFloat, float}
use Rattle.core_text.proofs.Prefixes.{count_some, begins_less}
use Rattle.core_text.proofs.Points.{point_cut}
use Rattle.core_text.proofs.Fractions.{digits_there, fraction_there}

digits_cut : (ds xs us ws : List ℕ) → AreDigits ds xs → xs ≡ us ++ ws → AreDigits ds us
digits_cut ds xs us ws h e = (h.0, (h.1.0, begins_less is_digit us ws (ap (begins is_digit) (sym e) ∙ h.1.1)))

exponent_cut : (cs xs us ws : List ℕ) → IsExponent cs xs → xs ≡ us ++ ws → IsExponent cs us
exponent_cut cs xs us ws (exponent ds ys mark sign digits) e = exponent ds us mark sign (digits_cut ds xs us ws digits e)

-- where an exponent or a fraction begins a prefix, one begins the whole
exponent_more : (cs us ws : List ℕ) → IsExponent cs us → BeginsWithNone IsExponent (cs ++ us ++ ws) → ⊥
exponent_more cs us ws (exponent {e = e} {ss = ss} ds ys mark sign digits) h =
    let some : 0 < prefix_len is_digit (ds ++ (us ++ ws)) = omega (arith, count_some is_digit ds (us ++ ws) digits.1.0, digits.0) in
    let d = digits_there (ds ++ (us ++ ws)) some in
    let cut : e ∷ ss ++ ds ++ us ++ ws ≡ e ∷ ss ++ d.prefix ++ d.rest =
    ap (λ t. e ∷ t) (append_assoc (ss ++ ds) us ws ∙ append_assoc ss ds (us ++ ws) ∙ ap (λ t. ss ++ t) d.is ∙ sym (append_assoc ss d.prefix d.rest)) in
    h (e ∷ ss ++ d.prefix) d.rest cut (exponent d.prefix d.rest mark sign d.holds)

no_exponent_cut : (us ws : List ℕ) → BeginsWithNone IsExponent (us ++ ws) → BeginsWithNone IsExponent us
no_exponent_cut us ws h cs rest e is = exponent_more cs rest ws is (subst (λ us. BeginsWithNone IsExponent (us ++ ws)) e h)

pub fraction_cut : (cs xs us ws : List ℕ) → IsFraction cs xs → xs ≡ us ++ ws → IsFraction cs us
fraction_cut cs xs us ws (plain {ds = ds} digits ends) e = plain (digits_cut ds xs us ws digits e) (no_exponent_cut us ws (subst (BeginsWithNone IsExponent) e ends))
fraction_cut cs xs us ws (with_exponent ds es ys digits is) e =
    with_exponent ds es us (digits_cut ds (es ++ xs) (es ++ us) ws digits (ap (λ t. es ++ t) e ∙ sym (append_assoc es us ws))) (exponent_cut es xs us ws is e)

positive : (n k : ℕ) → 0 < n → 0 < cond (nat_eq n 0) 0 (n + 1 + k)
positive n k some = let h : nat_eq n 0 ≡ false = grind (arith, nat_tests) in subst (λ b. 0 < cond b 0 (n + 1 + k)) (sym h) (omega arith)

fraction_positive : (ds us : List ℕ) → AreAll is_digit ds → 0 < length ds → 0 < fraction_length (46 ∷ ds ++ us)
fraction_positive ds us all some = positive (prefix_len is_digit (ds ++ us)) _ (omega (arith, count_some is_digit ds us all, some))

fraction_begins : (ds us : List ℕ) → AreAll is_digit ds → 0 < length ds → BeginsWithNone IsFraction (46 ∷ ds ++ us) → ⊥
fraction_begins ds us all some h = let b = fraction_there (46 ∷ ds ++ us) (fraction_positive ds us all some) in h b.prefix b.rest b.is b.holds

fraction_more : (cs us ws : List ℕ) → IsFraction cs us → BeginsWithNone IsFraction (cs ++ us ++ ws) → ⊥
fraction_more cs us ws (plain {ds = ds} digits ends) h = fraction_begins ds (us ++ ws) digits.1.0 digits.0 (subst (λ t. BeginsWithNone IsFraction (46 ∷ t)) (append_assoc ds us ws) h)
fraction_more cs us ws (with_exponent ds es ys digits is) h =
    fraction_begins ds (es ++ (us ++ ws)) digits.1.0 digits.0
    (subst (λ t. BeginsWithNone IsFraction (46 ∷ t)) (append_assoc (ds ++ es) us ws ∙ append_assoc ds es (us ++ ws)) h)

no_fraction_cut : (us ws : List ℕ) → BeginsWithNone IsFraction (us ++ ws) → BeginsWithNone IsFraction us
no_fraction_cut us ws h cs rest e is = fraction_more cs rest ws is (subst (λ us. BeginsWithNone IsFraction (us ++ ws)) e h)

pub integer_cut : (n : ℤ) (cs xs us ws : List ℕ) → IsInteger n cs xs → xs ≡ us ++ ws → IsInteger n cs us
integer_cut n cs xs us ws (integer ds ys sign digits ends) e = integer ds us sign (digits_cut ds xs us ws digits e) (no_fraction_cut us ws (subst (BeginsWithNone IsFraction) e ends))

pub float_cut : (cs xs us ws : List ℕ) → IsFloat cs xs → xs ≡ us ++ ws → IsFloat cs us
float_cut cs xs us ws (float ds fs ys sign digits is) e =
    float ds fs us sign (digits_cut ds (fs ++ xs) (fs ++ us) ws digits (ap (λ t. fs ++ t) e ∙ sym (append_assoc fs us ws))) (fraction_cut fs xs us ws is e)

pub quoted_cut : (quote : ℕ) (vs cs xs us ws : List ℕ) → IsQuoted quote vs cs xs → xs ≡ us ++ ws → IsQuoted quote vs cs us
quoted_cut quote vs cs xs us ws closing e = closing
quoted_cut quote vs cs xs us ws (code_point {v = v} {vs = ys} {cs = ds} {ds = es} is other rest) e =
    code_point (point_cut v ds (es ++ xs) (es ++ us) ws is (ap (λ t. es ++ t) e ∙ sym (append_assoc es us ws))) other (quoted_cut quote ys es xs us ws rest e)
