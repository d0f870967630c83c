-- Each token of a text stands in it and has its value.
use Rattle.std.proofs.Common.{◌≡◌, ℕ, zero, suc, ◌+◌, ◌-◌, ◌≤◌, Bool, true, false, cond, nat_eq, ℤ, List, [], ◌∷◌, ◌++◌, length, take, drop, Some, None, refl, ap, sym, ◌∙◌, subst, length-append, arith, Result, Ok, Err, IfOk}
use Rattle.std.specs.Prelude.{All}
use Rattle.std.specs.List.{AllByRecursion}
use Rattle.std.specs.Str.{all_scalars}
use Rattle.std.proofs.lemmas.Bool.Decides.{nat_tests}
use Rattle.std.proofs.lemmas.List.{append-nil, take_at, drop_at, drop-drop}
use Rattle.hipe_base.specs.declared.limits.TheConstants.{ATOM_LIMIT}
use Rattle.hipe_terms.specs.declared.place.Place.{Place}
use Rattle.hipe_terms.specs.Range.{is_in_range}
use Rattle.core_text.specs.Places.{start, place_after}
use Rattle.core_text.specs.Bytes.{is_digit, number_from}
use Rattle.core_text.specs.CodePoints.{code_point_at, values_between}
use Rattle.core_text.specs.Prefixes.{AreDigits}
use Rattle.core_text.specs.Characters.{IsCodePoint, IsQuoted}
use Rattle.core_text.specs.Numbers.{IsSign, none, plus, minus, signed, IsInteger, integer as spelled_integer}
use Rattle.core_text.proofs.Points.{point_read, point_cut}
use Rattle.core_text.proofs.Quoting.{values_read, quoted_some}
use Rattle.core_text.proofs.Scalars.{point_scalar, quoted_scalars}
use Rattle.core_token.specs.declared.token.Sort.{Sort}
use Rattle.core_token.specs.declared.token.Token.{Token}
use Rattle.core_token.specs.Lexemes.{greatest_integer, farthest_below}
use Rattle.core_token.specs.Spelling.{IsAtom, quoted, Spells, atom, text, character, variable, integer, float, keyword, sign, dash_sign}
use Rattle.core_token.specs.Values.{decimal, positive, negative, integer_of, value_of, character_of, code_points_of, HasValue}
use Rattle.core_token.specs.declared.token.TokenFault.{TokenFault}
use Rattle.core_token.specs.Reading.{read, Answers}
use Rattle.core_token.specs.Text.{HasTokens, nothing, blank, token, AreTokensOf, StandsIn, AreInOrder}
use Rattle.core_token.proofs.Spelled.{most, in_range}
use Rattle.core_token.proofs.Sizes.{token_some}
use Rattle.core_token.proofs.Cuts.{tokens_read}

-- integers
decimal_there : (b : Bool) (ds : List ℕ) → is_in_range (signed b (number_from 10 0 ds)) ≡ true → decimal (most b) ds ≡ Some (number_from 10 0 ds)
decimal_there b ds few = ap (λ x. cond x (Some (number_from 10 0 ds)) None) (sym (in_range b (number_from 10 0 ds)) ∙ few)

digit_45 : (c : ℕ) → is_digit c ≡ true → nat_eq c 45 ≡ false
digit_45 c is = grind (arith, nat_tests)

digit_43 : (c : ℕ) → is_digit c ≡ true → nat_eq c 43 ≡ false
digit_43 c is = grind (arith, nat_tests)

signed_there : (ss ds us : List ℕ) (b : Bool) → IsSign ss b → AreDigits ds us → is_in_range (signed b (number_from 10 0 ds)) ≡ true → integer_of (ss ++ ds) ≡ Some (signed b (number_from 10 0 ds))
unfolding integer_of
signed_there ss [] us b none digits few = absurd (omega (arith, digits.0))
signed_there ss (d ∷ ds) us b none digits few =
    let p = positive (decimal greatest_integer (d ∷ ds)) in
    ap (λ x. cond x (negative (decimal farthest_below ds)) (cond (nat_eq d 43) (positive (decimal greatest_integer ds)) p)) (digit_45 d digits.1.0.0)
    ∙ ap (λ x. cond x (positive (decimal greatest_integer ds)) p) (digit_43 d digits.1.0.0) ∙ ap positive (decimal_there false (d ∷ ds) few)
signed_there ss ds us b plus digits few = ap positive (decimal_there false ds few)
signed_there ss ds us b minus digits few = ap negative (decimal_there true ds few)

pub integer_there : (n : ℤ) (cs us : List ℕ) → IsInteger n cs us → is_in_range n ≡ true → integer_of cs ≡ Some n
integer_there n cs us (spelled_integer {ss = ss} {b = b} ds vs is digits ends) few = signed_there ss ds us b is digits few

-- characters
pub character_there : (v : ℕ) (cs us : List ℕ) → IsCodePoint v cs us → character_of (36 ∷ cs) ≡ Some v
unfolding character_of
character_there v cs us is = ap value_of (ap code_point_at (sym (append-nil cs)) ∙ point_read v cs [] (point_cut v cs us [] us is refl))

-- atoms and texts
quoted_there : (quote mark : ℕ) (vs cs us : List ℕ) → IsQuoted quote vs cs us → code_points_of (mark ∷ cs) ≡ vs
unfolding code_points_of
quoted_there quote mark vs cs us is =
    let e : length (mark ∷ cs) - 2 ≡ length cs - 1 = omega arith in
    ap (λ n. values_between (take n cs)) e ∙ values_read quote vs cs us is

pub atom_there : (vs cs us : List ℕ) → IsAtom vs cs us → code_points_of cs ≡ vs
atom_there vs cs us (quoted {cs = ds} is) = quoted_there 39 39 vs ds us is

pub text_there : (vs cs us : List ℕ) → IsQuoted 34 vs cs us → code_points_of (34 ∷ cs) ≡ vs
text_there vs cs us is = quoted_there 34 34 vs cs us is

atom_scalars : (vs cs us : List ℕ) → IsAtom vs cs us → all_scalars vs ≡ true
atom_scalars vs cs us (quoted {cs = ds} is) = quoted_scalars 39 vs ds us is

atom_long : (vs cs us : List ℕ) → IsAtom vs cs us → 2 ≤ length cs
atom_long vs cs us (quoted {cs = ds} is) = omega (arith, quoted_some 39 vs ds us is)

-- a token's value is there
pub valued : (sort : Sort) (cs us : List ℕ) → Spells sort cs us → HasValue sort cs
valued sort cs us (atom {vs = vs} is few) =
    let e = sym (atom_there vs cs us is) in
    (atom_long vs cs us is, subst (λ vs. length vs ≤ ATOM_LIMIT) e few, subst (λ vs. all_scalars vs ≡ true) e (atom_scalars vs cs us is))
valued sort cs us (text {vs = vs} {cs = ds} is) =
    (omega (arith, quoted_some 34 vs ds us is), subst (λ vs. all_scalars vs ≡ true) (sym (text_there vs ds us is)) (quoted_scalars 34 vs ds us is))
valued sort cs us (character {v = v} {cs = ds} is) = (v, character_there v ds us is, point_scalar v ds us is)
valued sort cs us (variable first h) = tt
valued sort cs us (integer {n = n} is few) = (n, integer_there n cs us is few, few)
valued sort cs us (float is) = tt
valued sort cs us (keyword is ends) = tt
valued sort cs us (sign is) = tt
valued sort cs us (dash_sign is) = tt

-- tokens stand in their text
abbrev pub Behind : List ℕ → List ℕ → ℕ → Type 0
Behind whole s i = (drop i whole ≡ s) × (i + length s ≡ length whole)

further : (whole cs us : List ℕ) (i : ℕ) → Behind whole (cs ++ us) i → Behind whole us (i + length cs)
further whole cs us i h =
    (sym (drop-drop (length cs) i whole) ∙ ap (drop (length cs)) h.0 ∙ drop_at cs us (length cs) refl, omega (arith, h.1, length-append cs us))

stands_at : (whole cs us : List ℕ) (sort : Sort) (p : Place) (i : ℕ) → Behind whole (cs ++ us) i → Spells sort cs us
    → StandsIn whole (record { sort = sort; at = p; start = i; end = i + length cs })
stands_at whole cs us sort p i h is =
    let n = length cs in
    let size : i + n - i ≡ n = omega arith in
    let bytes : cs ≡ take (i + n - i) (drop i whole) = sym (ap (λ k. take k (drop i whole)) size ∙ ap (take n) h.0 ∙ take_at cs us n refl) in
    let rest : us ≡ drop (i + n) whole = sym ((further whole cs us i h).0) in
    record {
      some = omega (arith, token_some sort cs us is);
      within = omega (arith, h.1, length-append cs us);
      spelled = subst (λ us. Spells sort (take (i + n - i) (drop i whole)) us) rest (subst (λ cs. Spells sort cs us) bytes is);
      value = subst (HasValue sort) bytes (valued sort cs us is);
    }

stand_from : (whole s : List ℕ) (i : ℕ) (p : Place) (ts : List Token) → HasTokens s i p ts → Behind whole s i → AllByRecursion (StandsIn whole) ts
stand_from whole s i p ts nothing h = tt
stand_from whole s i p ts (blank {cs = cs} {us = us} is rest) h = stand_from whole us (i + length cs) (place_after p cs) ts rest (further whole cs us i h)
stand_from whole s i p ts (token {sort = sort} {cs = cs} {us = us} {ts = vs} is rest) h =
    (stands_at whole cs us sort p i h is, stand_from whole us (i + length cs) (place_after p cs) vs rest (further whole cs us i h))

each : {X : Type 0} (P : X → Type 0) (xs : List X) → AllByRecursion P xs → All P xs
each P [] all k d lt = absurd (omega (arith, lt))
each P (x ∷ xs) all zero d lt = all.0
each P (x ∷ xs) all (suc k) d lt = each P xs all.1 k d (omega (arith, lt))

pub stand : (s : List ℕ) (ts : List Token) → AreTokensOf s ts → All (StandsIn s) ts
stand s ts h = each (StandsIn s) ts (stand_from s s 0 start ts h.1 (refl, omega arith))

order_from : (s : List ℕ) (i k : ℕ) (p : Place) (ts : List Token) → HasTokens s i p ts → k ≤ i → AreInOrder k ts
order_from s i k p ts nothing le = tt
order_from s i k p ts (blank {cs = cs} {us = us} is rest) le = order_from us (i + length cs) k (place_after p cs) ts rest (omega (arith, le))
order_from s i k p ts (token {sort = sort} {cs = cs} {us = us} {ts = vs} is rest) le =
    (le, omega (arith, token_some sort cs us is), order_from us (i + length cs) (i + length cs) (place_after p cs) vs rest (omega arith))

pub in_order : (s : List ℕ) (ts : List Token) → AreTokensOf s ts → AreInOrder 0 ts
in_order s ts h = order_from s 0 0 start ts h.1 (omega arith)

-- of what a call answers
pub stand_answered : (s : List ℕ) (r : Result (List Token) TokenFault) → Answers (read s) r → IfOk r (λ ts. All (StandsIn s) ts)
stand_answered s (Ok ts) h = stand s ts (tokens_read s ts h)
stand_answered s (Err f) h = tt

pub order_answered : (s : List ℕ) (r : Result (List Token) TokenFault) → Answers (read s) r → IfOk r (λ ts. AreInOrder 0 ts)
order_answered s (Ok ts) h = in_order s ts (tokens_read s ts h)
order_answered s (Err f) h = tt
