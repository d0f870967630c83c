-- White space and comments.
use Rattle.std.proofs.Common.{◌≡◌, ◌⊎◌, inl, inr, ℕ, ◌+◌, ◌<◌, Bool, true, false, cond, nat_eq, List, [], ◌∷◌, ◌++◌, length, Err, refl, ap, sym, subst, arith}
use Rattle.std.specs.List.{prefix_len}
use Rattle.std.proofs.lemmas.Bool.Decides.{nat_tests}
use Rattle.core_text.specs.Bytes.{is_space, is_before_line_end}
use Rattle.core_text.specs.Prefixes.{BeginsWith, ArePassing}
use Rattle.core_text.proofs.Prefixes.{passing, count, behind_byte}
use Rattle.core_token.specs.declared.token.TokenKind.TheVariants.{Token}
use Rattle.core_token.specs.Lexemes.{unquoted_at, lexeme_at}
use Rattle.core_token.specs.Reading.{blank_length}
use Rattle.core_token.specs.Spelling.{IsBlank, space, comment}
use Rattle.core_text.proofs.Standing.{is_equal}

comment_there : (s : List ℕ) → BeginsWith IsBlank (37 ∷ s) (prefix_len is_before_line_end s + 1)
comment_there s = behind_byte (ArePassing is_before_line_end) IsBlank 37 (prefix_len is_before_line_end s) s (λ cs us h. comment h) (passing is_before_line_end s)

comment_by : (c : ℕ) (s : List ℕ) (b : Bool) → nat_eq c 37 ≡ b → 0 < cond b (prefix_len is_before_line_end s + 1) 0 → BeginsWith IsBlank (c ∷ s) (cond b (prefix_len is_before_line_end s + 1) 0)
comment_by c s true is some = subst (λ c. BeginsWith IsBlank (c ∷ s) (prefix_len is_before_line_end s + 1)) (is_equal c 37 is) (comment_there s)
comment_by c s false is some = absurd (omega (arith, some))

blank_by : (c : ℕ) (s : List ℕ) (b : Bool) → is_space c ≡ b → 0 < cond b 1 (cond (nat_eq c 37) (prefix_len is_before_line_end s + 1) 0)
    → BeginsWith IsBlank (c ∷ s) (cond b 1 (cond (nat_eq c 37) (prefix_len is_before_line_end s + 1) 0))
blank_by c s true is some = record { prefix = c ∷ []; rest = s; is = refl; size = refl; holds = space is }
blank_by c s false is some = comment_by c s (nat_eq c 37) refl some

-- blanks that are counted are there
pub blank_there : (s : List ℕ) → 0 < blank_length s → BeginsWith IsBlank s (blank_length s)
blank_there [] some = absurd (omega (arith, some))
blank_there (c ∷ s) some = blank_by c s (is_space c) refl some

-- and blanks that are there are counted
pub blank_read : (cs us : List ℕ) → IsBlank cs us → blank_length (cs ++ us) ≡ length cs
blank_read cs us (space {c = c} is) = ap (λ b. cond b 1 (cond (nat_eq c 37) (prefix_len is_before_line_end us + 1) 0)) is
blank_read cs us (comment {cs = ds} h) = let e : prefix_len is_before_line_end (ds ++ us) ≡ length ds = count is_before_line_end ds us h.0 h.1 in omega (arith, e)

pub blank_some : (cs us : List ℕ) → IsBlank cs us → 0 < length cs
blank_some cs us (space is) = omega arith
blank_some cs us (comment h) = omega arith

-- no token begins with a blank
abbrev pub NoToken : List ℕ → ℕ → Type 0
NoToken us c = lexeme_at (c ∷ us) ≡ Err Token

spaces : (c : ℕ) → is_space c ≡ true → (c ≡ 9) ⊎ (c ≡ 10) ⊎ (c ≡ 11) ⊎ (c ≡ 12) ⊎ (c ≡ 13) ⊎ (c ≡ 32)
spaces c is = grind (arith, nat_tests)

no_token_by : (c : ℕ) (us : List ℕ) → (c ≡ 9) ⊎ (c ≡ 10) ⊎ (c ≡ 11) ⊎ (c ≡ 12) ⊎ (c ≡ 13) ⊎ (c ≡ 32) → NoToken us c
unfolding lexeme_at unquoted_at
no_token_by c us (inl e) = subst (NoToken us) (sym e) refl
no_token_by c us (inr (inl e)) = subst (NoToken us) (sym e) refl
no_token_by c us (inr (inr (inl e))) = subst (NoToken us) (sym e) refl
no_token_by c us (inr (inr (inr (inl e)))) = subst (NoToken us) (sym e) refl
no_token_by c us (inr (inr (inr (inr (inl e))))) = subst (NoToken us) (sym e) refl
no_token_by c us (inr (inr (inr (inr (inr e))))) = subst (NoToken us) (sym e) refl

comment_no_token : (us : List ℕ) → NoToken us 37
unfolding lexeme_at unquoted_at
comment_no_token us = refl

pub no_token : (cs us : List ℕ) → IsBlank cs us → lexeme_at (cs ++ us) ≡ Err Token
no_token cs us (space {c = c} is) = no_token_by c us (spaces c is)
no_token cs us (comment {cs = ds} h) = comment_no_token (ds ++ us)
