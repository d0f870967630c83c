-- What is read of a text is what the text has, and what it has is read.
use Rattle.std.proofs.Common.{◌≡◌, ◌⊎◌, inl, inr, ℕ, zero, suc, ◌+◌, ◌-◌, ◌<◌, Bool, true, false, cond, not, nat_eq, nat_lt, ℤ, List, [], ◌∷◌, ◌++◌, length, take, drop, Option, Some, None, Result, Ok, Err, IfOk, refl, ap, sym, ◌∙◌, subst, append_assoc, length-append, arith}
use Rattle.std.proofs.lemmas.Bool.Decides.{nat_tests}
use Rattle.std.proofs.lemmas.List.{append-nil, take_at, drop_at}
use Rattle.hipe_terms.specs.declared.place.Place.{Place}
use Rattle.core_text.specs.Places.{start, place_after}
use Rattle.core_text.specs.Walks.{walk, go_on}
use Rattle.core_text.specs.Utf8.{ill_formed}
use Rattle.core_text.specs.Prefixes.{BeginsWith, BeginsWithNone}
use Rattle.core_text.specs.Characters.{IsIllFormed}
use Rattle.core_text.specs.Numbers.{IsInteger}
use Rattle.core_text.proofs.Walks.{walk_prefix, walk_halt}
use Rattle.core_text.proofs.IllFormed.{utf8_read, ill_formed_read, well_formed, ill_formed_at}
use Rattle.hipe_terms.specs.Range.{is_in_range}
use Rattle.hipe_base.specs.declared.limits.TheConstants.{ATOM_LIMIT}
use Rattle.core_token.specs.declared.token.Sort.{Sort}
use Rattle.core_token.specs.declared.token.Token.{Token}
use Rattle.core_token.specs.declared.token.TokenKind.{TokenKind}
use Rattle.core_token.specs.declared.token.TokenKind.TheVariants.{WideInteger, LongAtom}
use Rattle.core_token.specs.declared.token.TokenFault.{TokenFault}
use Rattle.core_token.specs.declared.token.TokenFault.TheVariants.{Refused, Memory}
use Rattle.core_token.specs.declared.lexeme.Lexeme.{Lexeme}
use Rattle.core_token.specs.declared.scan.Scan.{Scan}
use Rattle.core_token.specs.Lexemes.{Found, lexeme, lexeme_at}
use Rattle.core_token.specs.Reading.{Reading, blank_length, passed, with_token, token_step, scan_step, scan_end, scan_start, scanned, unless_ill_formed, read, Answers}
use Rattle.core_token.specs.Spelling.{IsBlank, IsAtom, Spells, IsFault, wide_integer, long_atom, no_token as nothing_there}
use Rattle.core_token.specs.Laws.{TokensAreUnique}
use Rattle.core_token.specs.Text.{HasTokens, nothing, blank, token, HasFault, here, behind_blank, behind_token, AreTokensOf, IsRefused, AnswersFault}
use Rattle.core_token.proofs.Blanks.{blank_there, blank_read, blank_some, no_token}
use Rattle.core_token.proofs.Spelled.{Told, told}
use Rattle.core_token.proofs.Lexing.{lexeme_read, integer_read, atom_read}
use Rattle.core_token.proofs.Sizes.{integer_some, atom_some, token_some}

-- one thing at a time stands at the beginning
apart : (f : Found) (kind : TokenKind) (sort : Sort) (n : ℕ) → f ≡ Err kind → f ≡ lexeme sort n → ⊥
apart f kind sort n g h = cc

kinds : (f : Found) (k l : TokenKind) → f ≡ Err k → f ≡ Err l → k ≡ l
kinds f k l g h = cc

wide_read : (n : ℤ) (cs us : List ℕ) → IsInteger n cs us → is_in_range n ≡ false → lexeme_at (cs ++ us) ≡ Err WideInteger
wide_read n cs us is wide = integer_read n cs us is ∙ ap (λ b. cond b (lexeme Sort.Integer (length cs)) (Err WideInteger)) wide

long_read : (vs cs us : List ℕ) → IsAtom vs cs us → ATOM_LIMIT < length vs → lexeme_at (cs ++ us) ≡ Err LongAtom
long_read vs cs us is long =
    let h : nat_lt ATOM_LIMIT (length vs) ≡ true = grind (arith, nat_tests) in atom_read vs cs us is ∙ ap (λ b. cond b (Err LongAtom) (lexeme Sort.Atom (length cs))) h

pub positive : (n : ℕ) → 0 < n → nat_eq n 0 ≡ false
positive n h = grind (arith, nat_tests)

zeroth : (n : ℕ) → n ≡ 0 → nat_eq n 0 ≡ true
zeroth n h = grind (arith, nat_tests)

-- where something else than a blank begins, none does
no_blank_by : (s : List ℕ) (n : ℕ) → blank_length s ≡ n → (lexeme_at s ≡ Err TokenKind.Token → ⊥) → n ≡ 0
no_blank_by s zero is other = refl
no_blank_by s (suc n) is other = let b = blank_there s (omega (arith, is)) in absurd (other (ap lexeme_at b.is ∙ no_token b.prefix b.rest b.holds))

token_no_blank : (sort : Sort) (cs us : List ℕ) → Spells sort cs us → blank_length (cs ++ us) ≡ 0
token_no_blank sort cs us is = no_blank_by (cs ++ us) _ refl (λ h. apart _ TokenKind.Token sort (length cs) h (lexeme_read sort cs us is))

-- a fault that is there is found
wide_there : (s : List ℕ) (k : TokenKind) → IsFault s k → k ≡ WideInteger → ((n : ℤ) → BeginsWithNone (IsInteger n) s) → ⊥
wide_there s k (wide_integer {n = n} {cs = cs} {us = us} is wide) e h = h n cs us refl is
wide_there s k (long_atom is long) e h = absurd (cc)
wide_there s k (nothing_there some blanks tokens integers atoms) e h = absurd (cc)

long_there : (s : List ℕ) (k : TokenKind) → IsFault s k → k ≡ LongAtom → ((vs : List ℕ) → BeginsWithNone (IsAtom vs) s) → ⊥
long_there s k (wide_integer is wide) e h = absurd (cc)
long_there s k (long_atom {vs = vs} {cs = cs} {us = us} is long) e h = h vs cs us refl is
long_there s k (nothing_there some blanks tokens integers atoms) e h = absurd (cc)

no_token_by : (s : List ℕ) (f : Found) → Told s f → ((sort : Sort) → BeginsWithNone (Spells sort) s) → ((n : ℤ) → BeginsWithNone (IsInteger n) s) → ((vs : List ℕ) → BeginsWithNone (IsAtom vs) s) → f ≡ Err TokenKind.Token
no_token_by s (Ok l) b tokens integers atoms = absurd (tokens l.sort b.prefix b.rest b.is b.holds)
no_token_by s (Err WideInteger) b tokens integers atoms = absurd (wide_there s WideInteger b refl integers)
no_token_by s (Err LongAtom) b tokens integers atoms = absurd (long_there s LongAtom b refl atoms)
no_token_by s (Err TokenKind.Token) b tokens integers atoms = refl

fault_read : (s : List ℕ) (k : TokenKind) → IsFault s k → lexeme_at s ≡ Err k
fault_read s k (wide_integer {n = n} {cs = cs} {us = us} is wide) = wide_read n cs us is wide
fault_read s k (long_atom {vs = vs} {cs = cs} {us = us} is long) = long_read vs cs us is long
fault_read s k (nothing_there some blanks tokens integers atoms) = no_token_by s (lexeme_at s) (told s) tokens integers atoms

no_blank_there : (s : List ℕ) (n : ℕ) → blank_length s ≡ n → BeginsWithNone IsBlank s → n ≡ 0
no_blank_there s zero is h = refl
no_blank_there s (suc n) is h = let b = blank_there s (omega (arith, is)) in absurd (h b.prefix b.rest b.is b.holds)

wide_apart : (f : Found) → f ≡ Err WideInteger → f ≡ Err TokenKind.Token → ⊥
wide_apart f g h = cc

long_apart : (f : Found) → f ≡ Err LongAtom → f ≡ Err TokenKind.Token → ⊥
long_apart f g h = cc

fault_no_blank : (s : List ℕ) (k : TokenKind) → IsFault s k → blank_length s ≡ 0
fault_no_blank s k (wide_integer {n = n} {cs = cs} {us = us} is wide) = no_blank_by (cs ++ us) _ refl (wide_apart _ (wide_read n cs us is wide))
fault_no_blank s k (long_atom {vs = vs} {cs = cs} {us = us} is long) = no_blank_by (cs ++ us) _ refl (long_apart _ (long_read vs cs us is long))
fault_no_blank s k (nothing_there some blanks tokens integers atoms) = no_blank_there s _ refl blanks

fault_some : (s : List ℕ) (k : TokenKind) → IsFault s k → 0 < length s
fault_some s k (wide_integer {n = n} {cs = cs} {us = us} is wide) = omega (arith, length-append cs us, integer_some n cs us is)
fault_some s k (long_atom {vs = vs} {cs = cs} {us = us} is long) = omega (arith, length-append cs us, atom_some vs cs us is)
fault_some s k (nothing_there some blanks tokens integers atoms) = some

-- and what is refused is a fault
blanks_none : (s : List ℕ) → blank_length s ≡ 0 → BeginsWithNone IsBlank s
blanks_none s is cs us e h = omega (arith, is, ap blank_length e, blank_read cs us h, blank_some cs us h)

tokens_none : (s : List ℕ) → lexeme_at s ≡ Err TokenKind.Token → (sort : Sort) → BeginsWithNone (Spells sort) s
tokens_none s is sort cs us e h = apart (lexeme_at s) TokenKind.Token sort (length cs) is (ap lexeme_at e ∙ lexeme_read sort cs us h)

other_found : (f : Found) (b : Bool) (sort : Sort) (n : ℕ) (k : TokenKind) → f ≡ Err TokenKind.Token → (k ≡ TokenKind.Token → ⊥) → f ≡ cond b (lexeme sort n) (Err k) → ⊥
other_found f true sort n k g other h = apart f TokenKind.Token sort n g h
other_found f false sort n k g other h = other (kinds f k TokenKind.Token h g)

not_wide : WideInteger ≡ TokenKind.Token → ⊥
not_wide h = cc

not_long : LongAtom ≡ TokenKind.Token → ⊥
not_long h = cc

integers_none : (s : List ℕ) → lexeme_at s ≡ Err TokenKind.Token → (n : ℤ) → BeginsWithNone (IsInteger n) s
integers_none s is n cs us e h = other_found (lexeme_at s) (is_in_range n) Sort.Integer (length cs) WideInteger is not_wide (ap lexeme_at e ∙ integer_read n cs us h)

swapped : (b : Bool) (x y : Found) → cond b x y ≡ cond (not b) y x
swapped true x y = refl
swapped false x y = refl

atoms_none : (s : List ℕ) → lexeme_at s ≡ Err TokenKind.Token → (vs : List ℕ) → BeginsWithNone (IsAtom vs) s
atoms_none s is vs cs us e h =
    other_found (lexeme_at s) (not (nat_lt ATOM_LIMIT (length vs))) Sort.Atom (length cs) LongAtom is not_long
    (ap lexeme_at e ∙ atom_read vs cs us h ∙ swapped (nat_lt ATOM_LIMIT (length vs)) (Err LongAtom) (lexeme Sort.Atom (length cs)))

fault_there : (s : List ℕ) (k : TokenKind) → 0 < length s → blank_length s ≡ 0 → lexeme_at s ≡ Err k → IsFault s k
fault_there s WideInteger some none is = let f : Told s (Err WideInteger) = subst (Told s) is (told s) in f
fault_there s LongAtom some none is = let f : Told s (Err LongAtom) = subst (Told s) is (told s) in f
fault_there s TokenKind.Token some none is = nothing_there some (blanks_none s none) (tokens_none s is) (integers_none s is) (atoms_none s is)

behind : (c : ℕ) (t : List ℕ) (n : ℕ) → 0 < n → drop (n - 1) t ≡ drop n (c ∷ t)
behind c t zero some = absurd (omega (arith, some))
behind c t (suc n) some = ap (λ k. drop k t) (omega arith)

-- what reading gives, behind the tokens that are known
abbrev pub Gives : List ℕ → ℕ → Place → List Token → Reading → Type 0
Gives s i p before (Ok ts) = (us : List Token) × (ts ≡ before ++ us) × HasTokens s i p us
Gives s i p before (Err e) = HasFault s p e.0 e.1

gives_blank : (cs us : List ℕ) (b : Scan) (r : Reading) → IsBlank cs us → Gives us (b.offset + length cs) (place_after b.at cs) b.tokens r → Gives (cs ++ us) b.offset b.at b.tokens r
gives_blank cs us b (Ok ts) is g = (g.0, g.1, blank is g.2)
gives_blank cs us b (Err e) is g = behind_blank is g

gives_token : (sort : Sort) (cs us : List ℕ) (b : Scan) (r : Reading) → Spells sort cs us
    → Gives us (b.offset + length cs) (place_after b.at cs) (with_token (record { sort = sort; length = length cs }) b).tokens r → Gives (cs ++ us) b.offset b.at b.tokens r
gives_token sort cs us b (Ok ts) is g = (_, g.1 ∙ append_assoc b.tokens _ g.0, token is g.2)
gives_token sort cs us b (Err e) is g = behind_token is g

-- what a step comes to
abbrev pub StepGives : ℕ → List ℕ → Scan → Result (ℕ × Scan) Reading → Type 0
StepGives c t b r = ((n : ℕ) (u : Scan) → r ≡ Ok (n, u) → Gives (drop (n - 1) t) u.offset u.at u.tokens (walk scan_step scan_end t (n - 1) u)) →
    Gives (c ∷ t) b.offset b.at b.tokens (go_on r (λ p. walk scan_step scan_end t (p.0 - 1) p.1))

-- bytes at the beginning are passed
passed_rest : {R : List ℕ → List ℕ → Type 0} (c : ℕ) (t : List ℕ) (n : ℕ) (f : BeginsWith R (c ∷ t) n) → 0 < n → drop (n - 1) t ≡ f.rest
passed_rest c t n f some = behind c t n some ∙ ap (drop n) f.is ∙ drop_at f.prefix f.rest n f.size

passed_prefix : {R : List ℕ → List ℕ → Type 0} (s : List ℕ) (n : ℕ) (f : BeginsWith R s n) → take n s ≡ f.prefix
passed_prefix s n f = ap (take n) f.is ∙ take_at f.prefix f.rest n f.size

token_case : (c : ℕ) (t : List ℕ) (b : Scan) (f : Result Lexeme TokenKind) → blank_length (c ∷ t) ≡ 0 → lexeme_at (c ∷ t) ≡ f → StepGives c t b (token_step (c ∷ t) b f)
token_case c t b (Ok l) none is next =
    let s = c ∷ t in
    let f : BeginsWith (Spells l.sort) s l.length = subst (Told s) is (told s) in
    let u = passed s l.length (with_token l b) in
    let r = walk scan_step scan_end t (l.length - 1) u in
    let g = subst (λ w. Gives w u.offset u.at u.tokens r) (passed_rest c t l.length f (omega (arith, f.size, token_some l.sort f.prefix f.rest f.holds))) (next l.length u refl) in
    let h = subst (λ q. Gives f.rest u.offset (place_after b.at q) u.tokens r) (passed_prefix s l.length f) g in
    let P : ℕ → Type 0 = λ n. Gives f.rest (b.offset + n) (place_after b.at f.prefix) (with_token (record { sort = l.sort; length = n }) b).tokens r in
    subst (λ w. Gives w b.offset b.at b.tokens r) (sym f.is) (gives_token l.sort f.prefix f.rest b r f.holds (subst P (sym f.size) h))
token_case c t b (Err kind) none is next = here (fault_there (c ∷ t) kind (omega arith) none is)

blank_case : (c : ℕ) (t : List ℕ) (b : Scan) (n : ℕ) → 0 < n → blank_length (c ∷ t) ≡ n → StepGives c t b (Ok (n, passed (c ∷ t) n b))
blank_case c t b n some is next =
    let s = c ∷ t in
    let f : BeginsWith IsBlank s n = subst (BeginsWith IsBlank s) is (blank_there s (omega (arith, is, some))) in
    let u = passed s n b in
    let r = walk scan_step scan_end t (n - 1) u in
    let g = subst (λ w. Gives w u.offset u.at u.tokens r) (passed_rest c t n f some) (next n u refl) in
    let h = subst (λ q. Gives f.rest u.offset (place_after b.at q) b.tokens r) (passed_prefix s n f) g in
    let P : ℕ → Type 0 = λ n. Gives f.rest (b.offset + n) (place_after b.at f.prefix) b.tokens r in
    subst (λ w. Gives w b.offset b.at b.tokens r) (sym f.is) (gives_blank f.prefix f.rest b r f.holds (subst P (sym f.size) h))

step_case : (c : ℕ) (t : List ℕ) (b : Scan) (x : Bool) → nat_eq (blank_length (c ∷ t)) 0 ≡ x → StepGives c t b (cond x (token_step (c ∷ t) b (lexeme_at (c ∷ t))) (Ok (blank_length (c ∷ t), passed (c ∷ t) (blank_length (c ∷ t)) b)))
step_case c t b true is = token_case c t b (lexeme_at (c ∷ t)) (grind (arith, nat_tests)) refl
step_case c t b false is = blank_case c t b (blank_length (c ∷ t)) (grind (arith, nat_tests)) refl

step_gives : (c : ℕ) (t : List ℕ) (b : Scan) → StepGives c t b (scan_step (c ∷ t) b)
unfolding scan_step
step_gives c t b = step_case c t b _ refl

gives : (s : List ℕ) (k : ℕ) (b : Scan) → Gives (drop k s) b.offset b.at b.tokens (walk scan_step scan_end s k b)
gives [] zero b = ([], sym (append-nil b.tokens), nothing)
gives [] (suc k) b = ([], sym (append-nil b.tokens), nothing)
gives (c ∷ t) (suc k) b = gives t k b
gives (c ∷ t) zero b = step_gives c t b (λ n u is. gives t (n - 1) u)

scanned_gives : (s : List ℕ) → Gives s 0 start [] (scanned s)
unfolding scanned
scanned_gives s = gives s 0 scan_start

-- what a text has is read
abbrev pub at_place : List Token → Place → ℕ → Scan
at_place before p i = record { tokens = before; at = p; offset = i }

blank_step : (cs us : List ℕ) (b : Scan) → IsBlank cs us → scan_step (cs ++ us) b ≡ Ok (length cs, passed (cs ++ us) (length cs) b)
unfolding scan_step
blank_step cs us b is =
    let s = cs ++ us in
    let t = token_step s b (lexeme_at s) in
    ap (λ n. cond (nat_eq n 0) t (Ok (n, passed s n b))) (blank_read cs us is) ∙ ap (λ x. cond x t (Ok (length cs, passed s (length cs) b))) (positive (length cs) (blank_some cs us is))

pub no_blank_step : (s : List ℕ) (b : Scan) (f : Found) → blank_length s ≡ 0 → lexeme_at s ≡ f → scan_step s b ≡ token_step s b f
unfolding scan_step
no_blank_step s b f none is =
    ap (λ x. cond x (token_step s b (lexeme_at s)) (Ok (blank_length s, passed s (blank_length s) b))) (zeroth (blank_length s) none) ∙ ap (λ f. token_step s b f) is

over_blank : (cs us : List ℕ) (before : List Token) (p : Place) (i : ℕ) → IsBlank cs us
    → walk scan_step scan_end (cs ++ us) 0 (at_place before p i) ≡ walk scan_step scan_end us 0 (at_place before (place_after p cs) (i + length cs))
over_blank cs us before p i is =
    let b = at_place before p i in
    walk_prefix scan_step scan_end cs us (length cs) b (passed (cs ++ us) (length cs) b) refl (blank_some cs us is) (blank_step cs us b is)
    ∙ ap (λ q. walk scan_step scan_end us 0 (at_place before (place_after p q) (i + length cs))) (take_at cs us (length cs) refl)

abbrev pub token_at : Sort → Place → ℕ → ℕ → Token
token_at sort p i n = record { sort = sort; at = p; start = i; end = i + n }

over_token : (sort : Sort) (cs us : List ℕ) (before : List Token) (p : Place) (i : ℕ) → Spells sort cs us
    → walk scan_step scan_end (cs ++ us) 0 (at_place before p i) ≡ walk scan_step scan_end us 0 (at_place (before ++ token_at sort p i (length cs) ∷ []) (place_after p cs) (i + length cs))
over_token sort cs us before p i is =
    let b = at_place before p i in
    let s = cs ++ us in
    let l : Lexeme = record { sort = sort; length = length cs } in
    let more = before ++ token_at sort p i (length cs) ∷ [] in
    walk_prefix scan_step scan_end cs us (length cs) b (passed s (length cs) (with_token l b)) refl (token_some sort cs us is)
    (no_blank_step s b (Ok l) (token_no_blank sort cs us is) (lexeme_read sort cs us is))
    ∙ ap (λ q. walk scan_step scan_end us 0 (at_place more (place_after p q) (i + length cs))) (take_at cs us (length cs) refl)

tokens_walked : (s : List ℕ) (i : ℕ) (p : Place) (ts : List Token) → HasTokens s i p ts → (before : List Token) → walk scan_step scan_end s 0 (at_place before p i) ≡ Ok (before ++ ts)
tokens_walked s i p ts nothing before = ap Ok (sym (append-nil before))
tokens_walked s i p ts (blank {cs = cs} {us = us} is h) before = over_blank cs us before p i is ∙ tokens_walked us (i + length cs) (place_after p cs) ts h before
tokens_walked s i p ts (token {sort = sort} {cs = cs} {us = us} {ts = vs} is h) before =
    over_token sort cs us before p i is ∙ tokens_walked us (i + length cs) (place_after p cs) vs h (before ++ token_at sort p i (length cs) ∷ [])
    ∙ ap Ok (append_assoc before (token_at sort p i (length cs) ∷ []) vs)

fault_walked_here : (s : List ℕ) (p : Place) (k : TokenKind) → IsFault s k → (before : List Token) (i : ℕ) → walk scan_step scan_end s 0 (at_place before p i) ≡ Err (k, p)
fault_walked_here s p k f before i =
    let b = at_place before p i in
    let e = append-nil s in
    ap (λ t. walk scan_step scan_end t 0 b) (sym e)
    ∙ walk_halt scan_step scan_end s [] b (Err (k, p)) (fault_some s k f) (ap (λ t. scan_step t b) e ∙ no_blank_step s b (Err k) (fault_no_blank s k f) (fault_read s k f))

fault_walked : (s : List ℕ) (p : Place) (k : TokenKind) (at : Place) → HasFault s p k at → (before : List Token) (i : ℕ) → walk scan_step scan_end s 0 (at_place before p i) ≡ Err (k, at)
fault_walked s p k at (here f) before i = fault_walked_here s p k f before i
fault_walked s p k at (behind_blank {cs = cs} {us = us} is h) before i = over_blank cs us before p i is ∙ fault_walked us (place_after p cs) k at h before (i + length cs)
fault_walked s p k at (behind_token {sort = sort} {cs = cs} {us = us} is h) before i =
    over_token sort cs us before p i is ∙ fault_walked us (place_after p cs) k at h (before ++ token_at sort p i (length cs) ∷ []) (i + length cs)

scanned_tokens : (s : List ℕ) (ts : List Token) → HasTokens s 0 start ts → scanned s ≡ Ok ts
unfolding scanned
scanned_tokens s ts h = tokens_walked s 0 start ts h []

scanned_fault : (s : List ℕ) (k : TokenKind) (at : Place) → HasFault s start k at → scanned s ≡ Err (k, at)
unfolding scanned
scanned_fault s k at h = fault_walked s start k at h [] 0

-- both ways
pub tokens_there : (s : List ℕ) (ts : List Token) → AreTokensOf s ts → read s ≡ Ok ts
unfolding read
tokens_there s ts h = ap (λ o. unless_ill_formed o (scanned s)) (utf8_read s h.0) ∙ scanned_tokens s ts h.1

pub fault_held : (s : List ℕ) (k : TokenKind) (p : Place) → IsRefused s k p → read s ≡ Err (k, p)
unfolding read
fault_held s k p (inl h) = ap (λ o. unless_ill_formed o (scanned s)) (ill_formed_read s p h.1) ∙ ap (λ k. Err (k, p)) (sym h.0)
fault_held s k p (inr h) = ap (λ o. unless_ill_formed o (scanned s)) (utf8_read s h.0) ∙ scanned_fault s k p h.1

tokens_by : (s : List ℕ) (ts : List Token) (r : Reading) → Gives s 0 start [] r → r ≡ Ok ts → HasTokens s 0 start ts
tokens_by s ts (Ok us) g h = let e : us ≡ ts = cc in subst (HasTokens s 0 start) (sym g.1 ∙ e) g.2
tokens_by s ts (Err e) g h = absurd (cc)

fault_by : (s : List ℕ) (k : TokenKind) (p : Place) (r : Reading) → Gives s 0 start [] r → r ≡ Err (k, p) → HasFault s start k p
fault_by s k p (Ok us) g h = absurd (cc)
fault_by s k p (Err e) g h = let d : e ≡ (k, p) = cc in let P : TokenKind × Place → Type 0 = λ e. HasFault s start e.0 e.1 in subst P d g

read_by : (s : List ℕ) (ts : List Token) (o : Option Place) → ill_formed s ≡ o → unless_ill_formed o (scanned s) ≡ Ok ts → AreTokensOf s ts
read_by s ts None is h = (well_formed s is, tokens_by s ts (scanned s) (scanned_gives s) h)
read_by s ts (Some p) is h = absurd (cc)

err_same : (d e : TokenKind × Place) (r : Reading) → r ≡ Err d → r ≡ Err e → d ≡ e
err_same d e r g h = cc

refused_by : (s : List ℕ) (k : TokenKind) (p : Place) (o : Option Place) → ill_formed s ≡ o → unless_ill_formed o (scanned s) ≡ Err (k, p) → IsRefused s k p
refused_by s k p None is h = inr (well_formed s is, fault_by s k p (scanned s) (scanned_gives s) h)
refused_by s k p (Some q) is h =
    let e = err_same (TokenKind.Token, q) (k, p) (Err (TokenKind.Token, q)) refl h in
    inl (sym (ap (λ e. e.0) e), subst (IsIllFormed s) (ap (λ e. e.1) e) (ill_formed_at s q is))

pub tokens_read : (s : List ℕ) (ts : List Token) → read s ≡ Ok ts → AreTokensOf s ts
unfolding read
tokens_read s ts h = read_by s ts (ill_formed s) refl h

pub fault_found : (s : List ℕ) (k : TokenKind) (p : Place) → read s ≡ Err (k, p) → IsRefused s k p
unfolding read
fault_found s k p h = refused_by s k p (ill_formed s) refl h

-- so there is one answer
same_tokens : (r : Reading) (ts us : List Token) → r ≡ Ok ts → r ≡ Ok us → ts ≡ us
same_tokens r ts us g h = cc

same_fault : (r : Reading) (k l : TokenKind) (p q : Place) → r ≡ Err (k, p) → r ≡ Err (l, q) → (k ≡ l) × (p ≡ q)
same_fault r k l p q g h = let e = err_same (k, p) (l, q) r g h in (ap (λ e. e.0) e, ap (λ e. e.1) e)

not_same : (r : Reading) (ts : List Token) (k : TokenKind) (p : Place) → r ≡ Ok ts → r ≡ Err (k, p) → ⊥
not_same r ts k p g h = cc

some_by : (s : List ℕ) (r : Reading) → read s ≡ r → ((ts : List Token) × AreTokensOf s ts) ⊎ ((k : TokenKind) × (p : Place) × IsRefused s k p)
some_by s (Ok ts) is = inl (ts, tokens_read s ts is)
some_by s (Err e) is = inr (e.0, e.1, fault_found s e.0 e.1 is)

pub unique : TokensAreUnique
unique = record {
  one_list = λ s ts us g h. same_tokens (read s) ts us (tokens_there s ts g) (tokens_there s us h);
  one_fault = λ s k l p q g h. same_fault (read s) k l p q (fault_held s k p g) (fault_held s l q h);
  not_both = λ s ts k p g h. not_same (read s) ts k p (tokens_there s ts g) (fault_held s k p h);
  one_of_them = λ s. some_by s (read s) refl;
}

-- what a call answers
pub tokens_answered : (s : List ℕ) (r : Result (List Token) TokenFault) → Answers (read s) r → IfOk r (λ ts. HasTokens s 0 start ts)
tokens_answered s (Ok ts) h = (tokens_read s ts h).1
tokens_answered s (Err f) h = tt

pub fault_answered : (s : List ℕ) (r : Result (List Token) TokenFault) → Answers (read s) r → AnswersFault s r
fault_answered s (Ok ts) h = tt
fault_answered s (Err (Refused kind p)) h = fault_found s kind p h
fault_answered s (Err Memory) h = tt
