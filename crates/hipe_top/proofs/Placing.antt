-- The first keyword `module` of a text.
use Rattle.std.proofs.Common.{◌≡◌, ℕ, Bool, true, false, ◌&&◌, List, [], ◌∷◌, length, Option, Some, None, Result, Err, bytes_eq, refl, sym, ap, ◌∙◌, subst, arith}
use Rattle.std.specs.Prelude.{codes, nat_eq, nat_abs, ℤ, if◌then◌else◌}
use Rattle.std.specs.Cmp.Lexicographic.{pointwise}
use Rattle.std.proofs.lemmas.Slice.Eq.{bytes_eq-Decides}
use denote.Enum.Bare.{true_same}
use Rattle.hipe_terms.specs.declared.place.Place.{Place}
use Rattle.core_text.specs.Bytes.{is_digit, begins}
use Rattle.core_token.specs.declared.token.Sort.{Sort}
use Rattle.core_token.specs.declared.token.Token.{Token}
use Rattle.core_token.specs.declared.token.TokenKind.{TokenKind}
use Rattle.core_token.specs.declared.token.TokenFault.{TokenFault}
use Rattle.core_token.specs.Text.{AreTokensOf, IsRefused, AnswersFault, bytes_of}
use Rattle.core_token.specs.Values.{integer_of}
use Rattle.core_token.proofs.Cuts.{unique}
use Rattle.core_ast.specs.declared.tree.Module.{Module}
use Rattle.core_grammar.specs.contracts.terminal.Mark.{the_type}
use Rattle.core_grammar.specs.declared.terminal.Kind.{Kind}
use Rattle.core_grammar.specs.declared.terminal.Mark.{Mark}
use Rattle.core_grammar.specs.declared.terminal.Terminal.{Terminal}
use Rattle.core_grammar.specs.Marks.{same_mark}
use Rattle.core_grammar.specs.Leave.{Leave, mark}
use Rattle.core_grammar.specs.Grammar.{bare, annotated, BareModule, «module», ModuleOf}
use Rattle.core_reader.specs.Terminals.{Row, keywords, signs, mark_in, keyword_of, sign_of, marked, or_zero, kind_of, terminal_of, terminals_of}
use Rattle.hipe_top.specs.Texts.{IsModuleKeyword, IsFirstKeyword, here, behind, BeginsAt}
use Rattle.hipe_top.specs.Finding.{is_keyword, is_module_keyword, first_keyword, ReadsSome}

-- ---- what is found is the first

both : (a b : Bool) → (a && b) ≡ true → (a ≡ true) × (b ≡ true)
both true b e = (refl, e)
both false b e = absurd (cc)

keyword_is : (sort : Sort) → is_keyword sort ≡ true → sort ≡ Sort.Word
keyword_is Sort.Atom h = absurd (cc)
keyword_is Sort.Variable h = absurd (cc)
keyword_is Sort.Integer h = absurd (cc)
keyword_is Sort.Float h = absurd (cc)
keyword_is Sort.Character h = absurd (cc)
keyword_is Sort.Text h = absurd (cc)
keyword_is Sort.Word h = refl
keyword_is Sort.Sign h = absurd (cc)

is_it : (s : List ℕ) (t : Token) → is_module_keyword s t ≡ true → IsModuleKeyword s t
is_it s t h =
    let two = both (is_keyword t.sort) (bytes_eq (bytes_of s t) (codes "module")) h in
    (keyword_is t.sort two.0, (bytes_eq-Decides (bytes_of s t) (codes "module")).0 two.1)

it_is : (s : List ℕ) (t : Token) → IsModuleKeyword s t → is_module_keyword s t ≡ true
it_is s t (sort, bytes) = ap (λ k. is_keyword k && bytes_eq (bytes_of s t) (codes "module")) sort ∙ (bytes_eq-Decides (bytes_of s t) (codes "module")).1 bytes

is_not : (s : List ℕ) (t : Token) → is_module_keyword s t ≡ false → IsModuleKeyword s t → ⊥
is_not s t h is = let e = it_is s t is in absurd (cc)

first_is : (s : List ℕ) (ts : List Token) (p : Place) → first_keyword s ts ≡ Some p → IsFirstKeyword s ts p
first_is s [] p h = absurd (cc)
first_is s (t ∷ ts) p h = go (is_module_keyword s t) refl h (λ k. first_is s ts p k)
  where
    go : (b : Bool) → is_module_keyword s t ≡ b → (if b then Some t.at else first_keyword s ts) ≡ Some p → (first_keyword s ts ≡ Some p → IsFirstKeyword s ts p) → IsFirstKeyword s (t ∷ ts) p
    go true e h later = let same : t.at ≡ p = cc in subst (IsFirstKeyword s (t ∷ ts)) same (here (is_it s t e))
    go false e h later = behind (is_not s t e) (later h)

-- ---- there is one

-- whether each row of a mark has this spelling
abbrev spells : Mark → List ℕ → List Row → Bool
spells m cs [] = true
spells m cs (row ∷ rows) = (if same_mark row.1 m then bytes_eq row.0 cs else true) && spells m cs rows

row_spells : (a m : Mark) (cs ds : List ℕ) → (if same_mark a m then bytes_eq cs ds else true) ≡ true → a ≡ m → cs ≡ ds
row_spells a m cs ds h is = (bytes_eq-Decides cs ds).0 (subst (λ b. (if b then bytes_eq cs ds else true) ≡ true) (true_same the_type a m is) h)

spelled : (m : Mark) (cs ds : List ℕ) (rows : List Row) → spells m ds rows ≡ true → mark_in rows cs ≡ Some m → cs ≡ ds
spelled m cs ds [] each h = absurd (cc)
spelled m cs ds (row ∷ rows) each h =
    let two = both (if same_mark row.1 m then bytes_eq row.0 ds else true) (spells m ds rows) each in
    go (pointwise nat_eq cs row.0) refl h two.0 (λ k. spelled m cs ds rows two.1 k)
  where
    go : (b : Bool) → pointwise nat_eq cs row.0 ≡ b → (if b then Some row.1 else mark_in rows cs) ≡ Some m → (if same_mark row.1 m then bytes_eq row.0 ds else true) ≡ true
        → (mark_in rows cs ≡ Some m → cs ≡ ds) → cs ≡ ds
    go true e h this later = let same : row.1 ≡ m = cc in (bytes_eq-Decides cs row.0).0 e ∙ row_spells row.1 m row.0 ds this same
    go false e h this later = later h

keyword_spelled : (cs : List ℕ) → keyword_of cs ≡ Some Mark.Module → cs ≡ codes "module"
unfolding keyword_of
keyword_spelled cs h = spelled Mark.Module cs (codes "module") keywords refl h

-- no sign is a keyword: one with two spellings would be
sign_spelled : (cs : List ℕ) → sign_of cs ≡ Some Mark.Module → ⊥
unfolding sign_of
sign_spelled cs h =
    let two : [] ≡ codes "x" = sym (spelled Mark.Module cs [] signs refl h) ∙ spelled Mark.Module cs (codes "x") signs refl h in
    let sizes : 0 ≡ 1 = ap length two in
    absurd (omega (arith, sizes))

marked_is : (o : Option Mark) (m : Mark) → marked o ≡ Kind.Mark m → o ≡ Some m
marked_is None m h = absurd (cc)
marked_is (Some a) m h = let same : a ≡ m = cc in ap Some same

no_number : (b : Bool) (n : ℤ) → (if b then Kind.Natural (nat_abs n) else Kind.Integer n) ≡ Kind.Mark Mark.Module → ⊥
no_number true n h = absurd (cc)
no_number false n h = absurd (cc)

marked_keyword : (sort : Sort) (cs : List ℕ) → kind_of sort cs ≡ Kind.Mark Mark.Module → (sort ≡ Sort.Word) × (cs ≡ codes "module")
marked_keyword Sort.Atom cs h = absurd (cc)
marked_keyword Sort.Variable cs h = absurd (cc)
marked_keyword Sort.Integer cs h = absurd (no_number (begins is_digit cs) (or_zero (integer_of cs)) h)
marked_keyword Sort.Float cs h = absurd (cc)
marked_keyword Sort.Character cs h = absurd (cc)
marked_keyword Sort.Text cs h = absurd (cc)
marked_keyword Sort.Word cs h = (refl, keyword_spelled cs (marked_is (keyword_of cs) Mark.Module h))
marked_keyword Sort.Sign cs h = absurd (sign_spelled cs (marked_is (sign_of cs) Mark.Module h))

-- terminals with the keyword `module` among them
data Marked : List Terminal → Type 0 where
  mark_here : {ts : List Terminal} (p : Place) → Marked (mark Mark.Module p ∷ ts)
  mark_behind : {ts : List Terminal} (t : Terminal) → Marked ts → Marked (t ∷ ts)

bare_marked : (ok : Leave) (m : Module) (ts us : List Terminal) → BareModule ok m ts us → Marked ts
bare_marked ok _ _ us («module» a p q r s t u v w exports attributes defs) = mark_here p

module_marked : (ok : Leave) (m : Module) (ts us : List Terminal) → ModuleOf ok m ts us → Marked ts
module_marked ok m _ us (bare b) = bare_marked ok m _ us b
module_marked ok m _ us (annotated o b a) = mark_behind _ (bare_marked ok m _ _ b)

head_kind : (t : Terminal) (ts : List Terminal) (m : Mark) (p : Place) (us : List Terminal) → t ∷ ts ≡ mark m p ∷ us → t.kind ≡ Kind.Mark m
head_kind t ts m p us h = ap (λ x. x.kind) (first_of h)
  where
    first_of : {a b : Terminal} {as2 bs2 : List Terminal} → a ∷ as2 ≡ b ∷ bs2 → a ≡ b
    first_of h = cc

rest_of : {a b : Terminal} {ts us : List Terminal} → a ∷ ts ≡ b ∷ us → ts ≡ us
rest_of h = cc

some_keyword : (s : List ℕ) (ts : List Token) (xs : List Terminal) → Marked xs → terminals_of s ts ≡ xs → first_keyword s ts ≡ None → ⊥
some_keyword s [] _ (mark_here p) e h = absurd (cc)
some_keyword s [] _ (mark_behind t m) e h = absurd (cc)
some_keyword s (t ∷ ts) _ (mark_here p) e h =
    let word = marked_keyword t.sort (bytes_of s t) (head_kind (terminal_of s t) (terminals_of s ts) Mark.Module p _ e) in
    let is : is_module_keyword s t ≡ true = it_is s t word in
    let found : Some t.at ≡ None = subst (λ b. (if b then Some t.at else first_keyword s ts) ≡ None) is h in
    absurd (cc)
some_keyword s (t ∷ ts) _ (mark_behind u m) e h = go (is_module_keyword s t) h (λ k. some_keyword s ts _ m (rest_of e) k)
  where
    go : (b : Bool) → (if b then Some t.at else first_keyword s ts) ≡ None → (first_keyword s ts ≡ None → ⊥) → ⊥
    go true h later = absurd (cc)
    go false h later = later h

pub keyword_found : (s : List ℕ) (ts : List Token) → AreTokensOf s ts → ReadsSome s → first_keyword s ts ≡ None → ⊥
keyword_found s ts are (m, (us, others, derived)) h =
    let marked : Marked (terminals_of s ts) = subst (λ xs. Marked (terminals_of s xs)) (unique.one_list s us ts others are) (module_marked _ m (terminals_of s us) [] derived) in
    some_keyword s ts (terminals_of s ts) marked refl h

pub begins_at : (s : List ℕ) (ts : List Token) (p : Place) → AreTokensOf s ts → first_keyword s ts ≡ Some p → BeginsAt s p
begins_at s ts p are h = (ts, are, first_is s ts p h)

pub has_tokens : (s : List ℕ) (k : TokenKind) (p : Place) → ReadsSome s → IsRefused s k p → ⊥
has_tokens s k p (m, (ts, are, derived)) h = unique.not_both s ts k p are h

pub refused_tokens : (s : List ℕ) (k : TokenKind) (p : Place) (r : Result (List Token) TokenFault) → ReadsSome s → r ≡ Err (TokenFault.Refused k p) → AnswersFault s r → ⊥
refused_tokens s k p r reads is h = has_tokens s k p reads (subst (AnswersFault s) is h)

-- ---- it stands at one place

one_first : (s : List ℕ) (ts : List Token) (p q : Place) → IsFirstKeyword s ts p → IsFirstKeyword s ts q → p ≡ q
one_first s _ _ _ (here h) (here k) = refl
one_first s _ _ q (here h) (behind other f) = absurd (other h)
one_first s _ p _ (behind other f) (here k) = absurd (other k)
one_first s _ p q (behind _ f) (behind _ g) = one_first s _ p q f g

pub one_beginning : (s : List ℕ) (p q : Place) → BeginsAt s p → BeginsAt s q → p ≡ q
one_beginning s p q (ts, t, f) (us, u, g) = one_first s ts p q f (subst (λ xs. IsFirstKeyword s xs q) (unique.one_list s us ts u t) g)
