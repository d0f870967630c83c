-- Steps of going through a text.
use Rattle.std.proofs.Common.{◌≡◌, inl, inr, ℕ, ◌+◌, ◌≤◌, ◌<◌, cond, nat_eq, List, length, drop, Option, Some, None, Ok, Err, refl, ap, sym, ◌∙◌, subst, drop_of_length-le}
use Rattle.std.proofs.lemmas.List.{drop-drop}
use Rattle.hipe_terms.specs.declared.place.Place.{Place}
use Rattle.core_text.specs.Walks.{walk}
use Rattle.core_text.specs.Utf8.{ill_formed_from, ill_formed, ArePassed}
use Rattle.core_text.proofs.Walks.{walk_on, walk_stop, walk_end}
use Rattle.core_text.proofs.IllFormed.{from_start, nothing_ill_formed}
use Rattle.core_text.proofs.Passing.{passed_on}
use Rattle.core_token.specs.declared.token.Token.{Token}
use Rattle.core_token.specs.declared.token.TokenKind.{TokenKind}
use Rattle.core_token.specs.declared.token.TokenFault.{TokenFault}
use Rattle.core_token.specs.declared.token.TokenFault.TheVariants.{Refused, Memory}
use Rattle.core_token.specs.declared.lexeme.Lexeme.{Lexeme}
use Rattle.core_token.specs.declared.scan.Scan.{Scan}
use Rattle.core_token.specs.Lexemes.{lexeme_at}
use Rattle.core_token.specs.Reading.{blank_length, passed, with_token, token_step, scan_step, scan_end, scan_start, scanned, unless_ill_formed, read, refusal, Answers, AnswersStep}
use Rattle.core_token.proofs.Cuts.{no_blank_step, positive}

-- behind n bytes, at the place q
abbrev pub behind : List Token → Place → ℕ → Scan
behind ts q i = record { tokens = ts; at = q; offset = i }

-- a step over a blank
pub over_blank : (s : List ℕ) (b : Scan) (n : ℕ) (q : Place) → n ≡ blank_length s → 0 < n → ArePassed s b.at n q → AnswersStep s b (behind b.tokens q (b.offset + n)) (Ok n)
unfolding scan_step
over_blank s b n q is some h =
    let x = token_step s b (lexeme_at s) in
    let step : scan_step s b ≡ Ok (n, passed s n b) = ap (λ k. cond (nat_eq k 0) x (Ok (k, passed s k b))) (sym is) ∙ ap (λ t. cond t x (Ok (n, passed s n b))) (positive n some) in
    (step ∙ ap (λ q. Ok (n, behind b.tokens q (b.offset + n))) (sym h.place), h)

-- a step over a token
pub over_token : (s : List ℕ) (b : Scan) (l : Lexeme) (q : Place) (ts : List Token) → blank_length s ≡ 0 → lexeme_at s ≡ Ok l → ts ≡ (with_token l b).tokens → ArePassed s b.at l.length q
    → AnswersStep s b (behind ts q (b.offset + l.length)) (Ok l.length)
over_token s b l q ts none is more h =
    let n = l.length in
    let all = (with_token l b).tokens in
    let i = b.offset + n in
    (no_blank_step s b (Ok l) none is ∙ ap (λ q. Ok (n, behind all q i)) (sym h.place) ∙ ap (λ ts. Ok (n, behind ts q i)) (sym more), h)

-- a step that meets no token
stopped_by : (s : List ℕ) (b u : Scan) (kind : TokenKind) (o : Option Place) → ill_formed_from b.at s ≡ o → scan_step s b ≡ Err (Err (kind, b.at)) → AnswersStep s b u (Err (refusal o kind b.at))
stopped_by s b u kind (Some q) first is = inl (refl, first)
stopped_by s b u kind None first is = inr (first, is)

pub stopped : (s : List ℕ) (b u : Scan) (kind : TokenKind) (f : TokenFault) → blank_length s ≡ 0 → lexeme_at s ≡ Err kind → f ≡ refusal (ill_formed_from b.at s) kind b.at → AnswersStep s b u (Err f)
stopped s b u kind f none is fault = subst (λ f. AnswersStep s b u (Err f)) (sym fault) (stopped_by s b u kind (ill_formed_from b.at s) refl (no_blank_step s b (Err kind) none is))

-- what is known of a text that was read up to its byte i
abbrev pub IsRead : List ℕ → ℕ → Scan → Type 0
IsRead text i b = (walk scan_step scan_end (drop i text) 0 b ≡ scanned text) × (ill_formed_from b.at (drop i text) ≡ ill_formed text)

pub nothing_read : (text : List ℕ) → IsRead text 0 scan_start
unfolding scanned
nothing_read text = (refl, from_start text)

pub read_on : (text : List ℕ) (i : ℕ) (b u : Scan) (n : ℕ) → IsRead text i b → i < length text → 0 < n → AnswersStep (drop i text) b u (Ok n) → IsRead text (i + n) u
read_on text i b u n h lt some is =
    let rest : drop n (drop i text) ≡ drop (i + n) text = drop-drop n i text in (
      sym (walk_on scan_step scan_end text i n b u lt is.0 some) ∙ h.0,
      ap (ill_formed_from u.at) (sym rest) ∙ sym (passed_on (drop i text) b.at n u.at is.1) ∙ h.1,
    )

both : (text : List ℕ) (i : ℕ) (b : Scan) → IsRead text i b → read text ≡ unless_ill_formed (ill_formed_from b.at (drop i text)) (walk scan_step scan_end (drop i text) 0 b)
unfolding read
both text i b h = sym (ap (λ o. unless_ill_formed o (walk scan_step scan_end (drop i text) 0 b)) h.1 ∙ ap (unless_ill_formed (ill_formed text)) h.0)

-- a fault at a step is the text's
pub refused : (text : List ℕ) (i : ℕ) (b new : Scan) (fault : TokenFault) → IsRead text i b → i < length text → AnswersStep (drop i text) b new (Err fault) → Answers (read text) (Err fault)
refused text i b new (Refused kind p) h lt (inl (is, first)) =
    both text i b h ∙ ap (λ o. unless_ill_formed o (walk scan_step scan_end (drop i text) 0 b)) first ∙ ap (λ k. Err (k, p)) (sym is)
refused text i b new (Refused kind p) h lt (inr (utf8, is)) =
    both text i b h ∙ ap (λ o. unless_ill_formed o (walk scan_step scan_end (drop i text) 0 b)) utf8 ∙ walk_stop scan_step scan_end text i b (Err (kind, p)) lt is
refused text i b new Memory h lt is = tt

-- and at the end all tokens are known
pub all_read : (text : List ℕ) (i : ℕ) (b : Scan) → IsRead text i b → length text ≤ i → read text ≡ Ok b.tokens
all_read text i b h end =
    let utf8 : ill_formed_from b.at (drop i text) ≡ None = ap (ill_formed_from b.at) (drop_of_length-le text end) ∙ nothing_ill_formed b.at in
    both text i b h ∙ ap (λ o. unless_ill_formed o (walk scan_step scan_end (drop i text) 0 b)) utf8 ∙ walk_end scan_step scan_end text i b end
