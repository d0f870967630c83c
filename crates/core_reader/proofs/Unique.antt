-- A text reads as one module or is refused for one reason, and as one call or is none at one place.
use Rattle.std.proofs.Common.{◌≡◌, ℕ, List, Result, Ok, Err, refl, ap, ◌∙◌, subst}
use Rattle.hipe_terms.specs.declared.constant.Call.{Call}
use Rattle.hipe_terms.specs.declared.place.Place.{Place}
use Rattle.core_token.specs.declared.token.TokenKind.{TokenKind}
use Rattle.core_token.proofs.Cuts.{unique}
use Rattle.core_ast.specs.declared.tree.Module.{Module}
use Rattle.core_grammar.specs.declared.fault.Fault.{Fault}
use Rattle.core_grammar.specs.Language.{limit, Derives, DerivesCall, RefusedModule, RefusedCall}
use Rattle.core_parser.proofs.OneAnswer as M
use Rattle.core_parser.proofs.Modules.{one_module, one_call}
use Rattle.hipe_base.specs.declared.limits.TheConstants.{LEVEL_LIMIT}
use Rattle.core_reader.specs.declared.refusal.ReadRefusal.{ReadRefusal}
use Rattle.core_reader.specs.Terminals.{terminals_of}
use Rattle.core_reader.specs.Language.{end_of, token_refusal, fault_refusal, Reads, IsRefusedAs, no_tokens, no_module, ReadsCall, IsNoCall, no_call_tokens, no_call}
use Rattle.core_reader.specs.Laws.{OneAnswer, RefusedReadsNone, OneCallAnswer, RefusedReadsNoCall}

pub one_reading : (s : List ℕ) (m n : Module) → Reads s m → Reads s n → m ≡ n
one_reading s m n (ts, t, d) (us, u, e) =
    one_module (limit LEVEL_LIMIT) (terminals_of s ts) m n d (subst (λ xs. Derives (limit LEVEL_LIMIT) (terminals_of s xs) n) (unique.one_list s us ts u t) e)

-- a text with a fault has no tokens, and else its one list of tokens is derived as no module
pub refused_reads_none : RefusedReadsNone
refused_reads_none s _ (no_tokens k p h) m (us, u, d) = unique.not_both s us k p u h
refused_reads_none s _ (no_module ts f p t r) m (us, u, d) =
    M.refused_derives_no_module LEVEL_LIMIT (end_of s) (terminals_of s ts) f p r m (subst (λ xs. Derives (limit LEVEL_LIMIT) (terminals_of s xs) m) (unique.one_list s us ts u t) d)

same_fault : (k l : TokenKind) (p q : Place) → (k ≡ l) × (p ≡ q) → token_refusal k p ≡ token_refusal l q
same_fault k l p q (a, b) = ap (λ x. token_refusal x p) a ∙ ap (λ x. token_refusal l x) b

same_stop : (f g : Fault) (p q : Place) → f ≡ g → p ≡ q → fault_refusal f p ≡ fault_refusal g q
same_stop f g p q a b = ap (λ x. fault_refusal x p) a ∙ ap (λ x. fault_refusal g x) b

parts : (f g : Fault) (p q : Place) (a b : Result Module (Fault × Place)) → a ≡ Err (f, p) → b ≡ Err (g, q) → a ≡ b → (f ≡ g) × (p ≡ q)
parts f g p q a b d e h = let both : ◌≡◌ {A = Fault × Place} (f, p) (g, q) = cc in (ap (λ (x : Fault × Place). x.0) both, ap (λ (x : Fault × Place). x.1) both)

pub one_refusal : (s : List ℕ) (a b : ReadRefusal) → IsRefusedAs s a → IsRefusedAs s b → a ≡ b
one_refusal s _ _ (no_tokens k p h) (no_tokens l q g) = same_fault k l p q (unique.one_fault s k l p q h g)
one_refusal s _ _ (no_tokens k p h) (no_module us g q u r) = absurd (unique.not_both s us k p u h)
one_refusal s _ _ (no_module ts f p t r) (no_tokens l q g) = absurd (unique.not_both s ts l q t g)
one_refusal s _ _ (no_module ts f p t r) (no_module us g q u o) =
    let same : RefusedModule LEVEL_LIMIT (end_of s) (terminals_of s ts) g q = subst (λ xs. RefusedModule LEVEL_LIMIT (end_of s) (terminals_of s xs) g q) (unique.one_list s us ts u t) o in
    let two = parts f g p q (Err (f, p)) (Err (g, q)) refl refl (M.one_module_answer LEVEL_LIMIT (end_of s) (terminals_of s ts) (Err (f, p)) (Err (g, q)) r same) in
    same_stop f g p q two.0 two.1

pub one_answer : OneAnswer
one_answer s (Ok m) (Ok n) a b = ap (λ x. Ok x) (one_reading s m n a b)
one_answer s (Ok m) (Err e) a b = absurd (refused_reads_none s e b m a)
one_answer s (Err e) (Ok n) a b = absurd (refused_reads_none s e a n b)
one_answer s (Err e) (Err f) a b = ap (λ x. Err x) (one_refusal s e f a b)

pub one_reading_of_call : (s : List ℕ) (c d : Call) → ReadsCall s c → ReadsCall s d → c ≡ d
one_reading_of_call s c d (ts, t, x) (us, u, y) =
    one_call (limit LEVEL_LIMIT) (terminals_of s ts) c d x (subst (λ xs. DerivesCall (limit LEVEL_LIMIT) (terminals_of s xs) d) (unique.one_list s us ts u t) y)

pub refused_reads_no_call : RefusedReadsNoCall
refused_reads_no_call s _ (no_call_tokens k p h) c (us, u, d) = unique.not_both s us k p u h
refused_reads_no_call s _ (no_call ts f p t r) c (us, u, d) =
    M.refused_derives_no_call LEVEL_LIMIT (end_of s) (terminals_of s ts) f p r c (subst (λ xs. DerivesCall (limit LEVEL_LIMIT) (terminals_of s xs) c) (unique.one_list s us ts u t) d)

call_place : (f g : Fault) (p q : Place) (a b : Result Call (Fault × Place)) → a ≡ Err (f, p) → b ≡ Err (g, q) → a ≡ b → p ≡ q
call_place f g p q a b d e h = let both : ◌≡◌ {A = Fault × Place} (f, p) (g, q) = cc in ap (λ (x : Fault × Place). x.1) both

pub one_place_of_no_call : (s : List ℕ) (p q : Place) → IsNoCall s p → IsNoCall s q → p ≡ q
one_place_of_no_call s p q (no_call_tokens k _ h) (no_call_tokens l _ g) = (unique.one_fault s k l p q h g).1
one_place_of_no_call s p q (no_call_tokens k _ h) (no_call us g _ u r) = absurd (unique.not_both s us k p u h)
one_place_of_no_call s p q (no_call ts f _ t r) (no_call_tokens l _ g) = absurd (unique.not_both s ts l q t g)
one_place_of_no_call s p q (no_call ts f _ t r) (no_call us g _ u o) =
    let same : RefusedCall LEVEL_LIMIT (end_of s) (terminals_of s ts) g q = subst (λ xs. RefusedCall LEVEL_LIMIT (end_of s) (terminals_of s xs) g q) (unique.one_list s us ts u t) o in
    call_place f g p q (Err (f, p)) (Err (g, q)) refl refl (M.one_call_answer LEVEL_LIMIT (end_of s) (terminals_of s ts) (Err (f, p)) (Err (g, q)) r same)

pub one_call_answer : OneCallAnswer
one_call_answer s (Ok c) (Ok d) a b = ap (λ x. Ok x) (one_reading_of_call s c d a b)
one_call_answer s (Ok c) (Err p) a b = absurd (refused_reads_no_call s p b c a)
one_call_answer s (Err p) (Ok d) a b = absurd (refused_reads_no_call s p a d b)
one_call_answer s (Err p) (Err q) a b = ap (λ x. Err x) (one_place_of_no_call s p q a b)
