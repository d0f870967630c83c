-- What is read of a text is what it reads as.
use Rattle.std.proofs.Common.{◌≡◌, ℕ, List, [], Result, Ok, Err, refl, subst}
use Rattle.hipe_terms.specs.declared.place.Place.{Place}
use Rattle.hipe_terms.specs.declared.constant.Call.{Call}
use Rattle.core_token.specs.declared.token.Token.{Token}
use Rattle.core_token.specs.Text.{AreTokensOf}
use Rattle.core_token.specs.Reading as T
use Rattle.core_token.proofs.Cuts.{tokens_read, fault_found}
use Rattle.core_ast.specs.declared.tree.Module.{Module}
use Rattle.core_grammar.specs.Language.{limit}
use Rattle.core_grammar.specs.Language as G
use Rattle.core_parser.specs.Machine.{Answer, run, module_start, call_start, module_read, call_read}
use Rattle.core_parser.proofs.Answering.{reads_modules, reads_calls}
use Rattle.hipe_base.specs.declared.limits.TheConstants.{LEVEL_LIMIT}
use Rattle.core_reader.specs.declared.refusal.ReadRefusal.{ReadRefusal}
use Rattle.core_reader.specs.declared.refusal.CallRefusal.{CallRefusal}
use Rattle.core_reader.specs.Terminals.{terminals_of}
use Rattle.core_reader.specs.Language.{end_of, no_tokens, no_module, Answers, Only, no_call_tokens, no_call, AnswersCall, OnlyCall}
use Rattle.core_reader.specs.Laws.{IsAnswer, SomeAnswer, IsCallAnswer, SomeCallAnswer}
use Rattle.core_reader.specs.Reading.{as_module, module_of_tokens, module_of, Found, as_call, call_of_tokens, call_of, FoundCall}
use Rattle.core_reader.proofs.Unique.{one_reading, refused_reads_none, one_reading_of_call, refused_reads_no_call}

module _ (s : List ℕ) where
  of_run : (ts : List Token) → AreTokensOf s ts → (r : Answer) → G.IsModuleAnswer LEVEL_LIMIT (end_of s) (terminals_of s ts) (module_read r) → IsAnswer s (as_module r)
  of_run ts t (Ok vs) h = (ts, t, h)
  of_run ts t (Err (f, p)) h = no_module ts f p t h

  of_tokens : (r : T.Reading) → T.read s ≡ r → IsAnswer s (module_of_tokens s r)
  of_tokens (Ok ts) h = of_run ts (tokens_read s ts h) (run (limit LEVEL_LIMIT) (end_of s) module_start [] (terminals_of s ts)) (reads_modules LEVEL_LIMIT (end_of s) (terminals_of s ts))
  of_tokens (Err (k, p)) h = no_tokens k p (fault_found s k p h)

module_found : (s : List ℕ) → IsAnswer s (module_of s)
unfolding module_of
module_found s = of_tokens s (T.read s) refl

is_read : (s : List ℕ) (r : Result Module ReadRefusal) → module_of s ≡ r → IsAnswer s r
is_read s r h = subst (IsAnswer s) h (module_found s)

pub answered : (s : List ℕ) (r : Result Module ReadRefusal) → Found (module_of s) r → Answers s r
answered s (Ok m) h = is_read s (Ok m) h
answered s (Err (ReadRefusal.Token p)) h = is_read s (Err (ReadRefusal.Token p)) h
answered s (Err (ReadRefusal.WideInteger p)) h = is_read s (Err (ReadRefusal.WideInteger p)) h
answered s (Err (ReadRefusal.LongAtom p)) h = is_read s (Err (ReadRefusal.LongAtom p)) h
answered s (Err (ReadRefusal.Syntax p)) h = is_read s (Err (ReadRefusal.Syntax p)) h
answered s (Err (ReadRefusal.TooDeep p)) h = is_read s (Err (ReadRefusal.TooDeep p)) h
answered s (Err (ReadRefusal.NotInProfile p)) h = is_read s (Err (ReadRefusal.NotInProfile p)) h
answered s (Err ReadRefusal.Memory) h = tt

pub only : (s : List ℕ) (r : Result Module ReadRefusal) → Found (module_of s) r → Only s r
only s (Ok m) h = λ n other. one_reading s n m other (is_read s (Ok m) h)
only s (Err (ReadRefusal.Token p)) h = refused_reads_none s (ReadRefusal.Token p) (is_read s (Err (ReadRefusal.Token p)) h)
only s (Err (ReadRefusal.WideInteger p)) h = refused_reads_none s (ReadRefusal.WideInteger p) (is_read s (Err (ReadRefusal.WideInteger p)) h)
only s (Err (ReadRefusal.LongAtom p)) h = refused_reads_none s (ReadRefusal.LongAtom p) (is_read s (Err (ReadRefusal.LongAtom p)) h)
only s (Err (ReadRefusal.Syntax p)) h = refused_reads_none s (ReadRefusal.Syntax p) (is_read s (Err (ReadRefusal.Syntax p)) h)
only s (Err (ReadRefusal.TooDeep p)) h = refused_reads_none s (ReadRefusal.TooDeep p) (is_read s (Err (ReadRefusal.TooDeep p)) h)
only s (Err (ReadRefusal.NotInProfile p)) h = refused_reads_none s (ReadRefusal.NotInProfile p) (is_read s (Err (ReadRefusal.NotInProfile p)) h)
only s (Err ReadRefusal.Memory) h = tt

pub some_answer : SomeAnswer
some_answer s = (module_of s, module_found s)

-- the same for calls

module _ (s : List ℕ) where
  of_call_run : (ts : List Token) → AreTokensOf s ts → (r : Answer) → G.IsCallAnswer LEVEL_LIMIT (end_of s) (terminals_of s ts) (call_read r) → IsCallAnswer s (as_call r)
  of_call_run ts t (Ok vs) h = (ts, t, h)
  of_call_run ts t (Err (f, p)) h = no_call ts f p t h

  of_call_tokens : (r : T.Reading) → T.read s ≡ r → IsCallAnswer s (call_of_tokens s r)
  of_call_tokens (Ok ts) h = of_call_run ts (tokens_read s ts h) (run (limit LEVEL_LIMIT) (end_of s) call_start [] (terminals_of s ts)) (reads_calls LEVEL_LIMIT (end_of s) (terminals_of s ts))
  of_call_tokens (Err (k, p)) h = no_call_tokens k p (fault_found s k p h)

call_found : (s : List ℕ) → IsCallAnswer s (call_of s)
unfolding call_of
call_found s = of_call_tokens s (T.read s) refl

is_call : (s : List ℕ) (r : Result Call Place) → call_of s ≡ r → IsCallAnswer s r
is_call s r h = subst (IsCallAnswer s) h (call_found s)

pub call_answered : (s : List ℕ) (r : Result Call CallRefusal) → FoundCall (call_of s) r → AnswersCall s r
call_answered s (Ok c) h = is_call s (Ok c) h
call_answered s (Err (CallRefusal.Refused p)) h = is_call s (Err p) h
call_answered s (Err CallRefusal.Memory) h = tt

pub only_call : (s : List ℕ) (r : Result Call CallRefusal) → FoundCall (call_of s) r → OnlyCall s r
only_call s (Ok c) h = λ d other. one_reading_of_call s d c other (is_call s (Ok c) h)
only_call s (Err (CallRefusal.Refused p)) h = refused_reads_no_call s p (is_call s (Err p) h)
only_call s (Err CallRefusal.Memory) h = tt

pub some_call_answer : SomeCallAnswer
some_call_answer s = (call_of s, call_found s)

pub ruleset answering = (answered, only, call_answered, only_call)
