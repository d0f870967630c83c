-- What the reader finds: the run of the machine over the terminals of a text.
use Rattle.std.specs.Prelude.{◌≡◌, ℕ, List, [], Result, Ok, Err}
use Rattle.hipe_terms.specs.declared.place.Place.{Place}
use Rattle.hipe_terms.specs.declared.constant.Call.{Call}
use Rattle.core_token.specs.Reading as T
use Rattle.core_ast.specs.declared.tree.Module.{Module}
use Rattle.core_grammar.specs.Language.{limit}
use Rattle.core_parser.specs.Values.{Values, top, to_module, to_call}
use Rattle.core_parser.specs.Machine.{Answer, run, module_start, call_start}
use Rattle.core_parser_steps.specs.declared.refusal.Refusal.{Refusal}
use Rattle.hipe_base.specs.declared.limits.TheConstants.{LEVEL_LIMIT}
use Rattle.core_reader.specs.declared.refusal.ReadRefusal.{ReadRefusal}
use Rattle.core_reader.specs.declared.refusal.CallRefusal.{CallRefusal}
use Rattle.core_reader.specs.Terminals.{terminals_of}
use Rattle.core_reader.specs.Language.{end_of, token_refusal, fault_refusal}

abbrev pub as_module : Answer → Result Module ReadRefusal
as_module (Ok vs) = Ok (to_module (top vs))
as_module (Err (f, p)) = Err (fault_refusal f p)

abbrev pub module_of_tokens : List ℕ → T.Reading → Result Module ReadRefusal
module_of_tokens s (Ok ts) = as_module (run (limit LEVEL_LIMIT) (end_of s) module_start [] (terminals_of s ts))
module_of_tokens s (Err (k, p)) = Err (token_refusal k p)

-- the module that is found in a text, or a refusal
unfoldable pub module_of : List ℕ → Result Module ReadRefusal
module_of s = module_of_tokens s (T.read s)

-- it is found, where memory may run out
abbrev pub Found : Result Module ReadRefusal → Result Module ReadRefusal → Type 0
Found r (Ok m) = r ≡ Ok m
Found r (Err (ReadRefusal.Token p)) = r ≡ Err (ReadRefusal.Token p)
Found r (Err (ReadRefusal.WideInteger p)) = r ≡ Err (ReadRefusal.WideInteger p)
Found r (Err (ReadRefusal.LongAtom p)) = r ≡ Err (ReadRefusal.LongAtom p)
Found r (Err (ReadRefusal.Syntax p)) = r ≡ Err (ReadRefusal.Syntax p)
Found r (Err (ReadRefusal.TooDeep p)) = r ≡ Err (ReadRefusal.TooDeep p)
Found r (Err (ReadRefusal.NotInProfile p)) = r ≡ Err (ReadRefusal.NotInProfile p)
Found r (Err ReadRefusal.Memory) = Unit {0}

abbrev pub as_call : Answer → Result Call Place
as_call (Ok vs) = Ok (to_call (top vs))
as_call (Err (f, p)) = Err p

abbrev pub call_of_tokens : List ℕ → T.Reading → Result Call Place
call_of_tokens s (Ok ts) = as_call (run (limit LEVEL_LIMIT) (end_of s) call_start [] (terminals_of s ts))
call_of_tokens s (Err (k, p)) = Err p

-- the call that is found in a text, or where it is none
unfoldable pub call_of : List ℕ → Result Call Place
call_of s = call_of_tokens s (T.read s)

abbrev pub FoundCall : Result Call Place → Result Call CallRefusal → Type 0
FoundCall r (Ok c) = r ≡ Ok c
FoundCall r (Err (CallRefusal.Refused p)) = r ≡ Err p
FoundCall r (Err CallRefusal.Memory) = Unit {0}

-- what a run answers, where memory may run out
abbrev pub AnswersRun : Answer → Result Values Refusal → Type 0
AnswersRun r (Ok vs) = r ≡ Ok vs
AnswersRun r (Err (Refusal.At f p)) = r ≡ Err (f, p)
AnswersRun r (Err Refusal.Memory) = Unit {0}
