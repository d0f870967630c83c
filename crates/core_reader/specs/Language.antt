-- What texts read as: a text has tokens, and their terminals are a module or a call by the grammar.
use Rattle.std.specs.Prelude.{◌≡◌, ℕ, List, Result, Ok, Err}
use Rattle.hipe_terms.specs.declared.place.Place.{Place}
use Rattle.hipe_terms.specs.declared.constant.Call.{Call}
use Rattle.core_text.specs.Places.{start, place_after}
use Rattle.core_token.specs.declared.token.Token.{Token}
use Rattle.core_token.specs.declared.token.TokenKind.{TokenKind}
use Rattle.core_token.specs.Text.{AreTokensOf, IsRefused}
use Rattle.core_ast.specs.declared.tree.Module.{Module}
use Rattle.core_grammar.specs.declared.fault.Fault.{Fault}
use Rattle.core_grammar.specs.Language.{limit, Derives, DerivesCall, RefusedModule, RefusedCall}
use Rattle.hipe_base.specs.declared.limits.TheConstants.{LEVEL_LIMIT}
use Rattle.core_reader.specs.declared.refusal.ReadRefusal.{ReadRefusal}
use Rattle.core_reader.specs.declared.refusal.CallRefusal.{CallRefusal}
use Rattle.core_reader.specs.Terminals.{terminals_of}

-- the place of a text's end
abbrev pub end_of : List ℕ → Place
end_of s = place_after start s

-- a text reads as this module: its terminals are derived as it, with no level above the limit
abbrev pub Reads : List ℕ → Module → Type 0
Reads s m = (ts : List Token) × AreTokensOf s ts × Derives (limit LEVEL_LIMIT) (terminals_of s ts) m

-- a fault of tokens, as the reader's refusal
abbrev pub token_refusal : TokenKind → Place → ReadRefusal
token_refusal TokenKind.Token p = ReadRefusal.Token p
token_refusal TokenKind.WideInteger p = ReadRefusal.WideInteger p
token_refusal TokenKind.LongAtom p = ReadRefusal.LongAtom p

-- a fault of terminals, as the reader's refusal
abbrev pub fault_refusal : Fault → Place → ReadRefusal
fault_refusal Fault.Syntax p = ReadRefusal.Syntax p
fault_refusal Fault.NotInProfile p = ReadRefusal.NotInProfile p
fault_refusal Fault.TooDeep p = ReadRefusal.TooDeep p

-- why and where a text is refused: it has no tokens, or else its terminals are no module
pub data IsRefusedAs (s : List ℕ) : ReadRefusal → Type 0 where
  no_tokens : (k : TokenKind) (p : Place) → IsRefused s k p → IsRefusedAs s (token_refusal k p)
  no_module : (ts : List Token) (f : Fault) (p : Place) → AreTokensOf s ts → RefusedModule LEVEL_LIMIT (end_of s) (terminals_of s ts) f p → IsRefusedAs s (fault_refusal f p)

-- what the reader answers, where memory may run out
abbrev pub Answers : List ℕ → Result Module ReadRefusal → Type 0
Answers s (Ok m) = Reads s m
Answers s (Err (ReadRefusal.Token p)) = IsRefusedAs s (ReadRefusal.Token p)
Answers s (Err (ReadRefusal.WideInteger p)) = IsRefusedAs s (ReadRefusal.WideInteger p)
Answers s (Err (ReadRefusal.LongAtom p)) = IsRefusedAs s (ReadRefusal.LongAtom p)
Answers s (Err (ReadRefusal.Syntax p)) = IsRefusedAs s (ReadRefusal.Syntax p)
Answers s (Err (ReadRefusal.TooDeep p)) = IsRefusedAs s (ReadRefusal.TooDeep p)
Answers s (Err (ReadRefusal.NotInProfile p)) = IsRefusedAs s (ReadRefusal.NotInProfile p)
Answers s (Err ReadRefusal.Memory) = Unit {0}

-- a text reads as no module
abbrev pub ReadsNone : List ℕ → Type 0
ReadsNone s = (m : Module) → ¬ Reads s m

-- a text reads as nothing else than what was answered
abbrev pub Only : List ℕ → Result Module ReadRefusal → Type 0
Only s (Ok m) = (n : Module) → Reads s n → n ≡ m
Only s (Err (ReadRefusal.Token p)) = ReadsNone s
Only s (Err (ReadRefusal.WideInteger p)) = ReadsNone s
Only s (Err (ReadRefusal.LongAtom p)) = ReadsNone s
Only s (Err (ReadRefusal.Syntax p)) = ReadsNone s
Only s (Err (ReadRefusal.TooDeep p)) = ReadsNone s
Only s (Err (ReadRefusal.NotInProfile p)) = ReadsNone s
Only s (Err ReadRefusal.Memory) = Unit {0}

-- a text reads as this call
abbrev pub ReadsCall : List ℕ → Call → Type 0
ReadsCall s c = (ts : List Token) × AreTokensOf s ts × DerivesCall (limit LEVEL_LIMIT) (terminals_of s ts) c

-- where a text is no call: it has no tokens from there on, or else its terminals are no call
pub data IsNoCall (s : List ℕ) : Place → Type 0 where
  no_call_tokens : (k : TokenKind) (p : Place) → IsRefused s k p → IsNoCall s p
  no_call : (ts : List Token) (f : Fault) (p : Place) → AreTokensOf s ts → RefusedCall LEVEL_LIMIT (end_of s) (terminals_of s ts) f p → IsNoCall s p

abbrev pub AnswersCall : List ℕ → Result Call CallRefusal → Type 0
AnswersCall s (Ok c) = ReadsCall s c
AnswersCall s (Err (CallRefusal.Refused p)) = IsNoCall s p
AnswersCall s (Err CallRefusal.Memory) = Unit {0}

abbrev pub OnlyCall : List ℕ → Result Call CallRefusal → Type 0
OnlyCall s (Ok c) = (d : Call) → ReadsCall s d → d ≡ c
OnlyCall s (Err (CallRefusal.Refused p)) = (d : Call) → ¬ ReadsCall s d
OnlyCall s (Err CallRefusal.Memory) = Unit {0}
