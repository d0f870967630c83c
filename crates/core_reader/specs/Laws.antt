-- Each text has one answer.
use Rattle.std.specs.Prelude.{◌≡◌, ℕ, List, All, Result, Ok, Err}
use Rattle.hipe_terms.specs.declared.constant.Call.{Call}
use Rattle.hipe_terms.specs.declared.place.Place.{Place}
use Rattle.core_token.specs.declared.token.Token.{Token}
use Rattle.core_token.specs.Text.{AreTokensOf}
use Rattle.core_ast.specs.declared.tree.Module.{Module}
use Rattle.core_reader.specs.declared.refusal.ReadRefusal.{ReadRefusal}
use Rattle.core_reader.specs.Meanings.{TerminalMeans}
use Rattle.core_reader.specs.Language.{Reads, ReadsNone, IsRefusedAs, ReadsCall, IsNoCall}

-- each terminal of a text means what its token spells
abbrev pub TerminalsMean : Type 0
TerminalsMean = (s : List ℕ) (ts : List Token) → AreTokensOf s ts → All (TerminalMeans s) ts

-- what a text is read as: a module, or why and where it is refused
abbrev pub IsAnswer : List ℕ → Result Module ReadRefusal → Type 0
IsAnswer s (Ok m) = Reads s m
IsAnswer s (Err e) = IsRefusedAs s e

-- each text has an answer
abbrev pub SomeAnswer : Type 0
SomeAnswer = (s : List ℕ) → (r : Result Module ReadRefusal) × IsAnswer s r

-- and one alone: the places of the module's parts, and the refusal with its place too
abbrev pub OneAnswer : Type 0
OneAnswer = (s : List ℕ) (a b : Result Module ReadRefusal) → IsAnswer s a → IsAnswer s b → a ≡ b

-- what is refused reads as no module
abbrev pub RefusedReadsNone : Type 0
RefusedReadsNone = (s : List ℕ) (e : ReadRefusal) → IsRefusedAs s e → ReadsNone s

-- the same of calls: a call, or where the text is none
abbrev pub IsCallAnswer : List ℕ → Result Call Place → Type 0
IsCallAnswer s (Ok c) = ReadsCall s c
IsCallAnswer s (Err p) = IsNoCall s p

abbrev pub SomeCallAnswer : Type 0
SomeCallAnswer = (s : List ℕ) → (r : Result Call Place) × IsCallAnswer s r

abbrev pub OneCallAnswer : Type 0
OneCallAnswer = (s : List ℕ) (a b : Result Call Place) → IsCallAnswer s a → IsCallAnswer s b → a ≡ b

abbrev pub RefusedReadsNoCall : Type 0
RefusedReadsNoCall = (s : List ℕ) (p : Place) → IsNoCall s p → (c : Call) → ¬ ReadsCall s c
