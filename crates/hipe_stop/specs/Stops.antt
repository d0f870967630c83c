-- The exit status and the line of each stop, and the stops of the refusals and faults of the calls below.
use Rattle.std.specs.Prelude.{ℕ, List, [], ◌∷◌, ◌++◌, codes}
use Rattle.std.specs.Fmt.{decimal}
use Rattle.hipe_terms.specs.declared.place.Place.{Place}
use Rattle.hipe_edge.specs.declared.reading.ReadAllFault.{ReadAllFault}
use Rattle.hipe_edge.specs.declared.reading.ReadAllFault.TheVariants as reads
use Rattle.core_ast.specs.RuleNames.{rule_name}
use Rattle.core_reader.specs.declared.refusal.CallRefusal.{CallRefusal}
use Rattle.core_reader.specs.declared.refusal.ReadRefusal.{ReadRefusal}
use Rattle.core_lint.specs.declared.refusal.LintRefusal.{LintRefusal}
use Rattle.hipe_stop.specs.declared.stop.Reason.{Reason}
use Rattle.hipe_stop.specs.declared.stop.Stop.{Stop}

-- the exit status
abbrev pub status_of : Stop → ℕ
status_of Stop.Arguments = 2
status_of (Stop.Call p) = 2
status_of Stop.TooLong = 3
status_of (Stop.Refused r p) = 3
status_of Stop.ReadFault = 6
status_of Stop.WriteFault = 7
status_of Stop.Memory = 8

-- the name of a reason in a line
abbrev pub name_of : Reason → List ℕ
name_of Reason.Token = codes "token"
name_of Reason.WideInteger = codes "wide_integer"
name_of Reason.LongAtom = codes "long_atom"
name_of Reason.Syntax = codes "syntax"
name_of Reason.TooDeep = codes "too_deep"
name_of Reason.NotInProfile = codes "not_in_profile"
name_of (Reason.Broken rule) = rule_name rule
name_of Reason.NotYet = codes "not_yet"

-- a name, and a place as LINE:COL
abbrev pub placed : List ℕ → Place → List ℕ
placed name p = codes "hipe: " ++ name ++ codes " " ++ decimal p.line ++ codes ":" ++ decimal p.col

-- the line of a stop, without its newline
abbrev pub text_of : Stop → List ℕ
text_of Stop.Arguments = codes "hipe: words"
text_of (Stop.Call p) = placed (codes "call") p
text_of Stop.TooLong = codes "hipe: too_long"
text_of (Stop.Refused r p) = placed (name_of r) p
text_of Stop.ReadFault = codes "hipe: read_fault"
text_of Stop.WriteFault = codes "hipe: write_fault"
text_of Stop.Memory = codes "hipe: memory"

-- the line of a stop
abbrev pub line_of : Stop → List ℕ
line_of stop = text_of stop ++ 10 ∷ []

-- the status where the line can't be written: out of memory keeps its own
abbrev pub status_unwritten : Stop → ℕ
status_unwritten Stop.Memory = 8
status_unwritten _ = 7

-- ---- the stops of the calls below

abbrev pub stop_of_source : ReadAllFault → Stop
stop_of_source reads.ReadFault = Stop.ReadFault
stop_of_source reads.TooLong = Stop.TooLong
stop_of_source reads.Memory = Stop.Memory

abbrev pub stop_of_call : CallRefusal → Stop
stop_of_call (CallRefusal.Refused p) = Stop.Call p
stop_of_call CallRefusal.Memory = Stop.Memory

abbrev pub stop_of_reading : ReadRefusal → Stop
stop_of_reading (ReadRefusal.Token p) = Stop.Refused Reason.Token p
stop_of_reading (ReadRefusal.WideInteger p) = Stop.Refused Reason.WideInteger p
stop_of_reading (ReadRefusal.LongAtom p) = Stop.Refused Reason.LongAtom p
stop_of_reading (ReadRefusal.Syntax p) = Stop.Refused Reason.Syntax p
stop_of_reading (ReadRefusal.TooDeep p) = Stop.Refused Reason.TooDeep p
stop_of_reading (ReadRefusal.NotInProfile p) = Stop.Refused Reason.NotInProfile p
stop_of_reading ReadRefusal.Memory = Stop.Memory

abbrev pub stop_of_lint : LintRefusal → Stop
stop_of_lint (LintRefusal.Broken rule p) = Stop.Refused (Reason.Broken rule) p
stop_of_lint LintRefusal.Memory = Stop.Memory
