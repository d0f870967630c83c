use Rattle.std.proofs.Common.{◌≡◌, ◌++◌, drop, string_bytes}
use Rattle.core_meaning.specs.Output.{printed_lines}
use Rattle.eval_values.specs.Values.{terms_in}
use Rattle.eval_text.specs.Named.{names_of}
use Rattle.eval_source.proofs.lines.show_printed.Given as goal

abbrev pub invariant-loop-value : goal.invariant-loop-value
invariant-loop-value l = string_bytes l.text ++ printed_lines (names_of l.defs) (terms_in (drop l.value-index l.printed)) ≡ string_bytes l.initial.text ++ printed_lines (names_of l.defs) (terms_in l.printed)
