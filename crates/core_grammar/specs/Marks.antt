-- Keywords and signs are compared by their own equality.
use Rattle.std.specs.Prelude.{Bool}
use denote.Enum.Bare.{sameb}
use Rattle.core_grammar.specs.contracts.terminal.Mark.{the_type}
use Rattle.core_grammar.specs.declared.terminal.Mark.{Mark}

-- whether two are one, as `==` says it
abbrev pub same_mark : Mark → Mark → Bool
same_mark = sameb the_type
