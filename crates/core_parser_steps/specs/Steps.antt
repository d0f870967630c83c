-- What the parser's moves ask and answer.
use Rattle.std.specs.Prelude.{◌<◌, ◌^◌}
use Rattle.core_grammar.specs.declared.terminal.Kind.{Kind}
use Rattle.core_parser.specs.declared.moved.Moved.{Moved}

-- an integer without a sign is one of 64 bits with a sign
abbrev pub IsNarrow : Kind → Type 0
IsNarrow (Kind.Natural n) = n < 2 ^ 63
IsNarrow _ = Unit {0}

-- a part begins with a terminal, or the terminal goes on with nothing
abbrev pub IsPart : Moved → Type 0
IsPart (Moved.Begins k) = Unit {0}
IsPart (Moved.Stuck wanted) = Unit {0}
IsPart Moved.Plain = ⊥
IsPart (Moved.Argument i k) = ⊥
IsPart Moved.Operand = ⊥
