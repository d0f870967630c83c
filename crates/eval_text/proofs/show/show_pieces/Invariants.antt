use Rattle.std.proofs.Common.{◌≡◌, ◌++◌, string_bytes}
use Rattle.hipe_terms.specs.Shown.{shown}
use Rattle.eval_values.specs.Values.{term_in}
use Rattle.eval_text.specs.Named.{names_of}
use Rattle.eval_text.specs.Pieces.{text_last, size_last}
use Rattle.eval_text.proofs.show.show_pieces.Given as goal

abbrev pub invariant-loop-piece : goal.invariant-loop-piece
invariant-loop-piece l = string_bytes l.text ++ text_last (names_of l.defs) l.pieces.items ≡ string_bytes l.fn.text ++ shown (names_of l.defs) (term_in l.fn.value)

abbrev pub decreases-loop-piece : goal.decreases-loop-piece
decreases-loop-piece l = size_last l.pieces.items
