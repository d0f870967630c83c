use Rattle.std.proofs.Common.{◌≡◌, Some, string_bytes}
use Rattle.heap_terms.specs.Terms.{term_at}
use Rattle.heap_terms.specs.Seen.{symbols_of}
use Rattle.heap_terms.specs.Pieces.{followed_by, text_of, text_last, size_last}
use Rattle.heap_terms.proofs.show.show_pieces.Given as goal

abbrev pub invariant-loop-piece : goal.invariant-loop-piece
invariant-loop-piece l =
    followed_by (Some (string_bytes l.text)) (text_last (symbols_of l.symbols) l.heap l.pieces.items)
    ≡ followed_by (Some (string_bytes l.fn.text)) (text_of (symbols_of l.symbols).definitions (term_at (symbols_of l.symbols) l.heap l.word))

abbrev pub decreases-loop-piece : goal.decreases-loop-piece
decreases-loop-piece l = size_last (symbols_of l.symbols) l.heap l.pieces.items
