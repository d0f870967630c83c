-- Places: a line ends behind each line feed, and each other code point is one column.
use Rattle.std.specs.Prelude.{ℕ, ◌+◌, ◌==◌, if◌then◌else◌, List, [], ◌∷◌}
use Rattle.hipe_terms.specs.declared.place.Place.{Place}
use Rattle.core_text.specs.Bytes.{is_continuation}

-- the place of the first byte of a text
abbrev pub start : Place
start = record { line = 1; col = 1 }

-- the place behind a byte
abbrev pub moved : Place → ℕ → Place
moved p c =
    if c == 10 then record { line = p.line + 1; col = 1 }
    else (if is_continuation c then p else record { line = p.line; col = p.col + 1 })

-- the place behind some bytes
abbrev pub place_after : Place → List ℕ → Place
place_after p [] = p
place_after p (c ∷ s) = place_after (moved p c) s
