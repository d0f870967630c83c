-- UTF-8: the first byte of a text that isn't.
use Rattle.std.specs.Prelude.{◌≡◌, ℕ, ◌≤◌, length, take, ◌+◌, Bool, false, ◌&&◌, ◌==◌, nat_le, if◌then◌else◌, List, [], ◌∷◌, slice_index, Option, Some, None, Result, Ok, Err}
use Rattle.std.specs.List.{prefix_len}
use Rattle.std.specs.Str.{IsUtf8}
use Rattle.hipe_terms.specs.declared.place.Place.{Place}
use Rattle.core_text.specs.declared.utf8.Sequence.{Sequence}
use Rattle.core_text.specs.Bytes.{is_from, is_continuation}
use Rattle.core_text.specs.Places.{start, moved, place_after}
use Rattle.core_text.specs.Walks.{walk}

-- what follows a first byte, by table 3-7 of the Unicode Standard: a second byte within limits, and more bytes from 128 to 191
abbrev pub sequence_of : ℕ → Option Sequence
sequence_of c =
    if is_from 194 223 c then Some (record { low = 128; high = 191; more = 0 })
    else (if c == 224 then Some (record { low = 160; high = 191; more = 1 })
    else (if c == 237 then Some (record { low = 128; high = 159; more = 1 })
    else (if is_from 225 239 c then Some (record { low = 128; high = 191; more = 1 })
    else (if c == 240 then Some (record { low = 144; high = 191; more = 2 })
    else (if is_from 241 243 c then Some (record { low = 128; high = 191; more = 2 })
    else (if c == 244 then Some (record { low = 128; high = 143; more = 2 })
    else None))))))

-- does the text go on so?
abbrev pub goes_on : Sequence → List ℕ → Bool
goes_on q [] = false
goes_on q (c ∷ s) = nat_le q.low c && nat_le c q.high && nat_le q.more (prefix_len is_continuation s)

abbrev pub longer_length : Option Sequence → List ℕ → Option ℕ
longer_length None s = None
longer_length (Some q) s = if goes_on q s then Some (q.more + 2) else None

-- how many bytes the character at the beginning has, if it is one
unfoldable pub character_length : List ℕ → Option ℕ
character_length [] = None
character_length (c ∷ s) = if nat_le c 127 then Some 1 else longer_length (sequence_of c) s

abbrev pub character_step_by : Option ℕ → ℕ → Place → Result (ℕ × Place) (Option Place)
character_step_by None c p = Err (Some p)
character_step_by (Some n) c p = Ok (n, moved p c)

abbrev pub character_step : List ℕ → Place → Result (ℕ × Place) (Option Place)
character_step s p = character_step_by (character_length s) (slice_index s 0) p

abbrev pub no_place : Place → Option Place
no_place p = None

-- the place of the first byte that isn't UTF-8 of a text that goes on at a place
unfoldable pub ill_formed_from : Place → List ℕ → Option Place
ill_formed_from p text = walk character_step no_place text 0 p

-- the place of the first byte that isn't UTF-8
unfoldable pub ill_formed : List ℕ → Option Place
ill_formed text = walk character_step no_place text 0 start

-- n bytes at the beginning of a text that goes on at the place p are UTF-8, and q is the place behind them
pub record ArePassed (s : List ℕ) (p : Place) (n : ℕ) (q : Place) : Type 0 where
  pub within : n ≤ length s
  pub utf8 : IsUtf8 (take n s)
  pub place : q ≡ place_after p (take n s)
