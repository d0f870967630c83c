-- Sources that were read to their end or past the limit, and streams that nothing was read from or written to.
use Rattle.std.proofs.Common.{◌≡◌, ℕ, ◌+◌, ◌<◌, ◌≤◌, List, [], ◌++◌, length, take, Option, Some, None, refl, sym, ap, ◌∙◌, arith, length-append, append-nil}
use Rattle.std.specs.Prelude.{IfSome, unwrap_or}
use Rattle.std.specs.Io.KnownBytes.{Appends, Keeps, Consumes, IsAtEnd}
use Rattle.std.proofs.Math.Seq.{take-append_seam}
use Rattle.std.proofs.lemmas.List.{take_all}
use Rattle.hipe_base.specs.declared.limits.TheConstants.{TEXT_LIMIT}
use Rattle.hipe_edge.specs.Streams.{Stream, stream, Untouched, Gained, GainedPrefix, HadLeft}
use Rattle.hipe_stop.specs.Inputs.{WasRead}

-- ---- nothing was read or written

pub keeps_same : (known : Option (List ℕ)) → Keeps known known
keeps_same None = tt
keeps_same (Some xs) = refl

-- the empty text is a prefix of each text
pub untouched_gains : (sink : Stream) → Untouched sink → Gained sink []
untouched_gains sink u = of sink.before sink.after u
  where
    of : (before after : Option (List ℕ)) → Keeps before after → Appends before after []
    of None after k = tt
    of (Some xs) None k = absurd k
    of (Some xs) (Some ys) k = k ∙ sym (append-nil xs)

pub untouched_prefix : (sink : Stream) (text : List ℕ) → Untouched sink → GainedPrefix sink text
untouched_prefix sink text u = (0, untouched_gains sink u)

pub had_known : (source : Stream) → HadLeft source (unwrap_or source.before [])
had_known source = of source.before
  where
    of : (known : Option (List ℕ)) → IfSome known (λ bytes. bytes ≡ unwrap_or known [])
    of None = tt
    of (Some xs) = refl

-- ---- the source was read

take_seam : (xs ys : List ℕ) (n : ℕ) → length xs ≡ n → take n (xs ++ ys) ≡ xs
take_seam xs ys n e = ap (λ k. take k (xs ++ ys)) (sym e) ∙ take-append_seam xs ys

-- a source that was read to its end within the limit
pub read_whole : (left left' : Option (List ℕ)) (f f' : ℕ) (bytes : List ℕ) → Consumes left left' bytes → IsAtEnd left' → length bytes ≤ TEXT_LIMIT
    → HadLeft (stream left left' f f') bytes × WasRead (stream left left' f f') bytes
read_whole None left' f f' bytes c end le = (tt, tt)
read_whole (Some xs) None f f' bytes c end le = absurd c
read_whole (Some xs) (Some ys) f f' bytes c end le =
    let none : bytes ++ ys ≡ bytes = ap (λ r. bytes ++ r) end ∙ append-nil bytes in
    let all : take (TEXT_LIMIT + 1) bytes ≡ bytes = take_all (TEXT_LIMIT + 1) bytes (omega arith) in
    (c ∙ none, c ∙ ap (λ b. b ++ ys) (sym all))

-- a source of which one byte past the limit was read
pub read_past : (left left' : Option (List ℕ)) (f f' : ℕ) (taken : List ℕ) → Consumes left left' taken → length taken ≡ TEXT_LIMIT + 1
    → (bytes : List ℕ) × HadLeft (stream left left' f f') bytes × WasRead (stream left left' f f') bytes × (TEXT_LIMIT < length bytes)
read_past None left' f f' taken c size = (taken, tt, tt, omega arith)
read_past (Some xs) None f f' taken c size = absurd c
read_past (Some xs) (Some ys) f f' taken c size =
    let all : take (TEXT_LIMIT + 1) xs ≡ taken = ap (take (TEXT_LIMIT + 1)) c ∙ take_seam taken ys (TEXT_LIMIT + 1) size in
    let longer : length xs ≡ length (taken ++ ys) = ap length c in
    (xs, refl, c ∙ ap (λ b. b ++ ys) (sym all), omega (arith, longer, length-append taken ys))
