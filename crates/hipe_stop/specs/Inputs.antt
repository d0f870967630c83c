-- What a program reads of its input.
use Rattle.std.specs.Prelude.{ℕ, List}
use Rattle.hipe_base.specs.declared.limits.TheConstants.{TEXT_LIMIT}
use Rattle.hipe_edge.specs.Streams.{Stream, WasReadWithin}

-- the source was read to its end, or one byte past the limit
abbrev pub WasRead : Stream → List ℕ → Type 0
WasRead source bytes = WasReadWithin TEXT_LIMIT source bytes
