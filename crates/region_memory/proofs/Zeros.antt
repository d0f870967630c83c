-- What is read where nothing was written yet.
use Rattle.std.proofs.Common.{◌≡◌, ℕ, zero, suc, refl, arith, replicate}
use Rattle.std.specs.Prelude.{Option, Some, None, slice_get}
use Rattle.std.specs.Option.{option_and_then}
use Rattle.region_memory.specs.declared.layout.TheConstants.{ARGUMENT_WORDS}
use Rattle.region_memory.specs.Regions.{zeros, opened, Spot, InCode, InTable, InArguments, InStack, InHeap, spot, read_spot, word_at}
use Rattle.region_memory.specs.Laws.{LiesIn}
use Rattle.region_memory.proofs.Spots.{only}

get_replicated : (count i value : ℕ) → slice_get (replicate count 0) i ≡ Some value → value ≡ 0
get_replicated zero i value e = absurd (cc)
get_replicated (suc n) zero value e = cc
get_replicated (suc n) (suc i) value e = get_replicated n i value e

get_zeros : (count i value : ℕ) → slice_get (zeros count) i ≡ Some value → value ≡ 0
unfolding zeros
get_zeros count i value e = get_replicated count i value e

read_opened : (heap stack value : ℕ) (s : Spot) → LiesIn (opened heap stack) s → read_spot (opened heap stack) s ≡ Some value → value ≡ 0
unfolding opened
read_opened heap stack value (InCode byte) lies e = absurd (omega (arith, lies.1))
read_opened heap stack value (InTable word) lies e = absurd (cc)
read_opened heap stack value (InArguments word) lies e = get_zeros ARGUMENT_WORDS word value e
read_opened heap stack value (InStack word) lies e = get_zeros stack word value e
read_opened heap stack value (InHeap word) lies e = get_zeros heap word value e

zero_at : (heap stack address value : ℕ) (o : Option Spot) → spot (opened heap stack) address ≡ o → option_and_then (read_spot (opened heap stack)) o ≡ Some value → value ≡ 0
zero_at heap stack address value None f e = absurd (cc)
zero_at heap stack address value (Some s) f e = read_opened heap stack value s (only (opened heap stack) address s f).0 e

pub opened_zero : (heap stack address value : ℕ) → word_at (opened heap stack) address ≡ Some value → value ≡ 0
unfolding word_at
opened_zero heap stack address value e = zero_at heap stack address value (spot (opened heap stack) address) refl e
