-- What is read and written at a place.
use Rattle.std.proofs.Common.{◌≡◌, ℕ, ◌≤◌, List, [], length, sym, ap, ◌∙◌, arith}
use Rattle.std.proofs.lemmas.List.{length-replicate}
use Rattle.std.specs.Prelude.{Option}
use Rattle.std.specs.Option.{option_map, option_and_then}
use Rattle.region_memory.specs.declared.layout.TheConstants.{ARGUMENT_WORDS, STACK_LEAST, STACK_LIMIT, HEAP_LIMIT}
use Rattle.region_memory.specs.declared.region.Place.{Place}
use Rattle.region_memory.specs.Regions.{Regions, IsWithinLimits, zeros, opened, spot, read_spot, write_spot, word_at, with_word}
use Rattle.region_memory.specs.Seen.{spot_of}

-- what is read, by the place that the code found
pub read_as : (r : Regions) (address : ℕ) (o q : Option Place) → option_map spot_of o ≡ spot r address → o ≡ q → word_at r address ≡ option_and_then (read_spot r) (option_map spot_of q)
unfolding word_at
read_as r address o q e h = ap (option_and_then (read_spot r)) (sym e ∙ ap (option_map spot_of) h)

-- what is written, by the place that the code found
pub write_as : (r : Regions) (address value : ℕ) (o q : Option Place) → option_map spot_of o ≡ spot r address → o ≡ q → with_word r address value ≡ option_and_then (write_spot r value) (option_map spot_of q)
unfolding with_word
write_as r address value o q e h = ap (option_and_then (write_spot r value)) (sym e ∙ ap (option_map spot_of) h)

-- ---- the regions that a run begins with

length_zeros : (count : ℕ) → length (zeros count) ≡ count
unfolding zeros
length_zeros count = length-replicate count 0

pub opened_parts : (code table arguments stack heap : List ℕ) (heap_words stack_words : ℕ) → code ≡ [] → table ≡ [] → arguments ≡ zeros ARGUMENT_WORDS → stack ≡ zeros stack_words → heap ≡ zeros heap_words → record { code = code; table = table; arguments = arguments; stack = stack; heap = heap } ≡ opened heap_words stack_words
unfolding opened
opened_parts code table arguments stack heap heap_words stack_words c t a s h = cc

pub opened_within : (heap stack : ℕ) → heap ≤ HEAP_LIMIT → STACK_LEAST ≤ stack → stack ≤ STACK_LIMIT → IsWithinLimits (opened heap stack)
unfolding opened
opened_within heap stack h least s = record {
  code = omega arith;
  table = omega arith;
  arguments = length_zeros ARGUMENT_WORDS;
  stack_least = let e = length_zeros stack in omega arith;
  stack = let e = length_zeros stack in omega arith;
  heap = let e = length_zeros heap in omega arith;
}
