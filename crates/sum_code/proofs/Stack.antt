-- The stack, where all else of the memory stays.
use Rattle.std.proofs.Common.{◌≡◌, ◌≢◌, ℕ, zero, suc, ◌+◌, ◌*◌, ◌<◌, ◌≤◌, List, [], ◌∷◌, length, Some, refl, sym, ap, subst, arith}
use Rattle.std.specs.Prelude.{slice_get, slice_set}
use Rattle.std.specs.Option.{option_and_then}
use Rattle.region_memory.specs.declared.layout.TheConstants.{STACK_BEGIN, STACK_LEAST, STACK_LIMIT}
use Rattle.region_memory.specs.Regions.{Regions, IsWithinLimits, InStack, spot, read_spot, write_spot, word_at, with_word}
use Rattle.region_memory.proofs.Spots.{exact}

-- ---- one word of a list after a write

pub set_get_same : (xs : List ℕ) (i w : ℕ) → i < length xs → slice_get (slice_set xs i w) i ≡ Some w
set_get_same [] i w lt = absurd (omega arith)
set_get_same (x ∷ xs) zero w lt = refl
set_get_same (x ∷ xs) (suc i) w lt = set_get_same xs i w (omega arith)

pub set_get_other : (xs : List ℕ) (i k w : ℕ) → k ≢ i → slice_get (slice_set xs i w) k ≡ slice_get xs k
set_get_other [] i k w ne = refl
set_get_other (x ∷ xs) zero zero w ne = absurd (ne refl)
set_get_other (x ∷ xs) zero (suc k) w ne = refl
set_get_other (x ∷ xs) (suc i) zero w ne = refl
set_get_other (x ∷ xs) (suc i) (suc k) w ne = set_get_other xs i k w (λ e. ne (ap suc e))

-- the words from the k-th on are the same
abbrev pub SameFrom : ℕ → List ℕ → List ℕ → Type 0
SameFrom k old new = (i : ℕ) → k ≤ i → slice_get new i ≡ slice_get old i

-- ---- memory with another stack

abbrev pub with_stack : Regions → List ℕ → Regions
with_stack r stack = record r { stack = stack }

with_stack_within : (r : Regions) (stack : List ℕ) → IsWithinLimits r → length stack ≡ length r.stack → IsWithinLimits (with_stack r stack)
with_stack_within r stack l size = record {
  code = l.code;
  table = l.table;
  arguments = l.arguments;
  stack_least = subst (λ n. STACK_LEAST ≤ n) (sym size) l.stack_least;
  stack = subst (λ n. n ≤ STACK_LIMIT) (sym size) l.stack;
  heap = l.heap;
}

spot_of_word : (r : Regions) (stack : List ℕ) (i : ℕ) → IsWithinLimits r → length stack ≡ length r.stack → i < length stack → spot (with_stack r stack) (STACK_BEGIN + 8 * i) ≡ Some (InStack i)
spot_of_word r stack i l size lt = (exact (with_stack r stack) (with_stack_within r stack l size)).found (InStack i) lt

pub stack_read : (r : Regions) (stack : List ℕ) (i : ℕ) → IsWithinLimits r → length stack ≡ length r.stack → i < length stack → word_at (with_stack r stack) (STACK_BEGIN + 8 * i) ≡ slice_get stack i
unfolding word_at
stack_read r stack i l size lt = ap (option_and_then (read_spot (with_stack r stack))) (spot_of_word r stack i l size lt)

pub stack_written : (r : Regions) (stack : List ℕ) (i word : ℕ) → IsWithinLimits r → length stack ≡ length r.stack → i < length stack → with_word (with_stack r stack) (STACK_BEGIN + 8 * i) word ≡ Some (with_stack r (slice_set stack i word))
unfolding with_word
stack_written r stack i word l size lt = ap (option_and_then (write_spot (with_stack r stack) word)) (spot_of_word r stack i l size lt)
