-- What a write leaves.
use Rattle.std.proofs.Common.{◌≡◌, ◌≢◌, ℕ, zero, suc, ◌%◌, ◌<◌, List, [], ◌∷◌, length, refl, sym, ap, ◌∙◌, subst, arith, inl, inr, length-set}
use Rattle.std.specs.Prelude.{◌↔◌, Option, Some, None, IsSome, is_some, slice_get, slice_set}
use Rattle.std.specs.Option.{option_map, option_and_then}
use Rattle.region_memory.specs.declared.layout.TheConstants.{ARGUMENTS_BEGIN, STACK_BEGIN}
use Rattle.region_memory.specs.Regions.{Regions, IsWithinLimits, heap_begin, Spot, InCode, InTable, InArguments, InStack, InHeap, aligned_spot, spot, read_spot, write_spot, word_at, with_word}
use Rattle.region_memory.specs.Laws.{LiesIn, address_of, IsWritable, KeepsSizes}
use Rattle.region_memory.proofs.Places.{word_inside}
use Rattle.region_memory.proofs.Spots.{only, spot_is_aligned, spot_aligned, spot_in_arguments, spot_in_stack, spot_in_heap}

-- ---- lists

get_set_same : (words : List ℕ) (i value : ℕ) → i < length words → slice_get (slice_set words i value) i ≡ Some value
get_set_same [] i value h = absurd (omega arith)
get_set_same (x ∷ xs) zero value h = refl
get_set_same (x ∷ xs) (suc i) value h = get_set_same xs i value (omega arith)

get_set_other : (words : List ℕ) (i j value : ℕ) → j ≢ i → slice_get (slice_set words i value) j ≡ slice_get words j
get_set_other [] i j value h = refl
get_set_other (x ∷ xs) zero zero value h = absurd (h refl)
get_set_other (x ∷ xs) zero (suc j) value h = refl
get_set_other (x ∷ xs) (suc i) zero value h = refl
get_set_other (x ∷ xs) (suc i) (suc j) value h = get_set_other xs i j value (λ e. h (ap suc e))

-- ---- a write at a spot

pub same_sizes : (r after : Regions) (value : ℕ) (s : Spot) → write_spot r value s ≡ Some after → KeepsSizes r after
same_sizes r after value (InCode byte) e = absurd (cc)
same_sizes r after value (InTable word) e = absurd (cc)
same_sizes r after value (InArguments word) e =
    let is : record r { arguments = slice_set r.arguments word value } ≡ after = cc in
    subst (KeepsSizes r) is (record { code = refl; table = refl; arguments = length-set r.arguments word value; stack = refl; heap = refl })
same_sizes r after value (InStack word) e =
    let is : record r { stack = slice_set r.stack word value } ≡ after = cc in
    subst (KeepsSizes r) is (record { code = refl; table = refl; arguments = refl; stack = length-set r.stack word value; heap = refl })
same_sizes r after value (InHeap word) e =
    let is : record r { heap = slice_set r.heap word value } ≡ after = cc in
    subst (KeepsSizes r) is (record { code = refl; table = refl; arguments = refl; stack = refl; heap = length-set r.heap word value })

-- where an access goes is told by the sizes alone
pub same_spot : (r after : Regions) (address : ℕ) → KeepsSizes r after → spot after address ≡ spot r address
unfolding spot aligned_spot
same_spot r after address k = rw (k.code, k.table, k.arguments, k.stack, k.heap) refl

read_same : (r after : Regions) (value : ℕ) (s : Spot) → LiesIn r s → write_spot r value s ≡ Some after → read_spot after s ≡ Some value
read_same r after value (InCode byte) lies e = absurd (cc)
read_same r after value (InTable word) lies e = absurd (cc)
read_same r after value (InArguments word) lies e =
    let is : record r { arguments = slice_set r.arguments word value } ≡ after = cc in
    subst (λ (m : Regions). slice_get m.arguments word ≡ Some value) is (get_set_same r.arguments word value lies)
read_same r after value (InStack word) lies e =
    let is : record r { stack = slice_set r.stack word value } ≡ after = cc in
    subst (λ (m : Regions). slice_get m.stack word ≡ Some value) is (get_set_same r.stack word value lies)
read_same r after value (InHeap word) lies e =
    let is : record r { heap = slice_set r.heap word value } ≡ after = cc in
    subst (λ (m : Regions). slice_get m.heap word ≡ Some value) is (get_set_same r.heap word value lies)

beside_arguments : (r : Regions) (value word : ℕ) (t : Spot) → t ≢ InArguments word → read_spot (record r { arguments = slice_set r.arguments word value }) t ≡ read_spot r t
beside_arguments r value word (InCode i) n = refl
beside_arguments r value word (InTable i) n = refl
beside_arguments r value word (InArguments i) n = get_set_other r.arguments word i value (λ e. n (ap InArguments e))
beside_arguments r value word (InStack i) n = refl
beside_arguments r value word (InHeap i) n = refl

beside_stack : (r : Regions) (value word : ℕ) (t : Spot) → t ≢ InStack word → read_spot (record r { stack = slice_set r.stack word value }) t ≡ read_spot r t
beside_stack r value word (InCode i) n = refl
beside_stack r value word (InTable i) n = refl
beside_stack r value word (InArguments i) n = refl
beside_stack r value word (InStack i) n = get_set_other r.stack word i value (λ e. n (ap InStack e))
beside_stack r value word (InHeap i) n = refl

beside_heap : (r : Regions) (value word : ℕ) (t : Spot) → t ≢ InHeap word → read_spot (record r { heap = slice_set r.heap word value }) t ≡ read_spot r t
beside_heap r value word (InCode i) n = refl
beside_heap r value word (InTable i) n = refl
beside_heap r value word (InArguments i) n = refl
beside_heap r value word (InStack i) n = refl
beside_heap r value word (InHeap i) n = get_set_other r.heap word i value (λ e. n (ap InHeap e))

read_other : (r after : Regions) (value : ℕ) (s t : Spot) → t ≢ s → write_spot r value s ≡ Some after → read_spot after t ≡ read_spot r t
read_other r after value (InCode byte) t n e = absurd (cc)
read_other r after value (InTable word) t n e = absurd (cc)
read_other r after value (InArguments word) t n e =
    let is : record r { arguments = slice_set r.arguments word value } ≡ after = cc in
    subst (λ m. read_spot m t ≡ read_spot r t) is (beside_arguments r value word t n)
read_other r after value (InStack word) t n e =
    let is : record r { stack = slice_set r.stack word value } ≡ after = cc in
    subst (λ m. read_spot m t ≡ read_spot r t) is (beside_stack r value word t n)
read_other r after value (InHeap word) t n e =
    let is : record r { heap = slice_set r.heap word value } ≡ after = cc in
    subst (λ m. read_spot m t ≡ read_spot r t) is (beside_heap r value word t n)

-- ---- a write at an address

-- the spot that was written
pub record Wrote (r after : Regions) (address value : ℕ) : Type 0 where
  pub at : Spot
  pub found : spot r address ≡ Some at
  pub written : write_spot r value at ≡ Some after

wrote_at : (r after : Regions) (address value : ℕ) (o : Option Spot) → spot r address ≡ o → option_and_then (write_spot r value) o ≡ Some after → Wrote r after address value
wrote_at r after address value None f e = absurd (cc)
wrote_at r after address value (Some s) f e = record { at = s; found = f; written = e }

pub wrote : (r after : Regions) (address value : ℕ) → with_word r address value ≡ Some after → Wrote r after address value
unfolding with_word
wrote r after address value e = wrote_at r after address value (spot r address) refl e

pub keeps_sizes : (r after : Regions) (address value : ℕ) → with_word r address value ≡ Some after → KeepsSizes r after
keeps_sizes r after address value e =
    let w = wrote r after address value e in
    same_sizes r after value w.at w.written

pub keeps_limits : (r after : Regions) (address value : ℕ) → with_word r address value ≡ Some after → IsWithinLimits r → IsWithinLimits after
keeps_limits r after address value e l =
    let k = keeps_sizes r after address value e in
    let code : length after.code ≡ length r.code = ap length k.code in
    let table : length after.table ≡ length r.table = ap length k.table in
    record {
      code = let a = l.code in omega arith;
      table = let a = l.table in omega arith;
      arguments = k.arguments ∙ l.arguments;
      stack_least = let a = l.stack_least in let b = k.stack in omega arith;
      stack = let a = l.stack in let b = k.stack in omega arith;
      heap = let a = l.heap in let b = k.heap in omega arith;
    }

pub word_of_spot : (r : Regions) (address : ℕ) (o : Option Spot) → spot r address ≡ o → word_at r address ≡ option_and_then (read_spot r) o
unfolding word_at
word_of_spot r address o e = ap (option_and_then (read_spot r)) e

pub written_read : (r after : Regions) (address value : ℕ) → with_word r address value ≡ Some after → word_at after address ≡ Some value
written_read r after address value e =
    let w = wrote r after address value e in
    let there = same_spot r after address (same_sizes r after value w.at w.written) ∙ w.found in
    word_of_spot after address (Some w.at) there ∙ read_same r after value w.at (only r address w.at w.found).0 w.written

stays_at : (r after : Regions) (address other value : ℕ) (w : Wrote r after address value) (o : Option Spot) → other ≢ address → spot r other ≡ o → option_and_then (read_spot after) o ≡ option_and_then (read_spot r) o
stays_at r after address other value w None n f = refl
stays_at r after address other value w (Some t) n f =
    read_other r after value w.at t (λ same. n (sym (only r other t f).1 ∙ ap (address_of r) same ∙ (only r address w.at w.found).1)) w.written

pub other_stays : (r after : Regions) (address other value : ℕ) → with_word r address value ≡ Some after → other ≢ address → word_at after other ≡ word_at r other
other_stays r after address other value e n =
    let w = wrote r after address value e in
    let same = same_spot r after other (same_sizes r after value w.at w.written) in
    word_of_spot after other (spot r other) same ∙ stays_at r after address other value w (spot r other) n refl ∙ sym (word_of_spot r other (spot r other) refl)

-- ---- what can be written

writable_spot : (r : Regions) (address : ℕ) (s : Spot) (value : ℕ) → address % 8 ≡ 0 → LiesIn r s → address_of r s ≡ address → IsSome (write_spot r value s) → IsWritable r address
writable_spot r address (InCode byte) value a lies is some = absurd (cc)
writable_spot r address (InTable word) value a lies is some = absurd (cc)
writable_spot r address (InArguments word) value a lies is some = (a, inl (omega arith, omega arith))
writable_spot r address (InStack word) value a lies is some = (a, inr (inl (omega arith, omega arith)))
writable_spot r address (InHeap word) value a lies is some = (a, inr (inr (omega arith, omega arith)))

writable_at : (r : Regions) (address value : ℕ) (o : Option Spot) → spot r address ≡ o → IsSome (option_and_then (write_spot r value) o) → IsWritable r address
writable_at r address value None f some = absurd (cc)
writable_at r address value (Some s) f some =
    let h = only r address s f in
    writable_spot r address s value (spot_is_aligned r address s f) h.0 h.1 some

some_is_writable : (r : Regions) (address value : ℕ) → IsSome (with_word r address value) → IsWritable r address
unfolding with_word
some_is_writable r address value some = writable_at r address value (spot r address) refl some

with_spot : (r : Regions) (address value : ℕ) (s : Spot) → spot r address ≡ Some s → is_some (with_word r address value) ≡ is_some (write_spot r value s)
unfolding with_word
with_spot r address value s e = ap (λ o. is_some (option_and_then (write_spot r value) o)) e

writable_is_some : (r : Regions) (address value : ℕ) → IsWithinLimits r → IsWritable r address → IsSome (with_word r address value)
writable_is_some r address value l (a, inl inside) =
    let arguments = l.arguments in
    let from = inside.0 in
    let below = inside.1 in
    with_spot r address value _ (spot_aligned r address a ∙ spot_in_arguments r address l inside.0 (omega arith) ∙ ap (option_map InArguments) (word_inside ARGUMENTS_BEGIN (length r.arguments) address inside.0 inside.1))
writable_is_some r address value l (a, inr (inl inside)) =
    let stack = l.stack in
    let heap = l.heap in
    let below = inside.1 in
    with_spot r address value _ (spot_aligned r address a ∙ spot_in_stack r address l inside.0 (omega arith) ∙ ap (option_map InStack) (word_inside STACK_BEGIN (length r.stack) address inside.0 inside.1))
writable_is_some r address value l (a, inr (inr inside)) =
    let stack = l.stack in
    let heap = l.heap in
    let from = inside.0 in
    with_spot r address value _ (spot_aligned r address a ∙ spot_in_heap r address l (omega arith) ∙ ap (option_map InHeap) (word_inside (heap_begin r) (length r.heap) address inside.0 inside.1))

pub writable : (r : Regions) (address value : ℕ) → IsWithinLimits r → IsSome (with_word r address value) ↔ IsWritable r address
writable r address value l = (some_is_writable r address value, writable_is_some r address value l)
