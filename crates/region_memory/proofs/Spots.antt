-- Where an access goes.
use Rattle.std.proofs.Common.{◌≡◌, ℕ, ◌+◌, ◌-◌, ◌*◌, ◌/◌, ◌%◌, ◌<◌, ◌≤◌, ◌⊎◌, length, refl, sym, ap, ◌∙◌, subst, arith, inl, inr}
use Rattle.std.specs.Prelude.{Option, Some, None, nat_eq, true, false}
use Rattle.std.specs.Option.{option_or, option_map}
use Rattle.std.proofs.lemmas.Bool.{cases_eq}
use Rattle.std.proofs.lemmas.Bool.Decides.{nat_tests}
use Rattle.region_memory.specs.declared.layout.TheConstants.{CODE_BEGIN, TABLE_BEGIN, ARGUMENTS_BEGIN, STACK_BEGIN, HEAP_END}
use Rattle.region_memory.specs.Regions.{Regions, IsWithinLimits, heap_begin, Spot, InCode, InTable, InArguments, InStack, InHeap, byte_in, word_in, aligned_spot, spot}
use Rattle.region_memory.specs.Laws.{address_of, LiesIn, SpotsAreExact}
use Rattle.region_memory.proofs.Places.{word_inside, word_before, word_behind, byte_inside, byte_before, byte_behind, word_found, byte_found, word_at_number, number_at_word, number_below, word_aligned}

-- ---- the one region that an address can be in, by the limits

or_none : (o : Option Spot) → option_or o None ≡ o
or_none None = refl
or_none (Some s) = refl

pub spot_in_code : (r : Regions) (address : ℕ) → IsWithinLimits r → address < TABLE_BEGIN → aligned_spot r address ≡ option_map InCode (byte_in CODE_BEGIN (length r.code) address)
unfolding aligned_spot
spot_in_code r address l below =
    let heap = l.heap in
    rw (word_before TABLE_BEGIN (length r.table) address below, word_before ARGUMENTS_BEGIN (length r.arguments) address (omega arith), word_before STACK_BEGIN (length r.stack) address (omega arith), word_before (heap_begin r) (length r.heap) address (omega arith))
    (or_none (option_map InCode (byte_in CODE_BEGIN (length r.code) address)))

pub spot_in_table : (r : Regions) (address : ℕ) → IsWithinLimits r → TABLE_BEGIN ≤ address → address < ARGUMENTS_BEGIN → aligned_spot r address ≡ option_map InTable (word_in TABLE_BEGIN (length r.table) address)
unfolding aligned_spot
spot_in_table r address l from below =
    let code = l.code in
    let heap = l.heap in
    rw (byte_behind CODE_BEGIN (length r.code) address (omega arith), word_before ARGUMENTS_BEGIN (length r.arguments) address below, word_before STACK_BEGIN (length r.stack) address (omega arith), word_before (heap_begin r) (length r.heap) address (omega arith))
    (or_none (option_map InTable (word_in TABLE_BEGIN (length r.table) address)))

pub spot_in_arguments : (r : Regions) (address : ℕ) → IsWithinLimits r → ARGUMENTS_BEGIN ≤ address → address < STACK_BEGIN → aligned_spot r address ≡ option_map InArguments (word_in ARGUMENTS_BEGIN (length r.arguments) address)
unfolding aligned_spot
spot_in_arguments r address l from below =
    let code = l.code in
    let table = l.table in
    let heap = l.heap in
    rw (byte_behind CODE_BEGIN (length r.code) address (omega arith), word_behind TABLE_BEGIN (length r.table) address (omega arith), word_before STACK_BEGIN (length r.stack) address below, word_before (heap_begin r) (length r.heap) address (omega arith))
    (or_none (option_map InArguments (word_in ARGUMENTS_BEGIN (length r.arguments) address)))

pub spot_in_stack : (r : Regions) (address : ℕ) → IsWithinLimits r → STACK_BEGIN ≤ address → address < heap_begin r → aligned_spot r address ≡ option_map InStack (word_in STACK_BEGIN (length r.stack) address)
unfolding aligned_spot
spot_in_stack r address l from below =
    let code = l.code in
    let table = l.table in
    let arguments = l.arguments in
    rw (byte_behind CODE_BEGIN (length r.code) address (omega arith), word_behind TABLE_BEGIN (length r.table) address (omega arith), word_behind ARGUMENTS_BEGIN (length r.arguments) address (omega arith), word_before (heap_begin r) (length r.heap) address below)
    (or_none (option_map InStack (word_in STACK_BEGIN (length r.stack) address)))

pub spot_in_heap : (r : Regions) (address : ℕ) → IsWithinLimits r → STACK_BEGIN + 8 * length r.stack ≤ address → aligned_spot r address ≡ option_map InHeap (word_in (heap_begin r) (length r.heap) address)
unfolding aligned_spot
spot_in_heap r address l from =
    let code = l.code in
    let table = l.table in
    let arguments = l.arguments in
    rw (byte_behind CODE_BEGIN (length r.code) address (omega arith), word_behind TABLE_BEGIN (length r.table) address (omega arith), word_behind ARGUMENTS_BEGIN (length r.arguments) address (omega arith), word_behind STACK_BEGIN (length r.stack) address from)
    refl

-- ---- aligned or not

aligned_test : (address : ℕ) → address % 8 ≡ 0 → nat_eq (address % 8) 0 ≡ true
aligned_test address e = grind (arith, nat_tests)

misaligned_test : (address : ℕ) → (address % 8 ≡ 0 → ⊥) → nat_eq (address % 8) 0 ≡ false
misaligned_test address e = grind (arith, nat_tests)

pub spot_aligned : (r : Regions) (address : ℕ) → address % 8 ≡ 0 → spot r address ≡ aligned_spot r address
unfolding spot
spot_aligned r address e = rw (aligned_test address e) refl

pub spot_misaligned : (r : Regions) (address : ℕ) → (address % 8 ≡ 0 → ⊥) → spot r address ≡ None
unfolding spot
spot_misaligned r address e = rw (misaligned_test address e) refl

-- ---- a spot that lies in its region is found

heap_aligned : (words : ℕ) → (HEAP_END - 8 * words) % 8 ≡ 0
heap_aligned words = omega arith

aligned_found : (r : Regions) (s : Spot) → IsWithinLimits r → LiesIn r s → (address_of r s % 8 ≡ 0) × (aligned_spot r (address_of r s) ≡ Some s)
aligned_found r (InCode byte) l lies =
    let code = l.code in
    let multiple : byte % 8 ≡ 0 = lies.0 in
    let inside : byte + 8 ≤ length r.code = lies.1 in (
      omega arith,
      spot_in_code r (CODE_BEGIN + byte) l (omega arith)
          ∙ ap (option_map InCode) (byte_inside CODE_BEGIN (length r.code) (CODE_BEGIN + byte) (omega arith) (omega arith))
          ∙ ap (λ n. Some (InCode n)) (let e : CODE_BEGIN + byte - CODE_BEGIN ≡ byte = omega arith in e),
    )
aligned_found r (InTable word) l lies =
    let table = l.table in (
      word_aligned TABLE_BEGIN word refl,
      spot_in_table r (TABLE_BEGIN + 8 * word) l (omega arith) (omega arith)
          ∙ ap (option_map InTable) (word_inside TABLE_BEGIN (length r.table) (TABLE_BEGIN + 8 * word) (omega arith) (omega arith))
          ∙ ap (λ n. Some (InTable n)) (word_at_number TABLE_BEGIN word),
    )
aligned_found r (InArguments word) l lies =
    let arguments = l.arguments in (
      word_aligned ARGUMENTS_BEGIN word refl,
      spot_in_arguments r (ARGUMENTS_BEGIN + 8 * word) l (omega arith) (omega arith)
          ∙ ap (option_map InArguments) (word_inside ARGUMENTS_BEGIN (length r.arguments) (ARGUMENTS_BEGIN + 8 * word) (omega arith) (omega arith))
          ∙ ap (λ n. Some (InArguments n)) (word_at_number ARGUMENTS_BEGIN word),
    )
aligned_found r (InStack word) l lies =
    let stack = l.stack in
    let heap = l.heap in (
      word_aligned STACK_BEGIN word refl,
      spot_in_stack r (STACK_BEGIN + 8 * word) l (omega arith) (omega arith)
          ∙ ap (option_map InStack) (word_inside STACK_BEGIN (length r.stack) (STACK_BEGIN + 8 * word) (omega arith) (omega arith))
          ∙ ap (λ n. Some (InStack n)) (word_at_number STACK_BEGIN word),
    )
aligned_found r (InHeap word) l lies =
    let stack = l.stack in
    let heap = l.heap in (
      word_aligned (heap_begin r) word (heap_aligned (length r.heap)),
      spot_in_heap r (heap_begin r + 8 * word) l (omega arith)
          ∙ ap (option_map InHeap) (word_inside (heap_begin r) (length r.heap) (heap_begin r + 8 * word) (omega arith) (omega arith))
          ∙ ap (λ n. Some (InHeap n)) (word_at_number (heap_begin r) word),
    )

found : (r : Regions) (s : Spot) → IsWithinLimits r → LiesIn r s → spot r (address_of r s) ≡ Some s
found r s l lies =
    let f = aligned_found r s l lies in
    spot_aligned r (address_of r s) f.0 ∙ f.1

-- ---- a spot that is found lies in its region, and its address is the one that was asked for

some_spot : (a b : Spot) → Some a ≡ Some b → a ≡ b
some_spot a b e = cc

-- where the first of two gives a spot, or the second one does
or_cases : (into : ℕ → Spot) (o : Option ℕ) (rest : Option Spot) (s : Spot) → option_or (option_map into o) rest ≡ Some s → ((n : ℕ) × (o ≡ Some n) × (into n ≡ s)) ⊎ (rest ≡ Some s)
or_cases into None rest s e = inr e
or_cases into (Some n) rest s e = inl (n, refl, some_spot (into n) s e)

last_case : (into : ℕ → Spot) (o : Option ℕ) (s : Spot) → option_map into o ≡ Some s → (n : ℕ) × (o ≡ Some n) × (into n ≡ s)
last_case into None s e = absurd (cc)
last_case into (Some n) s e = (n, refl, some_spot (into n) s e)

abbrev Is : Regions → ℕ → Spot → Type 0
Is r address s = LiesIn r s × (address_of r s ≡ address)

word_lies : (begin words address word : ℕ) → begin % 8 ≡ 0 → address % 8 ≡ 0 → word_in begin words address ≡ Some word → (word < words) × (begin + 8 * word ≡ address)
word_lies begin words address word b a e =
    let f = word_found begin words address word e in (
      subst (λ n. n < words) (sym f.value) (number_below begin words address f.from f.below),
      ap (λ n. begin + 8 * n) f.value ∙ number_at_word begin address b a f.from,
    )

byte_lies : (bytes address byte : ℕ) → address % 8 ≡ 0 → byte_in CODE_BEGIN bytes address ≡ Some byte → ((byte % 8 ≡ 0) × (byte + 8 ≤ bytes)) × (CODE_BEGIN + byte ≡ address)
byte_lies bytes address byte a e =
    let f = byte_found CODE_BEGIN bytes address byte e in
    let from = f.from in
    let below = f.below in
    let value = f.value in
    ((omega arith, omega arith), omega arith)

only_heap : (r : Regions) (address : ℕ) (s : Spot) → address % 8 ≡ 0 → option_map InHeap (word_in (heap_begin r) (length r.heap) address) ≡ Some s → Is r address s
only_heap r address s a e =
    let h = last_case InHeap (word_in (heap_begin r) (length r.heap) address) s e in
    subst (Is r address) h.2 (word_lies (heap_begin r) (length r.heap) address h.0 (heap_aligned (length r.heap)) a h.1)

abbrev from_stack : Regions → ℕ → Option Spot
from_stack r address = option_or (option_map InStack (word_in STACK_BEGIN (length r.stack) address)) (option_map InHeap (word_in (heap_begin r) (length r.heap) address))

only_stack : (r : Regions) (address : ℕ) (s : Spot) → address % 8 ≡ 0 → from_stack r address ≡ Some s → Is r address s
only_stack r address s a e =
    elim (or_cases InStack (word_in STACK_BEGIN (length r.stack) address) (option_map InHeap (word_in (heap_begin r) (length r.heap) address)) s e) [
      | inl (n, o, is) ↦ subst (Is r address) is (word_lies STACK_BEGIN (length r.stack) address n refl a o)
      | inr rest ↦ only_heap r address s a rest
    ]

abbrev from_arguments : Regions → ℕ → Option Spot
from_arguments r address = option_or (option_map InArguments (word_in ARGUMENTS_BEGIN (length r.arguments) address)) (from_stack r address)

only_arguments : (r : Regions) (address : ℕ) (s : Spot) → address % 8 ≡ 0 → from_arguments r address ≡ Some s → Is r address s
only_arguments r address s a e =
    elim (or_cases InArguments (word_in ARGUMENTS_BEGIN (length r.arguments) address) (from_stack r address) s e) [
      | inl (n, o, is) ↦ subst (Is r address) is (word_lies ARGUMENTS_BEGIN (length r.arguments) address n refl a o)
      | inr rest ↦ only_stack r address s a rest
    ]

abbrev from_table : Regions → ℕ → Option Spot
from_table r address = option_or (option_map InTable (word_in TABLE_BEGIN (length r.table) address)) (from_arguments r address)

only_table : (r : Regions) (address : ℕ) (s : Spot) → address % 8 ≡ 0 → from_table r address ≡ Some s → Is r address s
only_table r address s a e =
    elim (or_cases InTable (word_in TABLE_BEGIN (length r.table) address) (from_arguments r address) s e) [
      | inl (n, o, is) ↦ subst (Is r address) is (word_lies TABLE_BEGIN (length r.table) address n refl a o)
      | inr rest ↦ only_arguments r address s a rest
    ]

only_aligned : (r : Regions) (address : ℕ) (s : Spot) → address % 8 ≡ 0 → aligned_spot r address ≡ Some s → Is r address s
unfolding aligned_spot
only_aligned r address s a e =
    elim (or_cases InCode (byte_in CODE_BEGIN (length r.code) address) (from_table r address) s e) [
      | inl (n, o, is) ↦ subst (Is r address) is (byte_lies (length r.code) address n a o)
      | inr rest ↦ only_table r address s a rest
    ]

none_is_some : {X : Type 0} (o : Option Spot) (s : Spot) → o ≡ None → o ≡ Some s → X
none_is_some o s n e = absurd (cc)

pub only : (r : Regions) (address : ℕ) (s : Spot) → spot r address ≡ Some s → LiesIn r s × (address_of r s ≡ address)
only r address s e =
    elim (cases_eq (address % 8) 0) [
      | inl a ↦ only_aligned r address s a (sym (spot_aligned r address a) ∙ e)
      | inr n ↦ none_is_some (spot r address) s (spot_misaligned r address n) e
    ]

pub spot_is_aligned : (r : Regions) (address : ℕ) (s : Spot) → spot r address ≡ Some s → address % 8 ≡ 0
spot_is_aligned r address s e =
    elim (cases_eq (address % 8) 0) [
      | inl a ↦ a
      | inr n ↦ none_is_some (spot r address) s (spot_misaligned r address n) e
    ]

pub exact : (r : Regions) → IsWithinLimits r → SpotsAreExact r
exact r l = record { found = λ s lies. found r s l lies; only = only r }

-- ---- the region that the bits 32 and up of an address tell

pub high_code : (r : Regions) (address : ℕ) → IsWithinLimits r → address % 8 ≡ 0 → address / 4294967296 ≡ 1 → spot r address ≡ option_map InCode (byte_in CODE_BEGIN (length r.code) address)
high_code r address l a h = spot_aligned r address a ∙ spot_in_code r address l (omega arith)

pub high_table : (r : Regions) (address : ℕ) → IsWithinLimits r → address % 8 ≡ 0 → address / 4294967296 ≡ 2 → spot r address ≡ option_map InTable (word_in TABLE_BEGIN (length r.table) address)
high_table r address l a h = spot_aligned r address a ∙ spot_in_table r address l (omega arith) (omega arith)

pub high_arguments : (r : Regions) (address : ℕ) → IsWithinLimits r → address % 8 ≡ 0 → address / 4294967296 ≡ 3 → spot r address ≡ option_map InArguments (word_in ARGUMENTS_BEGIN (length r.arguments) address)
high_arguments r address l a h = spot_aligned r address a ∙ spot_in_arguments r address l (omega arith) (omega arith)

pub high_stack : (r : Regions) (address : ℕ) → IsWithinLimits r → address % 8 ≡ 0 → address / 4294967296 ≡ 4 → spot r address ≡ option_map InStack (word_in STACK_BEGIN (length r.stack) address)
high_stack r address l a h =
    let heap = l.heap in
    spot_aligned r address a ∙ spot_in_stack r address l (omega arith) (omega arith)

pub high_heap : (r : Regions) (address : ℕ) → IsWithinLimits r → address % 8 ≡ 0 → address / 4294967296 ≡ 5 → spot r address ≡ option_map InHeap (word_in (heap_begin r) (length r.heap) address)
high_heap r address l a h =
    let stack = l.stack in
    spot_aligned r address a ∙ spot_in_heap r address l (omega arith)

pub none_below : (r : Regions) (address : ℕ) → IsWithinLimits r → address % 8 ≡ 0 → address < CODE_BEGIN → spot r address ≡ None
none_below r address l a below =
    spot_aligned r address a ∙ spot_in_code r address l (omega arith) ∙ ap (option_map InCode) (byte_before CODE_BEGIN (length r.code) address below)

pub none_above : (r : Regions) (address : ℕ) → IsWithinLimits r → address % 8 ≡ 0 → HEAP_END ≤ address → spot r address ≡ None
none_above r address l a above =
    let stack = l.stack in
    let heap = l.heap in
    spot_aligned r address a ∙ spot_in_heap r address l (omega arith) ∙ ap (option_map InHeap) (word_behind (heap_begin r) (length r.heap) address (omega arith))

pub none_elsewhere : (r : Regions) (address : ℕ) → IsWithinLimits r → address % 8 ≡ 0 → address < CODE_BEGIN ⊎ HEAP_END ≤ address → spot r address ≡ None
none_elsewhere r address l a (inl below) = none_below r address l a below
none_elsewhere r address l a (inr above) = none_above r address l a above

-- ---- what the code found in the region that it looked in

pub code_place : (r : Regions) (address : ℕ) (bytes : ℕ) (o q : Option ℕ) → IsWithinLimits r → address % 8 ≡ 0 → address / 4294967296 ≡ 1 → bytes ≡ length r.code → o ≡ byte_in CODE_BEGIN bytes address → o ≡ q → option_map InCode q ≡ spot r address
code_place r address bytes o q l a h n v w =
    sym (high_code r address l a h ∙ ap (λ k. option_map InCode (byte_in CODE_BEGIN k address)) (sym n) ∙ ap (option_map InCode) (sym v ∙ w))

pub table_place : (r : Regions) (address : ℕ) (words : ℕ) (o q : Option ℕ) → IsWithinLimits r → address % 8 ≡ 0 → address / 4294967296 ≡ 2 → words ≡ length r.table → o ≡ word_in TABLE_BEGIN words address → o ≡ q → option_map InTable q ≡ spot r address
table_place r address words o q l a h n v w =
    sym (high_table r address l a h ∙ ap (λ k. option_map InTable (word_in TABLE_BEGIN k address)) (sym n) ∙ ap (option_map InTable) (sym v ∙ w))

pub arguments_place : (r : Regions) (address : ℕ) (words : ℕ) (o q : Option ℕ) → IsWithinLimits r → address % 8 ≡ 0 → address / 4294967296 ≡ 3 → words ≡ length r.arguments → o ≡ word_in ARGUMENTS_BEGIN words address → o ≡ q → option_map InArguments q ≡ spot r address
arguments_place r address words o q l a h n v w =
    sym (high_arguments r address l a h ∙ ap (λ k. option_map InArguments (word_in ARGUMENTS_BEGIN k address)) (sym n) ∙ ap (option_map InArguments) (sym v ∙ w))

pub stack_place : (r : Regions) (address : ℕ) (words : ℕ) (o q : Option ℕ) → IsWithinLimits r → address % 8 ≡ 0 → address / 4294967296 ≡ 4 → words ≡ length r.stack → o ≡ word_in STACK_BEGIN words address → o ≡ q → option_map InStack q ≡ spot r address
stack_place r address words o q l a h n v w =
    sym (high_stack r address l a h ∙ ap (λ k. option_map InStack (word_in STACK_BEGIN k address)) (sym n) ∙ ap (option_map InStack) (sym v ∙ w))

pub heap_place : (r : Regions) (address : ℕ) (words : ℕ) (o q : Option ℕ) → IsWithinLimits r → address % 8 ≡ 0 → address / 4294967296 ≡ 5 → words ≡ length r.heap → o ≡ word_in (HEAP_END - 8 * words) words address → o ≡ q → option_map InHeap q ≡ spot r address
heap_place r address words o q l a h n v w =
    sym (high_heap r address l a h ∙ ap (λ k. option_map InHeap (word_in (HEAP_END - 8 * k) k address)) (sym n) ∙ ap (option_map InHeap) (sym v ∙ w))
