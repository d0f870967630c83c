-- Which word of a region stands at an address.
use Rattle.std.proofs.Common.{◌≡◌, ℕ, ◌+◌, ◌-◌, ◌*◌, ◌/◌, ◌%◌, ◌<◌, ◌≤◌, refl, arith, inl, inr}
use Rattle.std.specs.Prelude.{true, false, ◌&&◌, Option, Some, None, nat_le, nat_lt}
use Rattle.std.proofs.lemmas.Bool.{cases_lt}
use Rattle.std.proofs.lemmas.Bool.Decides.{nat_tests}
use Rattle.region_memory.specs.Regions.{byte_in, word_in}

in_range : (begin words address : ℕ) → begin ≤ address → address < begin + 8 * words → (nat_le begin address && nat_lt address (begin + 8 * words)) ≡ true
in_range begin words address ge lt = grind (arith, nat_tests)

before_range : (begin words address : ℕ) → address < begin → (nat_le begin address && nat_lt address (begin + 8 * words)) ≡ false
before_range begin words address lt = grind (arith, nat_tests)

behind_range : (begin words address : ℕ) → begin + 8 * words ≤ address → (nat_le begin address && nat_lt address (begin + 8 * words)) ≡ false
behind_range begin words address ge = grind (arith, nat_tests)

pub word_inside : (begin words address : ℕ) → begin ≤ address → address < begin + 8 * words → word_in begin words address ≡ Some ((address - begin) / 8)
word_inside begin words address ge lt = rw (in_range begin words address ge lt) refl

pub word_before : (begin words address : ℕ) → address < begin → word_in begin words address ≡ None
word_before begin words address lt = rw (before_range begin words address lt) refl

pub word_behind : (begin words address : ℕ) → begin + 8 * words ≤ address → word_in begin words address ≡ None
word_behind begin words address ge = rw (behind_range begin words address ge) refl

byte_range : (begin bytes address : ℕ) → begin ≤ address → address + 8 ≤ begin + bytes → (nat_le begin address && nat_le (address + 8) (begin + bytes)) ≡ true
byte_range begin bytes address ge le = grind (arith, nat_tests)

before_bytes : (begin bytes address : ℕ) → address < begin → (nat_le begin address && nat_le (address + 8) (begin + bytes)) ≡ false
before_bytes begin bytes address lt = grind (arith, nat_tests)

behind_bytes : (begin bytes address : ℕ) → begin + bytes < address + 8 → (nat_le begin address && nat_le (address + 8) (begin + bytes)) ≡ false
behind_bytes begin bytes address lt = grind (arith, nat_tests)

pub byte_inside : (begin bytes address : ℕ) → begin ≤ address → address + 8 ≤ begin + bytes → byte_in begin bytes address ≡ Some (address - begin)
byte_inside begin bytes address ge le = rw (byte_range begin bytes address ge le) refl

pub byte_before : (begin bytes address : ℕ) → address < begin → byte_in begin bytes address ≡ None
byte_before begin bytes address lt = rw (before_bytes begin bytes address lt) refl

pub byte_behind : (begin bytes address : ℕ) → begin + bytes < address + 8 → byte_in begin bytes address ≡ None
byte_behind begin bytes address lt = rw (behind_bytes begin bytes address lt) refl

-- ---- what a place that was found says of the address

pub record WordFound (begin words address word : ℕ) : Type 0 where
  pub from : begin ≤ address
  pub below : address < begin + 8 * words
  pub value : word ≡ (address - begin) / 8

pub record ByteFound (begin bytes address byte : ℕ) : Type 0 where
  pub from : begin ≤ address
  pub below : address + 8 ≤ begin + bytes
  pub value : byte ≡ address - begin

none_is_some : {X : Type 0} (o : Option ℕ) (w : ℕ) → o ≡ None → o ≡ Some w → X
none_is_some o w n s = absurd (cc)

some_is : (o : Option ℕ) (v w : ℕ) → o ≡ Some v → o ≡ Some w → w ≡ v
some_is o v w a b = cc

pub word_found : (begin words address word : ℕ) → word_in begin words address ≡ Some word → WordFound begin words address word
word_found begin words address word e =
    elim (cases_lt address begin) [
      | inl lt ↦ none_is_some _ word (word_before begin words address lt) e
      | inr ge ↦ elim (cases_lt address (begin + 8 * words)) [
        | inl lt ↦ record { from = ge; below = lt; value = some_is _ _ word (word_inside begin words address ge lt) e }
        | inr behind ↦ none_is_some _ word (word_behind begin words address behind) e
      ]
    ]

pub byte_found : (begin bytes address byte : ℕ) → byte_in begin bytes address ≡ Some byte → ByteFound begin bytes address byte
byte_found begin bytes address byte e =
    elim (cases_lt address begin) [
      | inl lt ↦ none_is_some _ byte (byte_before begin bytes address lt) e
      | inr ge ↦ elim (cases_lt (begin + bytes) (address + 8)) [
        | inl behind ↦ none_is_some _ byte (byte_behind begin bytes address behind) e
        | inr le ↦ record { from = ge; below = le; value = some_is _ _ byte (byte_inside begin bytes address ge le) e }
      ]
    ]

-- ---- the address of a word

-- a word's number is that of its address, and its address that of its number
pub word_at_number : (begin word : ℕ) → (begin + 8 * word - begin) / 8 ≡ word
word_at_number begin word = omega arith

pub number_at_word : (begin address : ℕ) → begin % 8 ≡ 0 → address % 8 ≡ 0 → begin ≤ address → begin + 8 * ((address - begin) / 8) ≡ address
number_at_word begin address b a ge = omega arith

pub number_below : (begin words address : ℕ) → begin ≤ address → address < begin + 8 * words → (address - begin) / 8 < words
number_below begin words address ge lt = omega arith

pub word_aligned : (begin word : ℕ) → begin % 8 ≡ 0 → (begin + 8 * word) % 8 ≡ 0
word_aligned begin word e = omega arith
