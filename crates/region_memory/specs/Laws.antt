-- What holds of the regions, in terms of addresses alone.
use Rattle.std.specs.Prelude.{ℕ, ◌+◌, ◌*◌, ◌%◌, ◌<◌, ◌≤◌, ◌≡◌, ◌⊎◌, Some, length}
use Rattle.region_memory.specs.declared.layout.TheConstants.{CODE_BEGIN, TABLE_BEGIN, ARGUMENTS_BEGIN, STACK_BEGIN, HEAP_END}
use Rattle.region_memory.specs.Regions.{Regions, heap_begin, Spot, InCode, InTable, InArguments, InStack, InHeap, spot}

-- each region ends before the next one begins, and the heap at its fixed end
pub record AreApart (r : Regions) : Type 0 where
  pub code_then_table : CODE_BEGIN + length r.code ≤ TABLE_BEGIN
  pub table_then_arguments : TABLE_BEGIN + 8 * length r.table ≤ ARGUMENTS_BEGIN
  pub arguments_then_stack : ARGUMENTS_BEGIN + 8 * length r.arguments ≤ STACK_BEGIN
  pub stack_then_heap : STACK_BEGIN + 8 * length r.stack ≤ heap_begin r
  pub heap_then_end : heap_begin r + 8 * length r.heap ≡ HEAP_END

-- the address where a spot begins
abbrev pub address_of : Regions → Spot → ℕ
address_of r (InCode byte) = CODE_BEGIN + byte
address_of r (InTable word) = TABLE_BEGIN + 8 * word
address_of r (InArguments word) = ARGUMENTS_BEGIN + 8 * word
address_of r (InStack word) = STACK_BEGIN + 8 * word
address_of r (InHeap word) = heap_begin r + 8 * word

-- the eight bytes of a spot lie in its region, at a multiple of eight
abbrev pub LiesIn : Regions → Spot → Type 0
LiesIn r (InCode byte) = (byte % 8 ≡ 0) × (byte + 8 ≤ length r.code)
LiesIn r (InTable word) = word < length r.table
LiesIn r (InArguments word) = word < length r.arguments
LiesIn r (InStack word) = word < length r.stack
LiesIn r (InHeap word) = word < length r.heap

-- an access goes to a spot exactly where the spot lies in its region and begins at the address
pub record SpotsAreExact (r : Regions) : Type 0 where
  pub found : (s : Spot) → LiesIn r s → spot r (address_of r s) ≡ Some s
  pub only : (address : ℕ) (s : Spot) → spot r address ≡ Some s → LiesIn r s × (address_of r s ≡ address)

-- the address is in a region that begins here and has so many words
abbrev pub IsInside : ℕ → ℕ → ℕ → Type 0
IsInside begin words address = (begin ≤ address) × (address < begin + 8 * words)

-- the address is a multiple of eight in the argument area, the stack or the heap
abbrev pub IsWritable : Regions → ℕ → Type 0
IsWritable r address =
    (address % 8 ≡ 0)
    × (IsInside ARGUMENTS_BEGIN (length r.arguments) address
    ⊎ (IsInside STACK_BEGIN (length r.stack) address
    ⊎ IsInside (heap_begin r) (length r.heap) address))

-- the regions are of the same sizes, and code and function table the same
pub record KeepsSizes (before after : Regions) : Type 0 where
  pub code : after.code ≡ before.code
  pub table : after.table ≡ before.table
  pub arguments : length after.arguments ≡ length before.arguments
  pub stack : length after.stack ≡ length before.stack
  pub heap : length after.heap ≡ length before.heap
