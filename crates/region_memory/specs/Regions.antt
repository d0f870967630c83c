-- The regions of memory, and the words that are read and written in them.
use Rattle.std.specs.Prelude.{ℕ, ◌+◌, ◌-◌, ◌*◌, ◌/◌, ◌%◌, ◌≤◌, ◌≡◌, List, [], ◌&&◌, Option, Some, None, length, take, drop, replicate, slice_get, slice_set, nat_eq, nat_le, nat_lt, if◌then◌else◌}
use Rattle.std.specs.Option.{option_or, option_map, option_and_then}
use Rattle.std.specs.Int.{w64, from_le_bytes}
use Rattle.hipe_base.specs.declared.limits.TheConstants.{CODE_LIMIT}
use Rattle.region_memory.specs.declared.layout.TheConstants.{CODE_BEGIN, TABLE_BEGIN, ARGUMENTS_BEGIN, ARGUMENT_WORDS, STACK_BEGIN, HEAP_END, TABLE_LIMIT, STACK_LEAST, STACK_LIMIT, HEAP_LIMIT}

-- the bytes of the code, and the words of the other regions, from the lowest address on
pub record Regions : Type 0 where
  pub code : List ℕ
  pub table : List ℕ
  pub arguments : List ℕ
  pub stack : List ℕ
  pub heap : List ℕ

-- the regions are no larger than they may be
pub record IsWithinLimits (r : Regions) : Type 0 where
  pub code : length r.code ≤ CODE_LIMIT
  pub table : length r.table ≤ 2 * TABLE_LIMIT
  pub arguments : length r.arguments ≡ ARGUMENT_WORDS
  pub stack_least : STACK_LEAST ≤ length r.stack
  pub stack : length r.stack ≤ STACK_LIMIT
  pub heap : length r.heap ≤ HEAP_LIMIT

-- the address of the heap's first word: the heap's end is fixed
abbrev pub heap_begin : Regions → ℕ
heap_begin r = HEAP_END - 8 * length r.heap

-- so many words that are 0
unfoldable pub zeros : ℕ → List ℕ
zeros count = replicate count 0

-- the regions as a run finds them that has no code yet: so many words of heap and of stack, and all words 0
unfoldable pub opened : ℕ → ℕ → Regions
opened heap stack =
    record { code = []; table = []; arguments = zeros ARGUMENT_WORDS; stack = zeros stack; heap = zeros heap }

-- eight bytes of memory: from this byte of the code on, or this word of another region
pub data Spot : Type 0 where
  InCode : (byte : ℕ) → Spot
  InTable : (word : ℕ) → Spot
  InArguments : (word : ℕ) → Spot
  InStack : (word : ℕ) → Spot
  InHeap : (word : ℕ) → Spot

-- how far behind the beginning of a region of this many bytes eight bytes lie, if they all lie in it
abbrev pub byte_in : ℕ → ℕ → ℕ → Option ℕ
byte_in begin bytes address =
    if nat_le begin address && nat_le (address + 8) (begin + bytes) then Some (address - begin) else None

-- which word of a region of this many words stands at a multiple of eight, if there is one
abbrev pub word_in : ℕ → ℕ → ℕ → Option ℕ
word_in begin words address =
    if nat_le begin address && nat_lt address (begin + 8 * words) then Some ((address - begin) / 8) else None

-- where an access at a multiple of eight goes: to the first region that has it, and by the limits no other has
unfoldable pub aligned_spot : Regions → ℕ → Option Spot
aligned_spot r address =
    option_or (option_map InCode (byte_in CODE_BEGIN (length r.code) address))
    (option_or (option_map InTable (word_in TABLE_BEGIN (length r.table) address))
    (option_or (option_map InArguments (word_in ARGUMENTS_BEGIN (length r.arguments) address))
    (option_or (option_map InStack (word_in STACK_BEGIN (length r.stack) address))
    (option_map InHeap (word_in (heap_begin r) (length r.heap) address)))))

-- where an access at the address goes: eight bytes, at a multiple of eight, inside one region
unfoldable pub spot : Regions → ℕ → Option Spot
spot r address = if nat_eq (address % 8) 0 then aligned_spot r address else None

-- the word that stands there, the lowest byte first
abbrev pub read_spot : Regions → Spot → Option ℕ
read_spot r (InCode byte) = Some (from_le_bytes w64 (take 8 (drop byte r.code)))
read_spot r (InTable word) = slice_get r.table word
read_spot r (InArguments word) = slice_get r.arguments word
read_spot r (InStack word) = slice_get r.stack word
read_spot r (InHeap word) = slice_get r.heap word

-- the word at the address, if one can be read
unfoldable pub word_at : Regions → ℕ → Option ℕ
word_at r address = option_and_then (read_spot r) (spot r address)

-- the regions after a word was written there, if it can be
abbrev pub write_spot : Regions → ℕ → Spot → Option Regions
write_spot r value (InCode byte) = None
write_spot r value (InTable word) = None
write_spot r value (InArguments word) = Some (record r { arguments = slice_set r.arguments word value })
write_spot r value (InStack word) = Some (record r { stack = slice_set r.stack word value })
write_spot r value (InHeap word) = Some (record r { heap = slice_set r.heap word value })

-- the regions after the word was written at the address, if it can be
unfoldable pub with_word : Regions → ℕ → ℕ → Option Regions
with_word r address value = option_and_then (write_spot r value) (spot r address)
