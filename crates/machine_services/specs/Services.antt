-- What a service does. Its number is in rax, its arguments in rdi and rsi, the heap pointer in r15.
use Rattle.std.specs.Prelude.{ℕ, ◌+◌, ◌-◌, ◌*◌, ◌/◌, ◌%◌, ◌^◌, List, [], ◌∷◌, ◌++◌, length, take, drop, map, ◌&&◌, Option, Some, None, nat_eq, nat_le, if◌then◌else◌}
use Rattle.std.specs.declared.cmp.Ordering.{Ordering}
use Rattle.std.specs.declared.cmp.Ordering.TheVariants.{Less, Equal, Greater}
use Rattle.region_memory.specs.declared.layout.TheConstants.{HEAP_END}
use Rattle.hipe_terms.specs.Terms.{Term}
use Rattle.hipe_terms.specs.declared.class.Class.{Class}
use Rattle.hipe_terms.specs.Classes.{class_numbered}
use Rattle.heap_terms.specs.declared.tags.TheConstants.{OBJECT_TAG, HEADER_SCALE}
use Rattle.heap_terms.specs.Shapes.{Symbols, Reference, Shape, Tuple, shape_at, heap_begin, from_outside}
use Rattle.heap_terms.specs.Terms.{term_at}
use Rattle.machine_services.specs.declared.service.Service.{Service}
use Rattle.machine_services.specs.declared.service.Service.TheVariants as services
use Rattle.machine_services.specs.Numbers.{service_numbered}
use Rattle.machine_services.specs.Comparing.{compared}
use Rattle.machine_services.specs.Lists.{Spine, NoTerm, Improper, Proper, spine_at, cells_from}

-- how a service ends a run
pub data Ending : Type 0 where
  Returned : (value : Term) → Ending
  Raised : (class : Class) (reason : Term) → Ending
  HeapFull : Ending
  StackFull : Ending

-- there is no next state; the run ends; it goes on with a word in rax, with a term displayed, or with words put at the heap pointer
pub data Effect : Type 0 where
  NoNext : Effect
  Ends : (ending : Ending) → Effect
  Answers : (result : ℕ) → Effect
  Displays : (shown : Term) → Effect
  Builds : (result : ℕ) (words : List ℕ) → Effect

-- the plain number -1 in a word
abbrev pub minus_one : ℕ
minus_one = 2 ^ 64 - 1

abbrev pub returned : Option Term → Effect
returned None = NoNext
returned (Some t) = Ends (Returned t)

abbrev pub raised : Option Class → Option Term → Effect
raised (Some class) (Some t) = Ends (Raised class t)
raised (Some class) None = NoNext
raised None t = NoNext

abbrev pub displayed : Option Term → Effect
displayed None = NoNext
displayed (Some t) = Displays t

-- one of three words by the order of two others
abbrev pub by_order : (less equal greater : ℕ) → Option Ordering → Effect
by_order less equal greater None = NoNext
by_order less equal greater (Some Less) = Answers less
by_order less equal greater (Some Equal) = Answers equal
by_order less equal greater (Some Greater) = Answers greater

-- 1 where they are equal
abbrev pub equality : Option Ordering → Effect
equality order = by_order 0 1 0 order

-- -1, 0 or 1
abbrev pub order_word : Option Ordering → Effect
order_word order = by_order minus_one 0 1 order

-- -1 where it is no proper list
abbrev pub length_word : Spine → Effect
length_word NoTerm = NoNext
length_word Improper = Answers minus_one
length_word (Proper ws) = Answers (length ws)

-- the number of the heap's word at the heap pointer, which may be the end of the heap
abbrev pub free_index : List ℕ → ℕ → Option ℕ
free_index heap free =
    if nat_eq (free % 8) 0 && (nat_le (heap_begin heap) free && nat_le free HEAP_END)
    then Some ((free - heap_begin heap) / 8)
    else None

-- words at the heap pointer, where they fit
abbrev pub placed : List ℕ → Option ℕ → ℕ → List ℕ → Effect
placed heap None result words = NoNext
placed heap (Some i) result words = if nat_le (i + length words) (length heap) then Builds result words else Ends HeapFull

abbrev pub placed_list : List ℕ → ℕ → ℕ × List ℕ → Effect
placed_list heap free list = placed heap (free_index heap free) list.0 list.1

-- 0 where it is no proper list; before nil's no elements nothing is built, so the heap pointer isn't looked at
abbrev pub appended : List ℕ → ℕ → Spine → ℕ → Effect
appended heap free NoTerm tail = NoNext
appended heap free Improper tail = Answers 0
appended heap free (Proper []) tail = Answers tail
appended heap free (Proper (w ∷ ws)) tail = placed_list heap free (cells_from free (w ∷ ws) tail)

-- the header and the words of a tuple's elements
abbrev pub copied : List ℕ → ℕ → Option (Shape Reference) → Effect
copied heap free (Some (Tuple elements)) =
    placed heap (free_index heap free) (free + OBJECT_TAG) ((HEADER_SCALE * length elements) ∷ map (λ e. e.word) elements)
copied heap free _ = NoNext

-- what a service does
abbrev pub does : Symbols → List ℕ → Service → (first second free : ℕ) → Effect
does symbols heap services.Return first second free = returned (term_at symbols heap first)
does symbols heap services.Raise first second free = raised (class_numbered second) (term_at symbols heap first)
does symbols heap services.HeapFull first second free = Ends HeapFull
does symbols heap services.StackFull first second free = Ends StackFull
does symbols heap services.Display first second free = displayed (term_at symbols heap first)
does symbols heap services.Equal first second free = equality (compared symbols heap first second)
does symbols heap services.Compare first second free = order_word (compared symbols heap first second)
does symbols heap services.Length first second free = length_word (spine_at symbols heap first)
does symbols heap services.Append first second free = appended heap free (spine_at symbols heap first) second
does symbols heap services.CopyTuple first second free = copied heap free (shape_at symbols heap (from_outside heap first))

abbrev pub served_by : Symbols → List ℕ → Option Service → (first second free : ℕ) → Effect
served_by symbols heap None first second free = NoNext
served_by symbols heap (Some s) first second free = does symbols heap s first second free

-- the service with this number
unfoldable pub service : Symbols → List ℕ → (number first second free : ℕ) → Effect
service symbols heap number first second free = served_by symbols heap (service_numbered number) first second free

-- the heap with other words from the heap pointer on
abbrev pub heap_with : List ℕ → ℕ → List ℕ → List ℕ
heap_with heap free words =
    let i = (free - heap_begin heap) / 8 in
    take i heap ++ words ++ drop (i + length words) heap
