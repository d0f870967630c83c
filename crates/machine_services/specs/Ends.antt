-- How lists end, and where the words of lists and tuples stand, as the code sees it.
use Rattle.std.specs.Prelude.{◌≡◌, ℕ, ◌+◌, ◌-◌, ◌*◌, ◌<◌, ◌≤◌, List, [], map, length, take, drop, nat_eq, nat_le, nat_lt, Bool, true, if◌then◌else◌, Option, Some, None}
use Rattle.heap_terms.specs.declared.tags.TheConstants.{CONS_TAG}
use Rattle.heap_terms.specs.Seen.{reference_of}
use Rattle.heap_terms.specs.Shapes.{Reference, Shape, Nil, Cons, Tuple}
use Rattle.heap_terms.specs.declared.shape.Reference.{Reference as AReference}
use Rattle.machine_services.specs.Lists as Lists
use Rattle.machine_services.specs.declared.list.Link.{Link}
use Rattle.machine_services.specs.declared.list.Link.TheVariants as links
use Rattle.machine_services.specs.declared.list.Span.{Span}
use Rattle.machine_services.specs.declared.list.Room.{Room}
use Rattle.machine_services.specs.declared.list.Room.TheVariants as rooms
use Rattle.machine_services.specs.declared.list.Spine.{Spine}
use Rattle.machine_services.specs.declared.list.Spine.TheVariants.{NoTerm, Improper, Proper}

abbrev pub spine_seen : Lists.Spine → Spine
spine_seen Lists.NoTerm = NoTerm
spine_seen Lists.Improper = Improper
spine_seen (Lists.Proper ws) = Proper (length ws)

abbrev pub IsProper : Lists.Spine → Type 0
IsProper (Lists.Proper ws) = Unit {0}
IsProper _ = ⊥

-- the words of a proper list's elements
abbrev pub spine_elements : Lists.Spine → List ℕ
spine_elements Lists.NoTerm = []
spine_elements Lists.Improper = []
spine_elements (Lists.Proper ws) = ws

-- a list has at most so many elements
abbrev pub IsWithin : ℕ → Spine → Type 0
IsWithin limit (Proper n) = n ≤ limit
IsWithin limit _ = Unit {0}

abbrev pub code_reference : Reference → AReference
code_reference r = record { below = r.below; word = r.word }

-- what a list's word leads to, by its shape: the cell of a list, nil, and else no list
abbrev pub link_of : Option (Shape Reference) → Link
link_of None = links.NoTerm
link_of (Some Nil) = links.End
link_of (Some (Cons head tail)) = links.Cell head.word (code_reference tail)
link_of (Some _) = links.Improper

-- a list by what its word leads to, and by the lists that others are
abbrev pub link_spine : (Reference → Lists.Spine) → Link → Lists.Spine
link_spine spine links.NoTerm = Lists.NoTerm
link_spine spine links.Improper = Lists.Improper
link_spine spine links.End = Lists.Proper []
link_spine spine (links.Cell head tail) = Lists.before head (spine (reference_of tail))

-- the rest refers below this
abbrev pub FallsBelow : ℕ → Link → Type 0
FallsBelow limit (links.Cell head tail) = tail.below < limit
FallsBelow limit _ = Unit {0}

-- what a list's word leads to refers below this
abbrev pub stands_below : ℕ → Link → Bool
stands_below at (links.Cell head rest) = nat_lt rest.below at
stands_below at _ = true

-- the word of a list of so many cells that stand from an address on, the last first, before a tail
abbrev pub list_word : ℕ → ℕ → ℕ → ℕ
list_word free n tail = if nat_eq n 0 then tail else free + 16 * (n - 1) + CONS_TAG

-- the words of a tuple's elements
abbrev pub elements_of : Option (Shape Reference) → Option (List ℕ)
elements_of (Some (Tuple elements)) = Some (map (λ e. e.word) elements)
elements_of _ = None

-- these words stand there in the heap
abbrev pub StandAt : List ℕ → Span → Option (List ℕ) → Type 0
StandAt heap p ws = (p.at + p.words ≤ length heap) × (ws ≡ Some (take p.words (drop p.at heap)))

-- whether so many words fit at the heap pointer
abbrev pub room_of : List ℕ → Option ℕ → ℕ → Room
room_of heap None n = rooms.Outside
room_of heap (Some i) n = if nat_le (i + n) (length heap) then rooms.At i else rooms.Full
