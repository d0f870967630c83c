-- What the services keep of terms.
use Rattle.std.specs.Prelude.{◌≡◌, ℕ, ◌-◌, ◌/◌, List, [], ◌∷◌, length, take, Some}
use Rattle.hipe_terms.specs.Order.{order}
use Rattle.hipe_terms.specs.Terms.{Term, cells}
use Rattle.heap_terms.specs.Shapes.{Symbols, heap_begin}
use Rattle.heap_terms.specs.Terms.{term_at, term_below}
use Rattle.machine_services.specs.Comparing.{compared}
use Rattle.machine_services.specs.Lists.{Proper, spine_at}
use Rattle.machine_services.specs.declared.service.Service.TheVariants as services
use Rattle.machine_services.specs.Numbers.{service_number}
use Rattle.machine_services.specs.Services.{Builds, service, heap_with}

-- words are in the order of the terms for which they stand
abbrev pub WordsCompare : Type 0
WordsCompare = (symbols : Symbols) (heap : List ℕ) (v w : ℕ) (t u : Term)
    → term_at symbols heap v ≡ Some t → term_at symbols heap w ≡ Some u → compared symbols heap v w ≡ Some (order t u)

-- a word stands for a term by what stands in the heap below the word with this number, whatever stands from there on
abbrev pub IsKept : Symbols → List ℕ → ℕ → ℕ → Term → Type 0
IsKept symbols heap i w t = (after : List ℕ) → length after ≡ length heap → take i after ≡ take i heap
    → term_below symbols after (record { below = i; word = w }) ≡ Some t

-- one by one
abbrev pub AllKept : Symbols → List ℕ → ℕ → List ℕ → List Term → Type 0
AllKept symbols heap i [] [] = Unit {0}
AllKept symbols heap i (w ∷ ws) (t ∷ ts) = IsKept symbols heap i w t × AllKept symbols heap i ws ts
AllKept symbols heap i ws ts = ⊥

-- the list that `Append` builds stands for the terms of the first list's elements before the term of the second word, where these stand
-- by what is below the heap pointer
abbrev pub ListsAppend : Type 0
ListsAppend = (symbols : Symbols) (heap : List ℕ) (first second free result : ℕ) (words ws : List ℕ) (ts : List Term) (u : Term)
    → service symbols heap (service_number services.Append) first second free ≡ Builds result words → spine_at symbols heap first ≡ Proper ws
    → AllKept symbols heap ((free - heap_begin heap) / 8) ws ts → IsKept symbols heap ((free - heap_begin heap) / 8) second u
    → term_at symbols (heap_with heap free words) result ≡ Some (cells ts u)
