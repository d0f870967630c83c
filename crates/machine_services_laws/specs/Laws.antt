-- What the services do with words that stand for terms in a prefix of a heap, before its n-th word.
use Rattle.std.specs.Prelude.{◌≡◌, ◌≢◌, ℕ, ◌+◌, ◌*◌, ◌<◌, ◌≤◌, List, [], ◌∷◌, length, Option, Some, None}
use Rattle.region_memory.specs.declared.layout.TheConstants.{HEAP_LIMIT}
use Rattle.hipe_terms.specs.Order.{order}
use Rattle.hipe_terms.specs.declared.class.Class.{Class}
use Rattle.hipe_terms.specs.Classes.{class_numbered}
use Rattle.hipe_terms.specs.Outcome.{elements}
use Rattle.hipe_terms.specs.Terms.{Term, nil, tuple, Terms, count, cells}
use Rattle.hipe_terms.specs.Words.{list_words, tuple_words}
use Rattle.heap_terms.specs.declared.tags.TheConstants.{OBJECT_TAG}
use Rattle.heap_terms.specs.Shapes.{Symbols, heap_begin}
use Rattle.heap_terms_laws.specs.Prefixes.{StandsBefore, SameBelow}
use Rattle.machine_services.specs.declared.service.Service.TheVariants as services
use Rattle.machine_services.specs.Numbers.{service_number}
use Rattle.machine_services.specs.Services.{Effect, Ends, Answers, Displays, Builds, Returned, Raised, HeapFull, StackFull, minus_one, order_word, service, heap_with}

-- for every prefix of every heap, and whatever the symbols
abbrev pub InPrefixes : (Symbols → List ℕ → ℕ → Type 0) → Type 0
InPrefixes Law = (symbols : Symbols) (heap : List ℕ) (n : ℕ) → n ≤ length heap → Law symbols heap n

-- 1 where two terms are equal, and else 0
pub record TellsEqual (t u : Term) (s : Effect) : Type 0 where
  pub equal : t ≡ u → s ≡ Answers 1
  pub unequal : t ≢ u → s ≡ Answers 0

-- the number of elements of a proper list
abbrev pub length_answer : Option (List Term) → ℕ
length_answer (Some ts) = length ts
length_answer None = minus_one

module _ (symbols : Symbols) (heap : List ℕ) (n : ℕ) where
  abbrev Stands : Term → ℕ → Type 0
  Stands t w = StandsBefore symbols heap n t w

  -- ---- the run's end, and what is displayed

  abbrev pub ReturnsTerm : Type 0
  ReturnsTerm = (t : Term) (w second free : ℕ) → Stands t w → service symbols heap (service_number services.Return) w second free ≡ Ends (Returned t)

  abbrev pub RaisesTerm : Type 0
  RaisesTerm = (t : Term) (w second free : ℕ) (class : Class) → Stands t w → class_numbered second ≡ Some class → service symbols heap (service_number services.Raise) w second free ≡ Ends (Raised class t)

  abbrev pub DisplaysTerm : Type 0
  DisplaysTerm = (t : Term) (w second free : ℕ) → Stands t w → service symbols heap (service_number services.Display) w second free ≡ Displays t

  -- ---- two terms

  abbrev pub ComparesEqual : Type 0
  ComparesEqual = (t u : Term) (first second free : ℕ) → Stands t first → Stands u second → TellsEqual t u (service symbols heap (service_number services.Equal) first second free)

  abbrev pub OrdersTerms : Type 0
  OrdersTerms = (t u : Term) (first second free : ℕ) → Stands t first → Stands u second → service symbols heap (service_number services.Compare) first second free ≡ order_word (Some (order t u))

  -- ---- lists and tuples

  abbrev pub CountsElements : Type 0
  CountsElements = (t : Term) (w second free : ℕ) → Stands t w → service symbols heap (service_number services.Length) w second free ≡ Answers (length_answer (elements t))

  -- the address of the n-th word
  abbrev pub free_at : ℕ
  free_at = heap_begin heap + 8 * n

  -- A term is built in so many words from the n-th on, and what stands before them is the same. Or the heap has no room for so many.
  abbrev pub BuildsBehind : ℕ → Term → Effect → Type 0
  BuildsBehind room t (Builds result words) = (length words ≡ room) × (n + room ≤ length heap) × SameBelow n heap (heap_with heap free_at words)
      × StandsBefore symbols (heap_with heap free_at words) (n + room) t result
  BuildsBehind room t (Ends HeapFull) = length heap < n + room
  BuildsBehind room t _ = ⊥

  -- the elements of a proper list before the term of a word; where there are none, it is the word itself
  abbrev pub AppendsTo : Option (List Term) → Term → ℕ → Effect → Type 0
  AppendsTo (Some []) u second s = s ≡ Answers second
  AppendsTo (Some (t ∷ ts)) u second s = BuildsBehind (list_words (length (t ∷ ts))) (cells (t ∷ ts) u) s
  AppendsTo None u second s = s ≡ Answers 0

  abbrev pub AppendsLists : Type 0
  AppendsLists = length heap ≤ HEAP_LIMIT → (t u : Term) (first second : ℕ) → Stands t first → Stands u second → AppendsTo (elements t) u second (service symbols heap (service_number services.Append) first second free_at)

  -- With nil before it the word is the answer, wherever the heap pointer is.
  abbrev pub AppendsToNil : Type 0
  AppendsToNil = (first second free : ℕ) → Stands nil first → service symbols heap (service_number services.Append) first second free ≡ Answers second

  -- what is built is an object that begins behind the words that are used, and so none of those that stand there
  abbrev pub IsAtFree : Effect → Type 0
  IsAtFree (Builds result words) = result ≡ free_at + OBJECT_TAG
  IsAtFree _ = Unit {0}

  abbrev pub CopiesTo : Terms → Effect → Type 0
  CopiesTo ts s = BuildsBehind (tuple_words (count ts)) (tuple ts) s × IsAtFree s

  abbrev pub CopiesTuple : Type 0
  CopiesTuple = length heap ≤ HEAP_LIMIT → (ts : Terms) (w second : ℕ) → Stands (tuple ts) w → CopiesTo ts (service symbols heap (service_number services.CopyTuple) w second free_at)

  -- ---- the run's end for want of room

  abbrev pub EndsHeapFull : Type 0
  EndsHeapFull = (first second free : ℕ) → service symbols heap (service_number services.HeapFull) first second free ≡ Ends HeapFull

  abbrev pub EndsStackFull : Type 0
  EndsStackFull = (first second free : ℕ) → service symbols heap (service_number services.StackFull) first second free ≡ Ends StackFull
