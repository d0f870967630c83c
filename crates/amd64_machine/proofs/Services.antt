-- What a service did, from what the code answers of it.
use Rattle.std.proofs.Common.{◌≡◌, ℕ, ◌+◌, ◌*◌, List, [], ◌∷◌, length, map, Option, Some, None, true, false, refl, ap}
use Rattle.std.specs.Prelude.{Bool, nat_le, string_bytes, if◌then◌else◌}
use Rattle.std.specs.declared.cmp.Ordering.{Ordering}
use Rattle.std.specs.declared.cmp.Ordering.TheVariants.{Less, Equal, Greater}
use Rattle.std.specs.Global.{Global}
use Rattle.std.specs.declared.string.String.{String}
use Rattle.hipe_terms.specs.Terms.{Term}
use Rattle.hipe_terms.specs.Shown.{Names}
use Rattle.hipe_terms.specs.declared.class.Class.{Class}
use Rattle.heap_terms.specs.Shapes.{Symbols, Reference, Shape, Integer, Atom, Nil, Cons, Tuple, Fun, shape_at, from_outside}
use Rattle.heap_terms.specs.Terms.{term_at}
use Rattle.machine_services.specs.declared.services.Served.TheVariants as served
use Rattle.hipe_terms.specs.Classes.{class_numbered}
use Rattle.heap_terms.specs.declared.tags.TheConstants.{OBJECT_TAG, HEADER_SCALE}
use Rattle.machine_services.specs.declared.service.Service.{Service}
use Rattle.machine_services.specs.declared.service.Service.TheVariants as services
use Rattle.machine_services.specs.Numbers.{service_numbered}
use Rattle.machine_services.specs.Comparing.{compared}
use Rattle.machine_services.specs.Lists.{Spine, NoTerm, Improper, Proper, spine_at, cells_from}
use Rattle.machine_services.specs.Services.{Effect, NoNext, Ends, Answers, Displays, Builds, Returned, Raised, HeapFull, StackFull, returned, raised, displayed, equality, order_word, length_word, free_index, placed, appended, copied, does, served_by, service, heap_with}
use Rattle.machine_services.specs.Served.{IsServed, line_of}

-- there is no next state
pub no_next : (names : Names) (heap : List ℕ) (free : ℕ) (v : Effect) (new : List ℕ) → IsServed names heap free v served.NoNext new
    → (v ≡ NoNext) × (new ≡ heap)
no_next names heap free NoNext new e = (refl, e.1)
no_next names heap free (Ends (Returned t)) new e = let h = e.0 in absurd (cc)
no_next names heap free (Ends (Raised class t)) new e = let h = e.0 in absurd (cc)
no_next names heap free (Ends HeapFull) new e = let h = e.0 in absurd (cc)
no_next names heap free (Ends StackFull) new e = let h = e.0 in absurd (cc)
no_next names heap free (Answers word) new e = let h = e.0 in absurd (cc)
no_next names heap free (Displays t) new e = absurd e.0
no_next names heap free (Builds word words) new e = let h = e.0 in absurd (cc)

-- it returned
pub has_returned : (names : Names) (heap : List ℕ) (free : ℕ) (v : Effect) (new : List ℕ) → IsServed names heap free v served.Returned new
    → (t : Term) × (v ≡ Ends (Returned t)) × (new ≡ heap)
has_returned names heap free NoNext new e = let h = e.0 in absurd (cc)
has_returned names heap free (Ends (Returned t)) new e = (t, refl, e.1)
has_returned names heap free (Ends (Raised class t)) new e = let h = e.0 in absurd (cc)
has_returned names heap free (Ends HeapFull) new e = let h = e.0 in absurd (cc)
has_returned names heap free (Ends StackFull) new e = let h = e.0 in absurd (cc)
has_returned names heap free (Answers word) new e = let h = e.0 in absurd (cc)
has_returned names heap free (Displays t) new e = absurd e.0
has_returned names heap free (Builds word words) new e = let h = e.0 in absurd (cc)

-- it raised
pub has_raised : (names : Names) (heap : List ℕ) (free : ℕ) (v : Effect) (code : Class) (new : List ℕ) → IsServed names heap free v (served.Raised code) new
    → (t : Term) × (v ≡ Ends (Raised code t)) × (new ≡ heap)
has_raised names heap free NoNext code new e = let h = e.0 in absurd (cc)
has_raised names heap free (Ends (Returned t)) code new e = let h = e.0 in absurd (cc)
has_raised names heap free (Ends (Raised class t)) code new e = let same : class ≡ code = let h = e.0 in cc in (t, ap (λ c. Ends (Raised c t)) same, e.1)
has_raised names heap free (Ends HeapFull) code new e = let h = e.0 in absurd (cc)
has_raised names heap free (Ends StackFull) code new e = let h = e.0 in absurd (cc)
has_raised names heap free (Answers word) code new e = let h = e.0 in absurd (cc)
has_raised names heap free (Displays t) code new e = absurd e.0
has_raised names heap free (Builds word words) code new e = let h = e.0 in absurd (cc)

-- the heap is full
pub is_heap_full : (names : Names) (heap : List ℕ) (free : ℕ) (v : Effect) (new : List ℕ) → IsServed names heap free v served.HeapFull new
    → (v ≡ Ends HeapFull) × (new ≡ heap)
is_heap_full names heap free NoNext new e = let h = e.0 in absurd (cc)
is_heap_full names heap free (Ends (Returned t)) new e = let h = e.0 in absurd (cc)
is_heap_full names heap free (Ends (Raised class t)) new e = let h = e.0 in absurd (cc)
is_heap_full names heap free (Ends HeapFull) new e = (refl, e.1)
is_heap_full names heap free (Ends StackFull) new e = let h = e.0 in absurd (cc)
is_heap_full names heap free (Answers word) new e = let h = e.0 in absurd (cc)
is_heap_full names heap free (Displays t) new e = absurd e.0
is_heap_full names heap free (Builds word words) new e = let h = e.0 in absurd (cc)

-- the stack is full
pub is_stack_full : (names : Names) (heap : List ℕ) (free : ℕ) (v : Effect) (new : List ℕ) → IsServed names heap free v served.StackFull new
    → (v ≡ Ends StackFull) × (new ≡ heap)
is_stack_full names heap free NoNext new e = let h = e.0 in absurd (cc)
is_stack_full names heap free (Ends (Returned t)) new e = let h = e.0 in absurd (cc)
is_stack_full names heap free (Ends (Raised class t)) new e = let h = e.0 in absurd (cc)
is_stack_full names heap free (Ends HeapFull) new e = let h = e.0 in absurd (cc)
is_stack_full names heap free (Ends StackFull) new e = (refl, e.1)
is_stack_full names heap free (Answers word) new e = let h = e.0 in absurd (cc)
is_stack_full names heap free (Displays t) new e = absurd e.0
is_stack_full names heap free (Builds word words) new e = let h = e.0 in absurd (cc)

-- it answered
pub has_answered : (names : Names) (heap : List ℕ) (free : ℕ) (v : Effect) (result : ℕ) (new : List ℕ) → IsServed names heap free v (served.Answered result) new
    → (v ≡ Answers result) × (new ≡ heap)
has_answered names heap free NoNext result new e = let h = e.0 in absurd (cc)
has_answered names heap free (Ends (Returned t)) result new e = let h = e.0 in absurd (cc)
has_answered names heap free (Ends (Raised class t)) result new e = let h = e.0 in absurd (cc)
has_answered names heap free (Ends HeapFull) result new e = let h = e.0 in absurd (cc)
has_answered names heap free (Ends StackFull) result new e = let h = e.0 in absurd (cc)
has_answered names heap free (Answers word) result new e = let same : word ≡ result = let h = e.0 in cc in (ap Answers same, e.1)
has_answered names heap free (Displays t) result new e = absurd e.0
has_answered names heap free (Builds word words) result new e = let h = e.0 in absurd (cc)

-- it built words
pub has_built : (names : Names) (heap : List ℕ) (free : ℕ) (v : Effect) (result : ℕ) (count : ℕ) (new : List ℕ) → IsServed names heap free v (served.Built result count) new
    → (words : List ℕ) × (v ≡ Builds result words) × (count ≡ length words) × (new ≡ heap_with heap free words)
has_built names heap free NoNext result count new e = let h = e.0 in absurd (cc)
has_built names heap free (Ends (Returned t)) result count new e = let h = e.0 in absurd (cc)
has_built names heap free (Ends (Raised class t)) result count new e = let h = e.0 in absurd (cc)
has_built names heap free (Ends HeapFull) result count new e = let h = e.0 in absurd (cc)
has_built names heap free (Ends StackFull) result count new e = let h = e.0 in absurd (cc)
has_built names heap free (Answers word) result count new e = let h = e.0 in absurd (cc)
has_built names heap free (Displays t) result count new e = absurd e.0
has_built names heap free (Builds word words) result count new e = let same : word ≡ result = let h = e.0 in cc in let many : count ≡ length words = let h = e.0 in cc in (words, ap (λ w. Builds w words) same, many, e.1)

-- it displays
pub has_displayed : (names : Names) (heap : List ℕ) (free : ℕ) (v : Effect) (text : String Global) (new : List ℕ) → IsServed names heap free v (served.Displayed text) new
    → (t : Term) × (v ≡ Displays t) × (string_bytes text ≡ line_of names t) × (new ≡ heap)
has_displayed names heap free NoNext text new e = let h = e.0 in absurd (cc)
has_displayed names heap free (Ends (Returned t)) text new e = let h = e.0 in absurd (cc)
has_displayed names heap free (Ends (Raised class t)) text new e = let h = e.0 in absurd (cc)
has_displayed names heap free (Ends HeapFull) text new e = let h = e.0 in absurd (cc)
has_displayed names heap free (Ends StackFull) text new e = let h = e.0 in absurd (cc)
has_displayed names heap free (Answers word) text new e = let h = e.0 in absurd (cc)
has_displayed names heap free (Displays t) text new e = (t, refl, e.0, e.1)
has_displayed names heap free (Builds word words) text new e = let h = e.0 in absurd (cc)

-- ---- a service that ends with a term ends with that of rdi

abbrev pub EndsWith : Option Term → Effect → Type 0
EndsWith o (Ends (Returned t)) = o ≡ Some t
EndsWith o (Ends (Raised class t)) = o ≡ Some t
EndsWith o v = Unit {0}

if_ends : (o : Option Term) (b : Bool) (x y : Effect) → EndsWith o x → EndsWith o y → EndsWith o (if b then x else y)
if_ends o true x y p q = p
if_ends o false x y p q = q

returned_ends : (o : Option Term) → EndsWith o (returned o)
returned_ends None = tt
returned_ends (Some t) = refl

raised_ends : (o : Option Term) (class : Option Class) → EndsWith o (raised class o)
raised_ends o None = tt
raised_ends None (Some class) = tt
raised_ends (Some t) (Some class) = refl

displayed_ends : (o p : Option Term) → EndsWith o (displayed p)
displayed_ends o None = tt
displayed_ends o (Some t) = tt

equality_ends : (o : Option Term) (order : Option Ordering) → EndsWith o (equality order)
equality_ends o None = tt
equality_ends o (Some Less) = tt
equality_ends o (Some Equal) = tt
equality_ends o (Some Greater) = tt

order_ends : (o : Option Term) (order : Option Ordering) → EndsWith o (order_word order)
order_ends o None = tt
order_ends o (Some Less) = tt
order_ends o (Some Equal) = tt
order_ends o (Some Greater) = tt

length_ends : (o : Option Term) (spine : Spine) → EndsWith o (length_word spine)
length_ends o NoTerm = tt
length_ends o Improper = tt
length_ends o (Proper ws) = tt

placed_ends : (o : Option Term) (heap : List ℕ) (at : Option ℕ) (result : ℕ) (words : List ℕ) → EndsWith o (placed heap at result words)
placed_ends o heap None result words = tt
placed_ends o heap (Some i) result words = if_ends o (nat_le (i + length words) (length heap)) (Builds result words) (Ends HeapFull) tt tt

appended_ends : (o : Option Term) (heap : List ℕ) (free : ℕ) (spine : Spine) (tail : ℕ) → EndsWith o (appended heap free spine tail)
appended_ends o heap free NoTerm tail = tt
appended_ends o heap free Improper tail = tt
appended_ends o heap free (Proper []) tail = tt
appended_ends o heap free (Proper (w ∷ ws)) tail =
    placed_ends o heap (free_index heap free) (cells_from free (w ∷ ws) tail).0 (cells_from free (w ∷ ws) tail).1

copied_ends : (o : Option Term) (heap : List ℕ) (free : ℕ) (shape : Option (Shape Reference)) → EndsWith o (copied heap free shape)
copied_ends o heap free None = tt
copied_ends o heap free (Some (Integer n)) = tt
copied_ends o heap free (Some (Atom a)) = tt
copied_ends o heap free (Some Nil) = tt
copied_ends o heap free (Some (Cons a b)) = tt
copied_ends o heap free (Some (Fun f ts)) = tt
copied_ends o heap free (Some (Tuple ts)) =
    placed_ends o heap (free_index heap free) (free + OBJECT_TAG) ((HEADER_SCALE * length ts) ∷ map (λ e. e.word) ts)

does_end : (symbols : Symbols) (heap : List ℕ) (s : Service) (first second free : ℕ) → EndsWith (term_at symbols heap first) (does symbols heap s first second free)
does_end symbols heap services.Return first second free = returned_ends (term_at symbols heap first)
does_end symbols heap services.Raise first second free = raised_ends (term_at symbols heap first) (class_numbered second)
does_end symbols heap services.HeapFull first second free = tt
does_end symbols heap services.StackFull first second free = tt
does_end symbols heap services.Display first second free = displayed_ends (term_at symbols heap first) (term_at symbols heap first)
does_end symbols heap services.Equal first second free = equality_ends (term_at symbols heap first) (compared symbols heap first second)
does_end symbols heap services.Compare first second free = order_ends (term_at symbols heap first) (compared symbols heap first second)
does_end symbols heap services.Length first second free = length_ends (term_at symbols heap first) (spine_at symbols heap first)
does_end symbols heap services.Append first second free = appended_ends (term_at symbols heap first) heap free (spine_at symbols heap first) second
does_end symbols heap services.CopyTuple first second free = copied_ends (term_at symbols heap first) heap free (shape_at symbols heap (from_outside heap first))

served_ends : (symbols : Symbols) (heap : List ℕ) (s : Option Service) (first second free : ℕ) → EndsWith (term_at symbols heap first) (served_by symbols heap s first second free)
served_ends symbols heap None first second free = tt
served_ends symbols heap (Some s) first second free = does_end symbols heap s first second free

pub service_ends : (symbols : Symbols) (heap : List ℕ) (number first second free : ℕ)
    → EndsWith (term_at symbols heap first) (service symbols heap number first second free)
unfolding service
service_ends symbols heap number first second free = served_ends symbols heap (service_numbered number) first second free
