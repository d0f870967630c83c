-- What the code answers of a service, and what it leaves in the heap.
use Rattle.std.specs.Prelude.{◌≡◌, ℕ, List, [], ◌∷◌, ◌++◌, length, string_bytes}
use Rattle.hipe_terms.specs.Shown.{Names, shown}
use Rattle.hipe_terms.specs.Terms.{Term}
use Rattle.machine_services.specs.declared.services.Served.{Served}
use Rattle.machine_services.specs.declared.services.Served.TheVariants as served
use Rattle.machine_services.specs.Services.{Effect, NoNext, Ends, Answers, Displays, Builds, Returned, Raised, HeapFull, StackFull, heap_with}

-- a term in a line of its own
abbrev pub line_of : Names → Term → List ℕ
line_of names t = shown names t ++ 10 ∷ []

abbrev pub HasLine : Served → List ℕ → Type 0
HasLine (served.Displayed text) line = string_bytes text ≡ line
HasLine _ line = ⊥

-- the answer to a service over a heap, and the heap behind it
abbrev pub IsServed : Names → List ℕ → ℕ → Effect → Served → List ℕ → Type 0
IsServed names heap free NoNext s new = (s ≡ served.NoNext) × (new ≡ heap)
IsServed names heap free (Ends (Returned t)) s new = (s ≡ served.Returned) × (new ≡ heap)
IsServed names heap free (Ends (Raised class t)) s new = (s ≡ served.Raised class) × (new ≡ heap)
IsServed names heap free (Ends HeapFull) s new = (s ≡ served.HeapFull) × (new ≡ heap)
IsServed names heap free (Ends StackFull) s new = (s ≡ served.StackFull) × (new ≡ heap)
IsServed names heap free (Answers result) s new = (s ≡ served.Answered result) × (new ≡ heap)
IsServed names heap free (Displays t) s new = HasLine s (line_of names t) × (new ≡ heap)
IsServed names heap free (Builds result words) s new = (s ≡ served.Built result (length words)) × (new ≡ heap_with heap free words)
