-- The machine on the exit part.
use Rattle.std.proofs.Common.{◌≡◌, ℕ, ◌/◌, ◌%◌, ◌^◌, ℤ, pos, List, [], sym, ap, ◌∙◌, subst}
use Rattle.hipe_terms.specs.Terms.{integer}
use Rattle.region_memory.specs.Regions.{Regions, IsWithinLimits}
use Rattle.heap_terms.specs.Integers.{IsInteger, word_of}
use Rattle.heap_terms.specs.Shapes.{Symbols}
use Rattle.machine_services.specs.Services.{Ending, Ends, Returned, returned, service}
use Rattle.image_link.specs.Code.{exit_part}
use Rattle.amd64_machine.specs.declared.state.Flags.{Flags}
use Rattle.amd64_machine.specs.Machine.{Registers, State, Over, ByService, displaced, called, served}
use Rattle.amd64_machine.specs.Fetch.{Here, fetch}
use Rattle.amd64_form.specs.declared.inst.Inst.TheVariants.{Syscall}
use Rattle.sum_code.proofs.Integers.{term_of_word}
use Rattle.sum_code.proofs.Simulation.{Has, Within, on, go, at_once}
use Rattle.sum_code.proofs.Stack.{with_stack}

-- service 0 ends with the integer
returned_integer : (symbols : Symbols) (heap : List ℕ) (second free : ℕ) (v : ℤ) → IsInteger v → service symbols heap 0 (word_of v) second free ≡ Ends (Returned (integer v))
unfolding service
returned_integer symbols heap second free v is = ap returned (term_of_word symbols heap v is)

-- it is the service that the exit part calls where the class is 0
called_with : (symbols : Symbols) (heap : List ℕ) (class first second free : ℕ) (v : ℤ) → IsInteger v → class ≡ 0 → first ≡ word_of v
    → service symbols heap (displaced class (pos 3) / 2 ^ (2 % 64)) first second free ≡ Ends (Returned (integer v))
called_with symbols heap class first second free v is none word =
    ap (λ c. service symbols heap (displaced c (pos 3) / 2 ^ (2 % 64)) first second free) none
    ∙ ap (λ w. service symbols heap 0 w second free) word ∙ returned_integer symbols heap second free v is

-- a call of a service that ends the run
ended : (symbols : Symbols) (regions : Regions) (limits : IsWithinLimits regions) (P : State → Type 0) (ending : Ending) (at next : ℕ) (registers : Registers) (flags : Flags) (stack : List ℕ)
    → fetch regions.code at ≡ Here Syscall next → called symbols registers (with_stack regions stack) ≡ Ends ending → P (Over (ByService ending) []) → Within symbols regions limits P 1 (on symbols regions limits at registers flags stack)
ended symbols regions limits P ending at next registers flags stack here is p =
    go symbols regions limits P stack here (at_once symbols regions limits P (subst (λ s. P (served at next registers (with_stack regions stack) [] s)) (sym is) p))

pub exit_runs : (symbols : Symbols) (regions : Regions) (limits : IsWithinLimits regions) (P : State → Type 0) (v : ℤ) (at : ℕ) (registers : Registers) (flags : Flags) (stack : List ℕ)
    → IsInteger v → Has regions.code at exit_part → registers 0 ≡ word_of v → registers 2 ≡ 0 → P (Over (ByService (Returned (integer v))) []) → Within symbols regions limits P 5 (on symbols regions limits at registers flags stack)
exit_runs symbols regions limits P v at registers flags stack is has word none p =
    go symbols regions limits P stack has.1 (go symbols regions limits P stack has.2.1 (go symbols regions limits P stack has.2.2.1 (go symbols regions limits P stack has.2.2.2.1
    (ended symbols regions limits P (Returned (integer v)) _ _ _ _ stack has.2.2.2.2.1 (called_with symbols regions.heap (registers 2) (registers 0) (registers 2) (registers 15) v is none word) p))))
