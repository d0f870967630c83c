-- The state in which the run of a sum's image begins.
use Rattle.std.proofs.Common.{◌≡◌, ℕ, ◌+◌, ◌-◌, ◌*◌, ◌≤◌, true, List, [], ◌∷◌, length, Some, None, bytes_eq, ap, ◌∙◌, arith, length-set}
use Rattle.std.specs.Prelude.{codes, nat_le, ◌&&◌, if◌then◌else◌}
use Rattle.std.proofs.lemmas.Bool.Decides.{nat_tests}
use Rattle.hipe_base.specs.declared.limits.TheConstants.{CODE_LIMIT}
use Rattle.region_memory.specs.declared.layout.TheConstants.{CODE_BEGIN, STACK_BEGIN}
use Rattle.region_memory.specs.Regions.{Regions, IsWithinLimits, heap_begin}
use Rattle.image_link.specs.declared.image.Function.{Function}
use Rattle.image_link.specs.Atoms.{Atoms, interned, number_in}
use Rattle.image_link.specs.Linking.{placed, start_of}
use Rattle.image_link.specs.Names.{names_for}
use Rattle.image_load.specs.Loading.{Program, HeapFull, loaded, begun, ready, not_ready, exported, is_called, has_name, symbols_for, with_call, with_code, first_four}
use Rattle.amd64_machine.specs.Arithmetic.{no_flags}
use Rattle.amd64_machine.specs.Machine.{On}
use Rattle.amd64_machine.specs.Loading.{start, first_registers, begun as state_begun}
use Rattle.core_sum.specs.declared.sum.Sum.{Sum}
use Rattle.sum_code.specs.Code.{part_for, image_for, main_call}
use Rattle.sum_code.proofs.Names.{named}

-- the memory with the program and the call
abbrev pub prepared : List ℕ → Sum → Regions → Regions
prepared name e regions = with_call ([], []) (with_code (image_for name e) regions)

-- the function
abbrev pub main_function : List ℕ → Sum → Function
main_function name e =
    placed (record { name = Some (number_in (codes "main") (names_for name).atoms); arity = 0; captured = 0 }) (start_of (part_for e ∷ []) 0) (part_for e)

has_main : (atoms : Atoms) → has_name (interned (codes "main") atoms) (codes "main") (Some (number_in (codes "main") atoms)) ≡ true
has_main atoms = ap (bytes_eq (codes "main")) (named (codes "main") atoms)

main_is_called : (name : List ℕ) (e : Sum) → is_called (image_for name e).atoms (codes "main") 0 (Some (main_function name e)) ≡ true
main_is_called name e = ap (λ b. b && true) (has_main (names_for name).atoms)

main_is_exported : (name : List ℕ) (e : Sum) → exported (image_for name e) (codes "main") 0 (image_for name e).exports ≡ Some (main_function name e)
main_is_exported name e = ap (λ b. if b then Some (main_function name e) else None) (main_is_called name e)

-- no constants need no room
has_room : (words : ℕ) → nat_le 0 words ≡ true
has_room words = grind (arith, nat_tests)

loaded_is : (name : List ℕ) (e : Sum) (regions : Regions)
    → loaded (image_for name e) main_call regions ≡ ready (symbols_for (image_for name e) []) (with_code (image_for name e) regions) (main_function name e) ([], [])
unfolding loaded
loaded_is name e regions =
    let symbols = symbols_for (image_for name e) [] in
    let coded = with_code (image_for name e) regions in
    ap (begun symbols coded []) (main_is_exported name e)
    ∙ ap (λ b. if b then ready symbols coded (main_function name e) ([], []) else not_ready symbols coded HeapFull) (has_room (length regions.heap))

-- the run begins at the function's first byte, behind the exit part, with the exit part's address on the stack alone
pub start_is : (name : List ℕ) (e : Sum) (regions : Regions)
    → start (image_for name e) main_call regions
    ≡ On (CODE_BEGIN + (main_function name e).closure_entry) (first_registers (first_four []) (heap_begin regions + 0) (STACK_BEGIN + 8 * (length (prepared name e regions).stack - 1))) no_flags (prepared name e regions) []
start_is name e regions = ap (λ (p : Program). state_begun p.regions p.beginning) (loaded_is name e regions)

-- the memory is within its limits
pub prepared_within : (name : List ℕ) (e : Sum) (regions : Regions) → IsWithinLimits regions → length (image_for name e).code ≤ CODE_LIMIT → IsWithinLimits (prepared name e regions)
prepared_within name e regions l short =
    let size = length-set regions.stack (length regions.stack - 1) CODE_BEGIN in
    record {
      code = short;
      table = omega arith;
      arguments = l.arguments;
      stack_least = let a = l.stack_least in omega (arith, size);
      stack = let a = l.stack in omega (arith, size);
      heap = l.heap;
    }
