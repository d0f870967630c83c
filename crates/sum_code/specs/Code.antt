-- The code of a sum.
use Rattle.std.specs.Prelude.{◌≡◌, ◌≤◌, ℕ, ℤ, pos, ◌-ℤ◌, List, [], ◌∷◌, ◌++◌, Some, codes}
use Rattle.std.specs.List.{flat_map}
use Rattle.hipe_terms.specs.Terms.{integer}
use Rattle.hipe_terms.specs.declared.constant.Call.{Call}
use Rattle.amd64_form.specs.declared.inst.Inst.{Inst}
use Rattle.amd64_form.specs.declared.inst.Inst.TheVariants.{LoadConstant, Binary, BinaryConstant, Push, Pop, Return}
use Rattle.amd64_form.specs.declared.operation.BinaryOp.TheVariants.{Add}
use Rattle.amd64_form.specs.declared.reg.Reg.TheVariants.{Rax, Rcx, Rdx}
use Rattle.amd64_form.specs.Encoding.{encoding}
use Rattle.region_memory.specs.Regions.{opened}
use Rattle.heap_terms.specs.declared.tags.TheConstants.{INTEGER_TAG}
use Rattle.heap_terms.specs.Integers.{word_of}
use Rattle.machine_services.specs.Services.{Returned}
use Rattle.image_link.specs.declared.code.Code.{Code as Part}
use Rattle.image_link.specs.Names.{ProgramNames, names_for, with_atom, with_function, with_export}
use Rattle.image_link.specs.Atoms.{number_in}
use Rattle.image_link.specs.Image.{ProgramImage}
use Rattle.image_link.specs.Linking.{linked}
use Rattle.image_load.specs.Loading.{symbols_for}
use Rattle.amd64_machine.specs.Machine.{Over, ByService, machine_run}
use Rattle.amd64_machine.specs.Loading.{start}
use Rattle.core_sum.specs.declared.sum.Sum.{Sum}
use Rattle.core_sum.specs.declared.sum.Sum.TheOpen.{Sum-F}
use Rattle.core_sum.specs.declared.sum.Sum.TheFolds.{fold-Sum}
use Rattle.sum_code.specs.declared.limits.TheConstants.{HEAP_WORDS, STACK_WORDS, STEPS}

abbrev pub Code : Type 0
Code = List Inst

-- adds the word on top of the stack to rax: each word has its tag in its low bits, and so has the sum's
abbrev pub addition : Code
addition = Pop Rcx ∷ Binary Add Rax Rcx ∷ BinaryConstant Add Rax (pos 0 -ℤ pos INTEGER_TAG) ∷ []

abbrev pub evaluation_at : Sum-F Code → Code
evaluation_at (Sum-F.Int n) = LoadConstant Rax (word_of n) ∷ []
evaluation_at (Sum-F.Plus a b) = a ++ (Push Rax ∷ []) ++ b ++ addition

-- the instructions that leave the word of a sum's value in rax, and the stack as it was
unfoldable pub evaluation : Sum → Code
evaluation = fold-Sum Code evaluation_at

-- the value in rax and 0 in rdx is what a function goes back with
abbrev pub ending : Code
ending = LoadConstant Rdx 0 ∷ Return ∷ []

abbrev pub bytes_of : Code → List ℕ
bytes_of code = flat_map encoding code

-- the bytes of a function that gives a sum
abbrev pub code_for : Sum → List ℕ
code_for e = bytes_of (evaluation e ++ ending)

-- the same as a part that is linked: it calls no function
abbrev pub part_for : Sum → Part
part_for e = record { bytes = code_for e; calls = []; closure_entry = 0 }

-- the names of a module of this name with one function, 'main'/0, that is exported
abbrev pub names_for_main : List ℕ → ProgramNames
names_for_main name =
    let atoms = (names_for name).atoms in
    with_export 0 (with_function (record { name = Some (number_in (codes "main") atoms); arity = 0; captured = 0 }) (with_atom (codes "main") (names_for name)))

abbrev pub image_for : List ℕ → Sum → ProgramImage
image_for name e = linked (part_for e ∷ []) (names_for_main name)

abbrev pub main_call : Call
main_call = record { name = codes "main"; args = [] }

-- the machine that is loaded with the image and the call of 'main' ends with the value after so many steps at the most, and displays nothing
abbrev pub EndsWithin : ℕ → ProgramImage → ℤ → Type 0
EndsWithin most image value =
    (n : ℕ) × (n ≤ most)
    × (machine_run (symbols_for image []) n (start image main_call (opened HEAP_WORDS STACK_WORDS)) ≡ Over (ByService (Returned (integer value))) [])

-- it does so within the steps that a run has
abbrev pub EndsWith : ProgramImage → ℤ → Type 0
EndsWith image value = EndsWithin STEPS image value

-- the same by what a sum is made of
abbrev pub level_evaluation : Sum-F Sum → Code
level_evaluation (Sum-F.Int n) = LoadConstant Rax (word_of n) ∷ []
level_evaluation (Sum-F.Plus a b) = evaluation a ++ (Push Rax ∷ []) ++ evaluation b ++ addition
