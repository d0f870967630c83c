-- The words of the arguments stand for the constants of the call.
use Rattle.std.specs.Prelude.{◌≡◌, ◌-◌, ℕ, List, Some, get_or, map, nat_lt, slice_get, if◌then◌else◌}
use Rattle.hipe_terms.specs.declared.constant.Call.{Call}
use Rattle.hipe_terms.specs.Constants.{AreConstants}
use Rattle.hipe_terms.specs.Terms.{Term, term_of}
use Rattle.region_memory.specs.Regions.{Regions}
use Rattle.heap_terms.specs.Terms.{term_at}
use Rattle.image_link.specs.Image.{ProgramImage}
use Rattle.image_load.specs.Loading.{Beginning, Undefined, HeapFull, Ready, Program, loaded}

-- the word of an argument, where the first four are in registers and the others in the argument area
abbrev pub argument_word : List ℕ → List ℕ → ℕ → ℕ
argument_word registers area i = if nat_lt i 4 then get_or registers i 0 else get_or area (i - 4) 0

-- each argument's word has the term at its place
abbrev pub ArgumentsStand : List Term → Program → Beginning → Type 0
ArgumentsStand ts p Undefined = Unit {0}
ArgumentsStand ts p HeapFull = Unit {0}
ArgumentsStand ts p (Ready at registers free) =
    (i : ℕ) (t : Term) → slice_get ts i ≡ Some t → term_at p.symbols p.regions.heap (argument_word registers p.regions.arguments i) ≡ Some t

abbrev pub ConstantsStand : Type 0
ConstantsStand = (image : ProgramImage) (call : Call) (regions : Regions) → AreConstants call.args
    → ArgumentsStand (map term_of call.args) (loaded image call regions) (loaded image call regions).beginning
