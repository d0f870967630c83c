-- The machine before a sum is run, and the line of its value.
use Rattle.std.specs.Prelude.{◌≡◌, ℕ, ℤ, List, [], ◌∷◌, ◌++◌, None, codes}
use Rattle.std.specs.Fmt.{signed_decimal}
use Rattle.region_memory.specs.Regions.{opened}
use Rattle.image_link.specs.Image.{ProgramImage}
use Rattle.image_load.specs.Loading.{symbols_for}
use Rattle.amd64_machine.specs.Loading.{start}
use Rattle.amd64_machine.specs.Outcome.{Seen}
use Rattle.sum_code.specs.declared.limits.TheConstants.{HEAP_WORDS, STACK_WORDS}
use Rattle.sum_code.specs.Code.{main_call}

-- the line of a value
abbrev pub value_line : ℤ → List ℕ
value_line v = codes "value " ++ signed_decimal v ++ 10 ∷ []

-- a machine that is loaded with this image and the call of 'main', before its first step
pub record IsReady (image : ProgramImage) (machine : Seen) : Type 0 where
  pub symbols : machine.symbols ≡ symbols_for image []
  pub state : machine.state [] ≡ start image main_call (opened HEAP_WORDS STACK_WORDS)
  pub stopped : machine.stopped ≡ None
