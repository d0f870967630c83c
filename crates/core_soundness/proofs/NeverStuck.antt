-- The laws of runs of good modules.
use Rattle.std.proofs.Common.{subst}
use Rattle.core_meaning.specs.Procedures.{program_of}
use Rattle.core_meaning.specs.Meaning.{Run}
use Rattle.core_meaning.specs.Source.{unlimited, run_within, source_run}
use Rattle.core_soundness.specs.Laws.{NeverSticks, GoodModulesNeverStick, GoodModulesNeverStickWithin}
use Rattle.core_soundness.proofs.Steps.{IsSound, Sound}
use Rattle.core_soundness.proofs.Runs.{module_sound}

sound_never_sticks : (x : Run) → Sound x → NeverSticks x
sound_never_sticks x s = record { not_stuck = λ is. subst IsSound is s.is; one_value = λ ts is. subst IsSound is s.is }

pub never_stick_within : GoodModulesNeverStickWithin
never_stick_within m good limits c fuel = sound_never_sticks (run_within (program_of m) limits c fuel) (module_sound m good limits c fuel)

pub never_stick : GoodModulesNeverStick
unfolding source_run
never_stick m good c fuel = never_stick_within m good (unlimited (program_of m)) c fuel
