-- The runs that evaluations stand for.
use Rattle.core_meaning.specs.Meaning as Meant
use Rattle.eval_values.specs.Values.{terms_in}
use Rattle.eval_run.specs.Configurations.{ending_in}
use Rattle.eval_run.specs.declared.run.Evaluation.{Evaluation}

-- the run that an evaluation stands for
abbrev pub run_in : Evaluation → Meant.Run
run_in v =
    record {
      ending = ending_in v.ending;
      state = record { fuel = v.counts.fuel; words = v.counts.words; claim = v.counts.claim; printed = terms_in v.printed.items; work = v.counts.work };
    }
