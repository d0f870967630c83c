-- The code of a sum, by what the sum is made of.
use Rattle.std.proofs.Common.{◌≡◌, ℤ, refl, ◌∙◌}
use Rattle.core_sum.specs.declared.sum.Sum.{Sum, out-Sum}
use Rattle.core_sum.specs.declared.sum.Sum.TheOpen.{Sum-F}
use Rattle.core_sum.specs.declared.sum.Sum.TheFolds.{fold_out-Sum, fold-roll-Sum, fold-Sum, map-Sum}
use Rattle.core_sum.specs.declared.sum.Sum.TheViews.{the_lemmas}
use Rattle.core_sum.specs.Sums.{int_of, plus_of}
use Rattle.core_sum.proofs.Levels.{count_is, farthest_is}
use Rattle.sum_code.specs.Code.{Code, evaluation, evaluation_at, level_evaluation}

evaluation_level : (l : Sum-F Sum) → evaluation_at (map-Sum Sum Code (fold-Sum Code evaluation_at) l) ≡ level_evaluation l
unfolding evaluation
evaluation_level (Sum-F.Int n) = refl
evaluation_level (Sum-F.Plus a b) = refl

pub evaluation_is : (e : Sum) → evaluation e ≡ level_evaluation (out-Sum e)
unfolding evaluation
evaluation_is e = fold_out-Sum Code evaluation_at e ∙ evaluation_level (out-Sum e)

pub evaluation-int : (n : ℤ) → evaluation (int_of n) ≡ level_evaluation (Sum-F.Int n)
unfolding evaluation int_of
evaluation-int n = fold-roll-Sum Code evaluation_at (Sum-F.Int n)

pub evaluation-plus : (a b : Sum) → evaluation (plus_of a b) ≡ level_evaluation (Sum-F.Plus a b)
unfolding evaluation plus_of
evaluation-plus a b = fold-roll-Sum Code evaluation_at (Sum-F.Plus a b)

pub ruleset levels = (the_lemmas, evaluation_is, count_is, farthest_is)
