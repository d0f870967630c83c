-- What the two walks answer is the first broken rule.
use Rattle.std.proofs.Common.{◌≡◌, ◌+◌, [], ◌++◌, Option, None, MatchOption, arith, ap, sym, ◌∙◌}
use Rattle.core_ast.specs.declared.rule.Broken.{Broken}
use Rattle.hipe_base.specs.declared.limits.TheConstants.{FUNCTION_LIMIT}
use Rattle.core_ast.specs.Trees.{Module}
use Rattle.core_ast.specs.Good.{IsGood, IsFirstBroken}
use Rattle.core_ast.specs.First.{noted_all}
use Rattle.core_ast.proofs.Firsts.{occurs-append, noted_all-append}
use Rattle.core_ast.proofs.Spots.{first_is}
use Rattle.core_lint.specs.Walks.{visited_module}
use Rattle.core_lint.specs.Tallies.{tallied_module}
use Rattle.core_lint.proofs.Totals.{totals_are}
use Rattle.core_lint.proofs.Finding.{finds_module}
use Rattle.core_lint.proofs.Tallying.{tells_module}

pub linted : (m : Module) (known answer : Option Broken) → known ≡ (tallied_module m (record { first = None; left = FUNCTION_LIMIT + 1 })).first →
    answer ≡ (visited_module m (record { variables = []; functions = []; first = known })).first → MatchOption answer (IsGood m) (λ b. IsFirstBroken m b.rule b.at)
linted m known answer e f =
    let counts = tells_module m None in
    let names = finds_module m in
    let found : answer ≡ noted_all (counts.spots ++ names.spots) None =
    f ∙ ap (λ w. w.first) (names.is known) ∙ ap (λ g. noted_all names.spots g) (e ∙ counts.is) ∙ sym (noted_all-append counts.spots names.spots None) in
    first_is m (counts.spots ++ names.spots) (λ b. let t = totals_are b m in omega (arith, occurs-append b counts.spots names.spots, names.counted b, counts.counted b, t)) answer (sym found)
