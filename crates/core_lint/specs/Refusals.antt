-- The answers of the linter.
use Rattle.core_ast.specs.Trees.{Module}
use Rattle.core_ast.specs.Good.{IsFirstBroken}
use Rattle.core_lint.specs.declared.refusal.LintRefusal.{LintRefusal}
use Rattle.core_lint.specs.declared.refusal.LintRefusal.TheVariants.{Broken, Memory}

-- a module is refused for the first broken rule; memory may be wanting at any time
abbrev pub IsRefusal : Module → LintRefusal → Type 0
IsRefusal m (Broken r p) = IsFirstBroken m r p
IsRefusal m Memory = Unit {0}
