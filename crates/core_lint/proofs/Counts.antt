-- What the walk that counts needs to know of trees and degrees.
use Rattle.std.proofs.Common.{◌≡◌, ℕ, List, [], ◌∷◌, map, length, Option, Some, None, refl, ap, suc}
use Rattle.core_ast.specs.declared.pattern.Pattern as RustPattern
use Rattle.core_ast.specs.declared.tree.Expr.{Expr}
use Rattle.core_ast.specs.Trees.{pattern_of, patterns, expression_of, expressions}
use Rattle.core_ast.specs.Degrees.{count, count_patterns, first_degree}
use Rattle.core_ast.proofs.Levels.{levels, place_is}

pub count_is : (es : List Expr) → count (expressions (map expression_of es)) ≡ length es
count_is [] = refl
count_is (e ∷ es) = ap suc (count_is es)

pub count_patterns_is : (ps : List RustPattern.Pattern) → count_patterns (patterns (map pattern_of ps)) ≡ length ps
count_patterns_is [] = refl
count_patterns_is (p ∷ ps) = ap suc (count_patterns_is ps)

pub first_degree-None : (d : Option ℕ) → first_degree d None ≡ d
first_degree-None None = refl
first_degree-None (Some n) = refl

pub first_degree-assoc : (a b c : Option ℕ) → first_degree (first_degree a b) c ≡ first_degree a (first_degree b c)
first_degree-assoc None b c = refl
first_degree-assoc (Some n) b c = refl

pub ruleset counts = (levels, place_is, count_is, count_patterns_is, first_degree-None, first_degree-assoc)
