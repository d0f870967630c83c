-- How often something is broken in a list of parts, by groups of rules.
use Rattle.std.proofs.Common.{◌≡◌, ℕ, ◌+◌, List, [], ◌∷◌, ◌++◌, arith}
use Rattle.std.specs.List.{flat_map}
use Rattle.core_ast.specs.declared.rule.Rule.{Rule}
use Rattle.core_ast.specs.declared.rule.Broken.{Broken}
use Rattle.core_ast.specs.declared.rule.Rule.TheVariants.{DuplicateFunction, ExportUndefined, UnboundFunction, UnboundVariable, DuplicateVariable, Degree, ArityLimit, UnknownPrimop, SizeLimit}
use Rattle.core_ast.specs.Trees.{Module}
use Rattle.core_ast.specs.Rules.{broken_by}
use Rattle.core_ast.specs.Parts.{Scoped, parts_of_module}
use Rattle.core_ast.proofs.Spots.{hits, hits-append, hits_in}

abbrev pub total : (Scoped → ℕ) → List Scoped → ℕ
total f [] = 0
total f (x ∷ xs) = f x + total f xs

pub total-append : (f : Scoped → ℕ) (xs ys : List Scoped) → total f (xs ++ ys) ≡ total f xs + total f ys
total-append f [] ys = omega arith
total-append f (x ∷ xs) ys = rw (total-append f xs ys) (omega arith)

-- how often b is broken by a part, by the rules that speak of names
abbrev pub name_hits : Broken → Scoped → ℕ
name_hits b x =
    hits b DuplicateFunction (broken_by DuplicateFunction x) + (hits b ExportUndefined (broken_by ExportUndefined x)
    + (hits b UnboundFunction (broken_by UnboundFunction x) + (hits b UnboundVariable (broken_by UnboundVariable x)
    + hits b DuplicateVariable (broken_by DuplicateVariable x))))

-- by the rules that count
abbrev pub count_hits : Broken → Scoped → ℕ
count_hits b x =
    hits b Degree (broken_by Degree x) + (hits b ArityLimit (broken_by ArityLimit x)
    + (hits b UnknownPrimop (broken_by UnknownPrimop x) + hits b SizeLimit (broken_by SizeLimit x)))

hits_of : Broken → Rule → List Scoped → ℕ
hits_of b r xs = hits b r (flat_map (broken_by r) xs)

hits_of-cons : (b : Broken) (r : Rule) (x : Scoped) (xs : List Scoped) → hits_of b r (x ∷ xs) ≡ hits b r (broken_by r x) + hits_of b r xs
unfolding hits_of
hits_of-cons b r x xs = hits-append b r (broken_by r x) (flat_map (broken_by r) xs)

names_total : (b : Broken) (xs : List Scoped) → total (name_hits b) xs ≡ hits_of b DuplicateFunction xs + (hits_of b ExportUndefined xs + (hits_of b UnboundFunction xs + (hits_of b UnboundVariable xs + hits_of b DuplicateVariable xs)))
names_total b [] = nothing b where
  nothing : (b : Broken) → 0 ≡ hits_of b DuplicateFunction [] + (hits_of b ExportUndefined [] + (hits_of b UnboundFunction [] + (hits_of b UnboundVariable [] + hits_of b DuplicateVariable [])))
  nothing b = unfold hits_of in omega arith
names_total b (x ∷ xs) =
    omega (arith, names_total b xs, hits_of-cons b DuplicateFunction x xs, hits_of-cons b ExportUndefined x xs, hits_of-cons b UnboundFunction x xs, hits_of-cons b UnboundVariable x xs, hits_of-cons b DuplicateVariable x xs)

counts_total : (b : Broken) (xs : List Scoped) → total (count_hits b) xs ≡ hits_of b Degree xs + (hits_of b ArityLimit xs + (hits_of b UnknownPrimop xs + hits_of b SizeLimit xs))
counts_total b [] = nothing b where
  nothing : (b : Broken) → 0 ≡ hits_of b Degree [] + (hits_of b ArityLimit [] + (hits_of b UnknownPrimop [] + hits_of b SizeLimit []))
  nothing b = unfold hits_of in omega arith
counts_total b (x ∷ xs) =
    omega (arith, counts_total b xs, hits_of-cons b Degree x xs, hits_of-cons b ArityLimit x xs, hits_of-cons b UnknownPrimop x xs, hits_of-cons b SizeLimit x xs)

-- both groups together are all rules
pub totals_are : (b : Broken) (m : Module) → total (name_hits b) (parts_of_module m) + total (count_hits b) (parts_of_module m) ≡ hits_in b m
unfolding hits_of
totals_are b m = let n = names_total b (parts_of_module m) in let c = counts_total b (parts_of_module m) in omega (arith, n, c)
