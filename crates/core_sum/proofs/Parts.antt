-- The sum that an expression is made as, by what the expression is.
use Rattle.std.proofs.Common.{◌≡◌, ◌≢◌, ◌<◌, ◌≤◌, List, [], ◌∷◌, map, length, get_or, drop, Option, Some, None, Ok, Err, true, refl, sym, ap, ◌∙◌, arith}
use Rattle.core_ast.specs.declared.tree.Expr.{Expr}
use Rattle.std.specs.Prelude.{if◌then◌else◌}
use Rattle.core_ast.specs.declared.tree.Fun.{out-Fun}
use Rattle.core_ast.specs.declared.tree.FunDef.{FunDef, out-FunDef}
use Rattle.core_ast.specs.Trees.{Expression, no_definition, expression_of, expressions, definition_of, definitions}
use Rattle.core_ast.specs.Names.{is_named}
use Rattle.core_ast.specs.Places.{place_of}
use Rattle.core_sum.specs.declared.sum.Sum.{Sum}
use Rattle.core_sum.specs.Form.{main}
use Rattle.core_sum.specs.Made.{added, sum_in, sums_in, alone, sum_of_definitions}
use Rattle.core_ast.proofs.Levels.{levels, place_is, function_is, definition_is}

-- no other number of parts than two is a sum
pub added_other : (es : List Expr) → length es ≢ 2 → added (sums_in (expressions (map expression_of es))) ≡ None
added_other [] h = refl
added_other (a ∷ []) h = one (sum_in (expression_of a)) where
  one : (x : Option Sum) → added (x ∷ []) ≡ None
  one None = refl
  one (Some e) = refl
added_other (a ∷ b ∷ []) h = absurd (h refl)
added_other (a ∷ b ∷ c ∷ es) h = three (sum_in (expression_of a)) (sum_in (expression_of b)) (sum_in (expression_of c)) (sums_in (expressions (map expression_of es))) where
  three : (x y z : Option Sum) (xs : List (Option Sum)) → added (x ∷ y ∷ z ∷ xs) ≡ None
  three None y z xs = refl
  three (Some a) None z xs = refl
  three (Some a) (Some b) z xs = refl

-- two parts
pub added_two : (es : List Expr) (a b : Expr) → length es ≡ 2 → a ≡ get_or es 0 a → b ≡ get_or es 1 b → sums_in (expressions (map expression_of es)) ≡ sum_in (expression_of a) ∷ sum_in (expression_of b) ∷ []
added_two [] a b l p q = absurd (omega (arith, l))
added_two (x ∷ []) a b l p q = absurd (omega (arith, l))
added_two (x ∷ y ∷ []) a b l p q = ap (λ z. sum_in (expression_of z) ∷ sum_in (expression_of y) ∷ []) (sym p) ∙ ap (λ z. sum_in (expression_of a) ∷ sum_in (expression_of z) ∷ []) (sym q)
added_two (x ∷ y ∷ z ∷ es) a b l p q = absurd (omega (arith, l))

pub body_is : (d : FunDef) → (definition_of d).function.body ≡ expression_of (out-Fun (out-FunDef d).fun).body
body_is d = ap (λ x. x.function.body) (definition_is d) ∙ ap (λ x. x.body) (function_is (out-FunDef d).fun)

-- no other function follows
pub alone_is : (e : Expression) (s : Sum) (others : List FunDef) → sum_in e ≡ Some s → length others < 1 → alone (sum_in e) (place_of e) (definitions (map definition_of others)) ≡ Ok s
alone_is e s [] h l = ap (λ o. alone o (place_of e) no_definition) h
alone_is e s (d ∷ ds) h l = absurd (omega (arith, l))

-- one follows
pub other_is : (e : Expression) (s : Sum) (others : List FunDef) (o : FunDef) → sum_in e ≡ Some s → 1 ≤ length others → o ≡ get_or others 0 o → alone (sum_in e) (place_of e) (definitions (map definition_of others)) ≡ Err (out-FunDef o).at
other_is e s [] o h l is = absurd (omega (arith, l))
other_is e s (d ∷ ds) o h l is =
    ap (λ x. alone x (place_of e) (definitions (map definition_of (d ∷ ds)))) h ∙ ap Err (ap (λ x. x.at) (definition_is d) ∙ ap (λ x. (out-FunDef x).at) (sym is))

-- the first function is 'main'/0
pub main_first : (defs : List FunDef) (d : FunDef) → 1 ≤ length defs → d ≡ get_or defs 0 d → is_named (out-FunDef d).name main ≡ true
    → sum_of_definitions (definitions (map definition_of defs)) ≡ alone (sum_in (definition_of d).function.body) (place_of (definition_of d).function.body) (definitions (map definition_of (drop 1 defs)))
main_first [] d l is named = absurd (omega (arith, l))
main_first (x ∷ ds) d l is named =
    let name : is_named (definition_of x).name main ≡ true = ap (λ y. is_named y.name main) (definition_is x) ∙ ap (λ y. is_named (out-FunDef y).name main) (sym is) ∙ named in
    ap (λ b. if b then alone (sum_in (definition_of x).function.body) (place_of (definition_of x).function.body) (definitions (map definition_of ds)) else Err (definition_of x).at) name
    ∙ ap (λ y. alone (sum_in (definition_of y).function.body) (place_of (definition_of y).function.body) (definitions (map definition_of ds))) (sym is)

pub ruleset parts = (levels, place_is, added_other, added_two)
