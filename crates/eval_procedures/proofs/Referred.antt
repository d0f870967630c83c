-- The names that references lead to.
use Rattle.std.proofs.Common.{◌≡◌, ℕ, ◌+◌, ◌<◌, List, [], ◌∷◌, ◌++◌, map, drop, length, get_or, true, false, refl, sym, ap, ◌∙◌, append_assoc, append-nil, Bor}
use Rattle.std.specs.Prelude.{Bool, ◌||◌, not, bytes_eq}
use Rattle.std.specs.List.{list_any, filter}
use Rattle.core_ast.specs.Names.{variables_of, variables_of_all}
use Rattle.core_ast.specs.Trees.{expression_of, clause_of, clauses, definition_of, definitions, pattern_of, patterns, Pattern, Patterns, and_pattern}
use Rattle.core_ast.specs.declared.tree.Clause.{Clause}
use Rattle.core_ast.specs.declared.tree.FunDef.{FunDef, out-FunDef}
use Rattle.core_ast.specs.declared.tree.FunName.{FunName}
use Rattle.core_meaning.specs.Scopes.{Scope, function_names, names, bound_by, occurring, occurring_in_clauses}
use Rattle.std.proofs.lemmas.List.{map-append, at_drop_more}
use Rattle.std.proofs.lemmas.Map.Text.{is_eq-slice_cmp}
use Rattle.core_ast.proofs.Levels as Levels
use Rattle.eval_procedures.specs.Shown.{names_in}

pub names_append : (xs ys : List (Bor (List ℕ))) → names_in (xs ++ ys) ≡ names_in xs ++ names_in ys
names_append [] ys = refl
names_append (x ∷ xs) ys = ap (λ l. x.now ∷ l) (names_append xs ys)

pub defined_now : (d : FunDef) (ds : List FunDef) → function_names (definitions (map definition_of (d ∷ ds))) ≡ (out-FunDef d).name ∷ function_names (definitions (map definition_of ds))
defined_now d ds = ap (λ e. e.name ∷ function_names (definitions (map definition_of ds))) (Levels.definition_is d)

-- whether a function of these passes a test, where the first of those that are left is d
abbrev named_of : (FunName → Bool) → List FunDef → Bool
named_of test ds = list_any test (function_names (definitions (map definition_of ds)))

named_now : (test : FunName → Bool) (d : FunDef) (ds : List FunDef) (i : ℕ) (r : Bool) → i < length ds → d ≡ get_or ds i d → named_of test (drop i ds) ≡ r → (test (out-FunDef d).name || named_of test (drop (i + 1) ds)) ≡ r
named_now test d ds i r h is e =
    sym (ap (list_any test) (defined_now d (drop (i + 1) ds)))
    ∙ ap (λ x. named_of test (x ∷ drop (i + 1) ds)) is
    ∙ sym (at_drop_more (named_of test) ds i d h)
    ∙ e

pub named_here : (test : FunName → Bool) (d : FunDef) (ds : List FunDef) (i : ℕ) (r : Bool) → i < length ds → d ≡ get_or ds i d → test (out-FunDef d).name ≡ true → named_of test (drop i ds) ≡ r → true ≡ r
named_here test d ds i r h is t e = ap (λ b. b || named_of test (drop (i + 1) ds)) (sym t) ∙ named_now test d ds i r h is e

pub named_later : (test : FunName → Bool) (d : FunDef) (ds : List FunDef) (i : ℕ) (r : Bool) → i < length ds → d ≡ get_or ds i d → test (out-FunDef d).name ≡ false → named_of test (drop i ds) ≡ r → named_of test (drop (i + 1) ds) ≡ r
named_later test d ds i r h is f e = ap (λ b. b || named_of test (drop (i + 1) ds)) (sym f) ∙ named_now test d ds i r h is e

abbrev with_variables : List (List ℕ × ℕ) → Scope → Scope
with_variables xs s = record { variables = xs; functions = s.functions }

-- what occurs free in a clause, where its guard and its body were searched with these variables
pub clause_here : (s : Scope) (kept : List (List ℕ × ℕ)) (hidden : List (List ℕ)) (c : Clause) (old mid new : List ℕ) →
    hidden ≡ bound_by (patterns (map pattern_of c.patterns)) → kept ≡ filter (λ v. not (list_any (λ x. bytes_eq x v.0) hidden)) s.variables →
    mid ≡ old ++ occurring (with_variables kept s) (expression_of c.guard) → new ≡ mid ++ occurring (with_variables kept s) (expression_of c.body) →
    new ≡ old ++ occurring_in_clauses s (clauses (clause_of c ∷ []))
clause_here s kept hidden c old mid new h k m n =
    n
    ∙ ap (λ l. l ++ occurring (with_variables kept s) (expression_of c.body)) m
    ∙ append_assoc old (occurring (with_variables kept s) (expression_of c.guard)) (occurring (with_variables kept s) (expression_of c.body))
    ∙ ap (λ l. old ++ l) (sym (append-nil (occurring (with_variables kept s) (expression_of c.guard) ++ occurring (with_variables kept s) (expression_of c.body))))
    ∙ ap (λ v. old ++ (occurring (with_variables v s) (expression_of c.guard) ++ occurring (with_variables v s) (expression_of c.body) ++ [])) (k ∙ ap (λ xs. filter (λ v. not (list_any (λ x. bytes_eq x v.0) xs)) s.variables) h)
    ∙ ap (λ k. old ++ occurring_in_clauses s (clauses (k ∷ []))) (sym (Levels.clause_is c))

pub bound_append : (p : Pattern) (ps : Patterns) → bound_by (and_pattern p ps) ≡ names (variables_of p) ++ bound_by ps
bound_append p ps = map-append (λ x. x.name) (variables_of p) (variables_of_all ps)

pub ruleset pattern_levels = (Levels.pattern_levels, names_append, map-append, append_assoc, append-nil)

pub ruleset levels = (Levels.levels, append_assoc, append-nil)

pub ruleset same_names = (is_eq-slice_cmp)

pub ruleset defining = (Levels.levels, defined_now)

pub ruleset naming = (names_append, append_assoc)

pub ruleset keeping = (map-append, append_assoc)
