-- The functions that were found.
use Rattle.std.proofs.Common.{◌≡◌, ℕ, suc, ◌+◌, List, [], ◌∷◌, ◌++◌, map, length, refl, sym, ap, ◌∙◌, append_assoc, append-nil, arith, Bor}
use Rattle.std.proofs.lemmas.List.{map-append, length-map}
use Rattle.core_ast.specs.Trees.{expression_of, clause_of, clauses, definition_of, definitions, pattern_of, patterns, Function}
use Rattle.core_ast.specs.declared.tree.Clause.{Clause}
use Rattle.core_ast.specs.declared.tree.FunDef.{FunDef}
use Rattle.core_ast.proofs.Levels as Levels
use Rattle.core_meaning.specs.Scopes.{Scope, names, binding, bound_by, captured_by_fun, carried, funs, count_definitions}
use Rattle.core_meaning.specs.Procedures.{Procedure, procedures, procedures_in_clauses}
use Rattle.eval_procedures.specs.Shown.{names_in, procedure_of, procedures_of_fun}

pub counted : (ds : List FunDef) → count_definitions (definitions (map definition_of ds)) ≡ length ds
counted [] = refl
counted (d ∷ ds) = ap suc (counted ds)

named : (xs : List (Bor (List ℕ))) → length (names_in xs) ≡ length xs
named [] = refl
named (x ∷ xs) = ap suc (named xs)

-- a fun and the functions in it, in its own scope with so many captured variables, where n is the number behind the fun's
abbrev with_fun : Function → Scope → (captured n parameters : ℕ) → List Procedure
with_fun f s captured n parameters = procedure_of f s captured n ∷ procedures (binding captured (names f.parameters) s) (captured + parameters) n f.body

pub fun_here : (s : Scope) (n : ℕ) (f : Function) (inner : Scope) (captured : List ℕ) (count first : ℕ) (old mid new : List Procedure) →
    captured ≡ captured_by_fun s (names f.parameters) f.body → inner ≡ carried captured s → count ≡ length captured → first ≡ n + 1 →
    mid ≡ old ++ procedure_of f inner count first ∷ [] →
    new ≡ mid ++ procedures (binding count (names f.parameters) inner) (count + length f.parameters) first f.body →
    new ≡ old ++ procedures_of_fun s n f
fun_here s n f inner captured count first old mid new c i o a m e =
    let one : n + 1 ≡ suc n = omega arith in
    e
    ∙ ap (λ l. l ++ procedures (binding count (names f.parameters) inner) (count + length f.parameters) first f.body) m
    ∙ append_assoc old (procedure_of f inner count first ∷ []) (procedures (binding count (names f.parameters) inner) (count + length f.parameters) first f.body)
    ∙ ap (λ t. old ++ with_fun f t count first (length f.parameters)) i
    ∙ ap (λ t. old ++ with_fun f (carried captured s) t first (length f.parameters)) o
    ∙ ap (λ t. old ++ with_fun f (carried t s) (length t) first (length f.parameters)) c
    ∙ ap (λ k. old ++ with_fun f (carried (captured_by_fun s (names f.parameters) f.body) s) (length (captured_by_fun s (names f.parameters) f.body)) k (length f.parameters)) (a ∙ one)
    ∙ ap (λ k. old ++ with_fun f (carried (captured_by_fun s (names f.parameters) f.body) s) (length (captured_by_fun s (names f.parameters) f.body)) (suc n) k) (sym (length-map f.parameters (λ x. x.name)))

-- the functions in a guard and in a body, where the patterns' variables are bound
abbrev in_both : Clause → Scope → (slots n behind : ℕ) → List Procedure
in_both c s k n behind = procedures s k n (expression_of c.guard) ++ procedures s k behind (expression_of c.body)

pub clause_here : (s : Scope) (k n : ℕ) (c : Clause) (xs : List (Bor (List ℕ))) (inner : Scope) (slots behind : ℕ) (old mid new : List Procedure) →
    names_in xs ≡ bound_by (patterns (map pattern_of c.patterns)) → inner ≡ binding k (names_in xs) s → slots ≡ k + length xs → behind ≡ n + funs (expression_of c.guard) →
    mid ≡ old ++ procedures inner slots n (expression_of c.guard) → new ≡ mid ++ procedures inner slots behind (expression_of c.body) →
    new ≡ old ++ procedures_in_clauses s k n (clauses (clause_of c ∷ []))
clause_here s k n c xs inner slots behind old mid new x i j b m e =
    e
    ∙ ap (λ l. l ++ procedures inner slots behind (expression_of c.body)) m
    ∙ append_assoc old (procedures inner slots n (expression_of c.guard)) (procedures inner slots behind (expression_of c.body))
    ∙ ap (λ t. old ++ in_both c t slots n behind) i
    ∙ ap (λ t. old ++ in_both c (binding k (names_in xs) s) t n behind) (j ∙ ap (λ t. k + t) (sym (named xs)))
    ∙ ap (λ t. old ++ in_both c (binding k (names_in xs) s) (k + length (names_in xs)) n t) b
    ∙ ap (λ t. old ++ in_both c (binding k t s) (k + length t) n (n + funs (expression_of c.guard))) x
    ∙ ap (λ l. old ++ l) (sym (append-nil (in_both c (binding k (bound_by (patterns (map pattern_of c.patterns))) s) (k + length (bound_by (patterns (map pattern_of c.patterns)))) n (n + funs (expression_of c.guard)))))
    ∙ ap (λ t. old ++ procedures_in_clauses s k n (clauses (t ∷ []))) (sym (Levels.clause_is c))

pub ruleset levels = (Levels.levels, counted, map-append, append_assoc, append-nil)
