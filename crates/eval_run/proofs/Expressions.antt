-- Expressions, by what they are.
use Rattle.std.proofs.Common.{◌≡◌, suc, ◌+◌, List, [], ◌∷◌, Option, Some, None, map, length, refl, ap, ◌∙◌}
use Rattle.std.proofs.Math.Path.{fun_ext}
use Rattle.hipe_terms.specs.Terms.{Term}
use Rattle.hipe_terms.specs.declared.place.Place.{Place}
use Rattle.core_ast.specs.declared.pattern.Var.{Var}
use Rattle.core_ast.specs.declared.pattern.Pattern.{Pattern}
use Rattle.core_ast.specs.declared.tree.Clause.{Clause}
use Rattle.core_ast.specs.declared.tree.Expr.{Expr}
use Rattle.core_ast.specs.declared.tree.FunDef.{FunDef}
use Rattle.core_ast.specs.declared.tree.FunName.{FunName}
use Rattle.core_ast.specs.declared.tree.Node.{out-Node}
use Rattle.core_ast.specs.declared.tree.Node.TheOpen.{Node-F}
use Rattle.core_ast.specs.declared.tree.Node.TheViews.{the_lemmas}
use Rattle.core_ast.specs.Trees.{Expression, Expressions, expressions, clauses, definitions, patterns, pattern_of, expression_of, clause_of, definition_of}
use Rattle.core_ast.specs.Degrees.{count, count_patterns}
use Rattle.core_ast.proofs.Levels.{Level, level, expression_is}
use Rattle.core_meaning.specs.Scopes.{names, count_definitions, funs, funs_in_all}
use Rattle.core_meaning.specs.Procedures.{Program}
use Rattle.core_meaning.specs.Meaning.{State, Ending, ends, Context, worked, part, behind, with, with_functions, with_one, with_count, function_of, count_clauses, tested_nodes, direct, causes, eval, eval_all, applies, applies_named}
use Rattle.core_meaning.specs.Source.{unlimited}
use Rattle.eval_run.specs.Constructs.{node_run}
use Rattle.eval_run.specs.Waiting.{Waiting, applied_as, for_tuple, for_list, for_values, for_call, for_primop, calls_by_fuel, evaluates, chooses, tail_waits, reaches, evaluates_parts, operator_waits, binds, let_waits, case_waits, handles, try_waits, do_waits, catch_waits}

pub counted : (es : List Expr) → count (expressions (map expression_of es)) ≡ length es
counted [] = refl
counted (e ∷ es) = ap suc (counted es)

pub counted_clauses : (cs : List Clause) → count_clauses (clauses (map clause_of cs)) ≡ length cs
counted_clauses [] = refl
counted_clauses (c ∷ cs) = ap suc (counted_clauses cs)

pub counted_definitions : (ds : List FunDef) → count_definitions (definitions (map definition_of ds)) ≡ length ds
counted_definitions [] = refl
counted_definitions (d ∷ ds) = ap suc (counted_definitions ds)

pub counted_patterns : (ps : List Pattern) → count_patterns (patterns (map pattern_of ps)) ≡ length ps
counted_patterns [] = refl
counted_patterns (p ∷ ps) = ap suc (counted_patterns ps)

module _ (program : Program) where
  handled : (o : Option (List Term)) (ys : List Var) (handler : Expression) (d : Context) (s : State) (w : Waiting)
      → elim o [ None ↦ ends Ending.stuck s | Some ts ↦ eval program (unlimited program) (calls_by_fuel program) handler (with (names ys) ts d) s w.handler w.next ] ≡ handles program ys handler d o s w
  unfolding handles evaluates
  handled None ys handler d s w = refl
  handled (Some ts) ys handler d s w = refl

  apply_is : (o : Option FunName) (f : Expression) (args : Expressions) (c : Context) (s : State) (w : Waiting)
      → elim o [
        | Some g ↦ eval_all program (unlimited program) (calls_by_fuel program) args (part (behind (funs f) c)) (worked (2 + count args) s) w.handler (λ ts s. applies_named (calls_by_fuel program) (function_of g c) ts c.depth s w.handler w.next)
        | None ↦
            eval program (unlimited program) (calls_by_fuel program) f (part c) (worked (2 + count args) s) w.handler
            (λ fs s. with_one fs s (λ t s. eval_all program (unlimited program) (calls_by_fuel program) args (part (behind (funs f) c)) s w.handler (λ ts s. applies program (unlimited program) (calls_by_fuel program) t ts c.depth s w.handler w.next)))
      ] ≡ applied_as program o f args (count args) c s w
  unfolding evaluates evaluates_parts reaches operator_waits
  apply_is (Some g) f args c s w = refl
  apply_is None f args c s w = refl

  level_run : (l : Level) (p : Place) (c : Context) (s : State) (w : Waiting) → evaluates program (level l p) c s w ≡ node_run program l c s w
  unfolding evaluates evaluates_parts reaches tail_waits operator_waits binds let_waits case_waits chooses try_waits do_waits catch_waits
  level_run (Node-F.Int n) p c s w = refl
  level_run (Node-F.Atom a) p c s w = refl
  level_run Node-F.Nil p c s w = refl
  level_run (Node-F.Var x) p c s w = refl
  level_run (Node-F.Name f) p c s w = refl
  level_run (Node-F.Tuple parts) p c s w = ap (λ n. evaluates_parts program (expressions (map expression_of parts)) (part c) for_tuple [] (worked (1 + n) s) w) (counted parts)
  level_run (Node-F.List parts tail) p c s w =
      ap (λ n. evaluates_parts program (expressions (map expression_of parts)) (part c) (for_list (expression_of tail) (part (behind (funs_in_all (expressions (map expression_of parts))) c))) [] (worked (2 + n) s) w) (counted parts)
  level_run (Node-F.Values parts) p c s w = ap (λ n. evaluates_parts program (expressions (map expression_of parts)) (part c) for_values [] (worked (1 + n) s) w) (counted parts)
  level_run (Node-F.Let xs values body) p c s w = refl
  level_run (Node-F.Case values cs) p c s w =
      ap (λ n. evaluates program (expression_of values) (part c) (worked (2 + n + tested_nodes (clauses (map clause_of cs))) s) (case_waits program (clauses (map clause_of cs)) (behind (funs (expression_of values)) c) w)) (counted_clauses cs)
  level_run (Node-F.Lambda f) p c s w = refl
  level_run (Node-F.Letrec ds body) p c s w = ap (λ n. evaluates program (expression_of body) (with_functions (definitions (map definition_of ds)) c) (worked (2 + n) s) w) (counted_definitions ds)
  level_run (Node-F.Apply f args) p c s w =
      apply_is (direct (expression_of f) (count (expressions (map expression_of args)))) (expression_of f) (expressions (map expression_of args)) c s w
      ∙ ap (λ n. applied_as program (direct (expression_of f) n) (expression_of f) (expressions (map expression_of args)) n c s w) (counted args)
  level_run (Node-F.Call m f args) p c s w = ap (λ n. evaluates_parts program (expressions (map expression_of args)) (part c) (for_call m f c.depth) [] (worked (1 + n) s) w) (counted args)
  level_run (Node-F.Primop f args) p c s w = ap (λ n. evaluates_parts program (expressions (map expression_of args)) (part c) (for_primop f) [] (worked (1 + n) s) w) (counted args)
  level_run (Node-F.Try tried xs body ys handler) p c s w =
      ap (λ r. eval program (unlimited program) (calls_by_fuel program) (expression_of tried) (part c) (worked (4 + length xs + length ys) s) r
      (λ ts s. with_count (length xs) ts s (eval program (unlimited program) (calls_by_fuel program) (expression_of body) (with (names xs) ts (behind (funs (expression_of tried)) c)) s w.handler w.next)))
      (fun_ext (λ class. fun_ext (λ reason. fun_ext (λ s. handled (causes class reason (length ys)) ys (expression_of handler) (behind (funs (expression_of tried) + funs (expression_of body)) c) s w))))
  level_run (Node-F.Do first second) p c s w = refl
  level_run (Node-F.Catch caught) p c s w = refl

  -- an expression's run, by what it is
  pub evaluates_is : (e : Expr) (c : Context) (s : State) (w : Waiting) → evaluates program (expression_of e) c s w ≡ node_run program (out-Node e.node) c s w
  evaluates_is e c s w = ap (λ x. evaluates program x c s w) (expression_is e) ∙ level_run (out-Node e.node) e.at c s w

pub ruleset evaluating = (the_lemmas, evaluates_is)
