-- How the evaluation of each construct goes on: with its first part and what waits for it, or with what comes next.
use Rattle.std.specs.Prelude.{ℕ, ◌+◌, List, [], ◌∷◌, length, map}
use Rattle.hipe_terms.specs.Terms.{integer, atom, nil}
use Rattle.core_ast.specs.declared.tree.Clause.{Clause}
use Rattle.core_ast.specs.declared.tree.Expr.{Expr}
use Rattle.core_ast.specs.declared.tree.Fun.{Fun}
use Rattle.core_ast.specs.declared.tree.FunDef.{FunDef}
use Rattle.core_ast.specs.declared.tree.Node.{Node}
use Rattle.core_ast.specs.declared.tree.Node.TheOpen.{Node-F}
use Rattle.core_ast.specs.Trees.{expressions, clauses, definitions, expression_of, clause_of, function_of, definition_of}
use Rattle.core_meaning.specs.Scopes.{names, captured_by_fun, funs, funs_in_all}
use Rattle.core_meaning.specs.Procedures.{Program}
use Rattle.core_meaning.specs.Meaning as Meant
use Rattle.core_meaning.specs.Meaning.{State, Run, Context, worked, part, behind, with_functions, with_value, value_of, values_in, makes_fun, makes_named, tested_nodes, direct}
use Rattle.core_meaning.specs.Source.{unlimited}
use Rattle.eval_run.specs.Waiting.{Waiting, Purpose, applied_as, for_tuple, for_list, for_values, for_call, for_primop, evaluates, evaluates_parts, let_waits, case_waits, try_waits, do_waits, catch_waits}

module _ (program : Program) where
  -- so much work and one unit for each of these parts, and then the parts
  abbrev pub evaluates_counted : (work : ℕ) → List Expr → Context → Purpose → State → Waiting → Run
  evaluates_counted work parts c purpose s w = evaluates_parts program (expressions (map expression_of parts)) (part c) purpose [] (worked (work + length parts) s) w

  -- an expression is evaluated, by what it is
  abbrev pub node_run : Node-F Node Clause Expr Fun FunDef → Context → State → Waiting → Run
  node_run (Node-F.Int n) c s w = w.next (integer n ∷ []) (worked 1 s)
  node_run (Node-F.Atom a) c s w = w.next (atom a ∷ []) (worked 1 s)
  node_run Node-F.Nil c s w = w.next (nil ∷ []) (worked 1 s)
  node_run (Node-F.Var x) c s w = with_value (value_of x c) (worked 1 s) w.next
  node_run (Node-F.Name f) c s w = makes_named (unlimited program) (Meant.function_of f c) (worked 1 s) w.next
  node_run (Node-F.Tuple parts) c s w = evaluates_counted 1 parts c for_tuple s w
  node_run (Node-F.List parts tail) c s w =
      evaluates_counted 2 parts c (for_list (expression_of tail) (part (behind (funs_in_all (expressions (map expression_of parts))) c))) s w
  node_run (Node-F.Values parts) c s w = evaluates_counted 1 parts c for_values s w
  node_run (Node-F.Let xs values body) c s w = evaluates program (expression_of values) (part c) (worked (3 + length xs) s) (let_waits program xs (expression_of body) (behind (funs (expression_of values)) c) w)
  node_run (Node-F.Case values cs) c s w =
      evaluates program (expression_of values) (part c) (worked (2 + length cs + tested_nodes (clauses (map clause_of cs))) s) (case_waits program (clauses (map clause_of cs)) (behind (funs (expression_of values)) c) w)
  node_run (Node-F.Lambda f) c s w = makes_fun (unlimited program) c.number (values_in c.bound (captured_by_fun c.scope (names (function_of f).parameters) (function_of f).body)) (worked 2 s) w.next
  node_run (Node-F.Letrec ds body) c s w = evaluates program (expression_of body) (with_functions (definitions (map definition_of ds)) c) (worked (2 + length ds) s) w
  node_run (Node-F.Apply f args) c s w = applied_as program (direct (expression_of f) (length args)) (expression_of f) (expressions (map expression_of args)) (length args) c s w
  node_run (Node-F.Call m f args) c s w = evaluates_counted 1 args c (for_call m f c.depth) s w
  node_run (Node-F.Primop f args) c s w = evaluates_counted 1 args c (for_primop f) s w
  node_run (Node-F.Try tried xs body ys handler) c s w =
      evaluates program (expression_of tried) (part c) (worked (4 + length xs + length ys) s)
      (try_waits program xs (expression_of body) (behind (funs (expression_of tried)) c) ys (expression_of handler) (behind (funs (expression_of tried) + funs (expression_of body)) c) w)
  node_run (Node-F.Do first second) c s w = evaluates program (expression_of first) (part c) (worked 3 s) (do_waits program (expression_of second) (behind (funs (expression_of first)) c) w)
  node_run (Node-F.Catch caught) c s w = evaluates program (expression_of caught) (part c) (worked 2 s) (catch_waits program w)
