use Rattle.std.proofs.Common.{◌+◌, map, sym, ap, ◌∙◌}
use Rattle.core_ast.specs.Trees.{function_of, pattern_of, patterns}
use Rattle.core_meaning.specs.Scopes.{bound_by}
use Rattle.eval_procedures.specs.Shown.{names_in, scope_in, procedures_in}
use Rattle.eval_procedures.proofs.Found.{fun_here, clause_here}
use Rattle.eval_procedures.proofs.procedures.Table.+expression.Goals as goal

pub lambda-returns : goal.lambda-returns
lambda-returns t c =
    fun_here (scope_in c.args.s) c.args.n (function_of c.args.fun.now) (scope_in c.in_ok-scope.scope) c.as_slice.result.now c.len-count.result c.in_ok-first.first
    (procedures_in c.args.self.now.found.items) (procedures_in c.push.new.self.found.items) (procedures_in c.inside.new.self.found.items)
    (c.as_slice.ensures.value ∙ c.in_ok-captured.ensures)
    c.in_ok-scope.ensures
    (c.len-count.ensures ∙ sym c.as_slice.ensures.len)
    c.in_ok-first.ensures
    c.in_ok-push.ensures
    c.in_ok-inside.ensures

pub clause-returns : goal.clause-returns
clause-returns t c =
    clause_here (scope_in c.args.s) c.args.slots c.args.n c.args.c.now c.as_slice-2.result.now (scope_in c.in_ok-scope.scope) c.in_ok-inner.inner c.in_ok-behind.behind
    (procedures_in c.args.self.now.found.items) (procedures_in c.expression.new.self.found.items) (procedures_in c.expression-2.new.self.found.items)
    (ap names_in c.as_slice-2.ensures.value ∙ c.in_ok-found.ensures ∙ ap (λ l. bound_by (patterns (map pattern_of l))) c.as_slice.ensures)
    c.in_ok-scope.ensures
    (c.in_ok-inner.ensures ∙ ap (λ k. c.args.slots + k) (c.len.ensures ∙ sym c.as_slice-2.ensures.len))
    (c.in_ok-behind.ensures ∙ ap (λ k. c.args.n + k) c.in_ok-funs.ensures)
    c.in_ok-expression.ensures
    c.in_ok-expression-2.ensures
