use Rattle.std.proofs.Common.{◌+◌, map, drop, sym, ap, ◌∙◌}
use Rattle.hipe_terms.specs.Terms.{terms}
use Rattle.core_ast.specs.Trees.{pattern_of, patterns}
use Rattle.core_meaning.specs.Matching.{matched, matched_all, matched_cells}
use Rattle.eval_values.specs.Values.{term_in, terms_in}
use Rattle.eval_contexts.specs.Matches.{after, where_matched, go_on}
use Rattle.eval_contexts.proofs.Matched.{unequal_lost, both_more, both_lost, each_unroll, each_end, cells_unroll, cells_more, cells_lost, cells_none, list_nowhere, alias_here}
use Rattle.eval_contexts.proofs.matching.+matches.Goals as goal

pub each_matches-returns-then-ps-values : goal.each_matches-returns-then-ps-values
each_matches-returns-then-ps-values t c = unequal_lost c.args.ps.now c.args.values.now (terms_in c.args.bound.now.items) (terms_in c.args.bound.now.items) c.if-ps-values.true

pub each_matches-returns-then-not-branch : goal.each_matches-returns-then-not-branch
each_matches-returns-then-not-branch t c =
    both_lost (terms_in c.loop-i.bound.items) (terms_in c.matches.new.bound.items) (terms_in c.matches.new.bound.items) (matched (pattern_of c.index-ps-i.result) (term_in c.index-values-i.result)) (matched_all (patterns (map pattern_of (drop (c.loop-i.i + 1) c.args.ps.now))) (terms (terms_in (drop (c.loop-i.i + 1) c.args.values.now))))
    (ap (λ b. where_matched b (terms_in c.matches.new.bound.items)) (sym c.if-not-branch.true) ∙ c.in_ok-matches.ensures)
    ∙ sym (each_unroll (terms_in c.loop-i.bound.items) c.args.ps.now c.args.values.now c.loop-i.i c.index-ps-i.result c.index-values-i.result c.loop-i-test.true c.loop-i.invariant.same_count c.index-ps-i.is c.index-values-i.is)
    ∙ c.loop-i.invariant.kept

pub each_matches-loop-i-preserved : goal.each_matches-loop-i-preserved
each_matches-loop-i-preserved t c = record {
  same_count = c.loop-i.invariant.same_count;
  kept =
      sym (both_more (terms_in c.loop-i.bound.items) (terms_in c.matches.new.bound.items) (matched (pattern_of c.index-ps-i.result) (term_in c.index-values-i.result)) (matched_all (patterns (map pattern_of (drop (c.loop-i.i + 1) c.args.ps.now))) (terms (terms_in (drop (c.loop-i.i + 1) c.args.values.now))))
      (ap (λ b. where_matched b (terms_in c.matches.new.bound.items)) (sym c.if-not-branch.false) ∙ c.in_ok-matches.ensures))
      ∙ sym (each_unroll (terms_in c.loop-i.bound.items) c.args.ps.now c.args.values.now c.loop-i.i c.index-ps-i.result c.index-values-i.result c.loop-i-test.true c.loop-i.invariant.same_count c.index-ps-i.is c.index-values-i.is)
      ∙ c.loop-i.invariant.kept;
}

pub each_matches-returns : goal.each_matches-returns
each_matches-returns t c = each_end (terms_in c.loop-i.bound.items) c.args.ps.now c.args.values.now c.loop-i.i c.loop-i-test.false c.loop-i.invariant.same_count ∙ c.loop-i.invariant.kept

pub cells_match-returns-then-not-branch : goal.cells_match-returns-then-not-branch
cells_match-returns-then-not-branch t c = λ tail.
    cells_lost (patterns (map pattern_of (drop (c.loop-p.p-index + 1) c.args.ps.now))) (pattern_of c.p-item.result) tail (term_in c.loop-p.rest) (term_in c.in-Some.head) (term_in c.in-Some.next) (terms_in c.loop-p.bound.items) (terms_in c.matches.new.bound.items)
    (sym c.in-Some.ensures)
    (ap (λ b. where_matched b (terms_in c.matches.new.bound.items)) (sym c.if-not-branch.true) ∙ c.in_ok-matches-in-Some.ensures)
    ∙ sym (cells_unroll (terms_in c.loop-p.bound.items) c.args.ps.now c.loop-p.p-index c.p-item.result tail (term_in c.loop-p.rest) c.loop-p-test.true c.p-item.is)
    ∙ c.loop-p.invariant tail

pub cells_match-returns-in-None : goal.cells_match-returns-in-None
cells_match-returns-in-None t c = λ tail.
    cells_none (patterns (map pattern_of (drop (c.loop-p.p-index + 1) c.args.ps.now))) (pattern_of c.p-item.result) tail (term_in c.loop-p.rest) (terms_in c.loop-p.bound.items) (sym c.in-None.ensures)
    ∙ sym (cells_unroll (terms_in c.loop-p.bound.items) c.args.ps.now c.loop-p.p-index c.p-item.result tail (term_in c.loop-p.rest) c.loop-p-test.true c.p-item.is)
    ∙ c.loop-p.invariant tail

pub cells_match-loop-p-preserved : goal.cells_match-loop-p-preserved
cells_match-loop-p-preserved t c = λ tail.
    sym (cells_more (patterns (map pattern_of (drop (c.loop-p.p-index + 1) c.args.ps.now))) (pattern_of c.p-item.result) tail (term_in c.loop-p.rest) (term_in c.in-Some.head) (term_in c.in-Some.next) (terms_in c.loop-p.bound.items) (terms_in c.matches.new.bound.items)
    (sym c.in-Some.ensures)
    (ap (λ b. where_matched b (terms_in c.matches.new.bound.items)) (sym c.if-not-branch.false) ∙ c.in_ok-matches-in-Some.ensures))
    ∙ sym (cells_unroll (terms_in c.loop-p.bound.items) c.args.ps.now c.loop-p.p-index c.p-item.result tail (term_in c.loop-p.rest) c.loop-p-test.true c.p-item.is)
    ∙ c.loop-p.invariant tail

pub matches-returns-in-None : goal.matches-returns-in-None
matches-returns-in-None t c =
    list_nowhere c.args.p.now c.in-List.parts c.in-List.tail (term_in c.args.v) (terms_in c.args.bound.now.items) (terms_in c.cells_match.new.bound.items) c.in-List.is
    (λ k. ap (λ o. go_on o (terms_in c.cells_match.new.bound.items) k) (sym c.in-None.is) ∙ c.in_ok-rest-in-List.ensures k ∙ ap (λ l. after (terms_in c.args.bound.now.items) (matched_cells (patterns (map pattern_of l)) k (term_in c.args.v))) c.as_slice-in-List.ensures)

pub matches-returns-in_ok-found-in-Alias : goal.matches-returns-in_ok-found-in-Alias
matches-returns-in_ok-found-in-Alias t c =
    alias_here c.args.p.now c.in-Alias.field-0 c.in-Alias.part c.args.v c.args.bound.now.items c.push-in-Alias.new.self.items (terms_in c.matches-in-Alias.new.bound.items) c.in_ok-found-in-Alias.found c.in-Alias.is c.in_ok-push-in-Alias.ensures.items
    (c.in_ok-found-in-Alias.ensures ∙ ap (λ q. after (terms_in c.push-in-Alias.new.self.items) (matched (pattern_of q) (term_in c.args.v))) c.get-in-Alias.ensures)
