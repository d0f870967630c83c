use Rattle.std.proofs.Common.{◌≡◌, map, drop, length}
use Rattle.hipe_terms.specs.Terms.{Term, terms}
use Rattle.core_ast.specs.Trees.{pattern_of, patterns}
use Rattle.core_meaning.specs.Matching.{Match, matched_all, matched_cells}
use Rattle.eval_values.specs.Values.{term_in, terms_in}
use Rattle.eval_contexts.specs.Matches.{after}
use Rattle.eval_contexts.proofs.matching.+matches.Given as goal

abbrev pub invariant-each_matches-loop-i : goal.invariant-each_matches-loop-i
invariant-each_matches-loop-i l = record {
  same_count : length l.ps ≡ length l.values;
  kept :
      after (terms_in l.bound.items) (matched_all (patterns (map pattern_of (drop l.i l.ps))) (terms (terms_in (drop l.i l.values))))
      ≡ after (terms_in l.fn.bound.items) (matched_all (patterns (map pattern_of l.ps)) (terms (terms_in l.values)));
}

abbrev pub invariant-cells_match-loop-p : goal.invariant-cells_match-loop-p
invariant-cells_match-loop-p l =
    (tail : Term → Match) →
    after (terms_in l.bound.items) (matched_cells (patterns (map pattern_of (drop l.p-index l.ps))) tail (term_in l.rest))
    ≡ after (terms_in l.fn.bound.items) (matched_cells (patterns (map pattern_of l.ps)) tail (term_in l.v))
