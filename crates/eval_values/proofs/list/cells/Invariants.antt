use Rattle.std.proofs.Common.{◌≡◌, ◌≤◌, take, length}
use Rattle.hipe_terms.specs.Terms.{cells}
use Rattle.eval_values.specs.Values.{term_in, terms_in}
use Rattle.eval_values.proofs.list.cells.Given as goal

abbrev pub invariant-loop-left : goal.invariant-loop-left
invariant-loop-left l = record {
  within : l.left ≤ length l.elements;
  same_list : cells (terms_in (take l.left l.elements)) (term_in l.list) ≡ cells (terms_in l.elements) (term_in l.fn.tail);
}

abbrev pub decreases-loop-left : goal.decreases-loop-left
decreases-loop-left l = l.left
