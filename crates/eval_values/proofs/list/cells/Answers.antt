use Rattle.std.proofs.Common.{◌≡◌, ◌+◌, ◌-◌, ◌<◌, ap, sym, ◌∙◌, take, length, arith}
use Rattle.hipe_terms.specs.Terms.{cons, cells}
use Rattle.eval_values.specs.Values.{term_in, terms_in}
use Rattle.eval_values.proofs.Spines.{cells_more}
use Rattle.eval_values.proofs.list.cells.Goals as goal

pub loop-left-preserved : goal.loop-left-preserved
loop-left-preserved c =
    let h : c.loop-left.left - 1 < length c.args.elements.now = omega arith in
    let n : (c.loop-left.left - 1) + 1 ≡ c.loop-left.left = omega arith in
    record {
      within = omega arith;
      same_list =
          ap (cells (terms_in (take (c.loop-left.left - 1) c.args.elements.now))) (c.in_ok-list.ensures ∙ ap (λ d. cons (term_in d) (term_in c.loop-left.list)) c.index-elements-left.is)
          ∙ sym (cells_more c.args.elements.now (c.loop-left.left - 1) c.index-elements-left.result (term_in c.loop-left.list) h)
          ∙ ap (λ k. cells (terms_in (take k c.args.elements.now)) (term_in c.loop-left.list)) n
          ∙ c.loop-left.invariant.same_list;
    }
