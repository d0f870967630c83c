use Rattle.std.proofs.Common.{rules, ap, sym, ◌∙◌, ◌≡◌, List, map, length, nat_cmp}
use Rattle.std.specs.Ordering.{ordering_then}
use Rattle.std.specs.declared.cmp.Ordering.{Ordering}
use Rattle.hipe_terms.specs.Order.{order, order_common}
use Rattle.hipe_terms.specs.Terms.{term_of}
use Rattle.std.proofs.lemmas.List.Elements.{All-same}
use Rattle.hipe_terms.specs.declared.constant.Constant.{Constant, out-Constant}
use Rattle.hipe_terms.specs.declared.constant.Constant.TheVariants.{outs-Int, outs-Atom, outs-Nil, outs-List, outs-Tuple}
use Rattle.hipe_terms.specs.declared.constant.Constant.TheViews.{the_lemmas}
use Rattle.hipe_terms.specs.Constants.{IsConstant}
use Rattle.hipe_terms.proofs.Parts.{tuple_parts, list_parts, tail_good, list_is, no_list, is_constant_of, below_list, above_list, list_order, constant_tuples, then_equal, then_other}
use Rattle.hipe_terms.proofs.compare.+order.Goals as goal

-- what the elements tell, by the lists that they are in
by_parts : {r : Ordering} {xs ys cs ds : List Constant} → r ≡ ordering_then (order_common (map term_of xs) (map term_of ys)) (nat_cmp (length xs) (length ys)) → xs ≡ cs → ys ≡ ds
    → r ≡ ordering_then (order_common (map term_of cs) (map term_of ds)) (nat_cmp (length cs) (length ds))
by_parts {ys = ys} {cs = cs} e p q = e ∙ ap (λ zs. ordering_then (order_common (map term_of zs) (map term_of ys)) (nat_cmp (length zs) (length ys))) p ∙ ap (λ zs. ordering_then (order_common (map term_of cs) (map term_of zs)) (nat_cmp (length cs) (length zs))) q

pub order-order_tuples-requires : goal.order-order_tuples-requires
order-order_tuples-requires t c = (
  search (rules, the_lemmas),
  (
    All-same IsConstant _ _ c.as_slice.ensures (tuple_parts _ _ (ap out-Constant c.in-Tuple.is ∙ outs-Tuple _) c.requires.first),
    All-same IsConstant _ _ c.as_slice-in-Tuple-b-2.ensures (tuple_parts _ _ (ap out-Constant c.in-Tuple-b-2.is ∙ outs-Tuple _) c.requires.second),
  ),
)

pub order-order_lists-requires : goal.order-order_lists-requires
order-order_lists-requires t c = (
  search (rules, the_lemmas),
  (
    All-same IsConstant _ _ c.as_slice-in-List-b-5.ensures (list_parts _ _ _ (ap out-Constant c.in-List.is ∙ outs-List c.in-List.xs c.in-List.x) c.requires.first),
    All-same IsConstant _ _ c.as_slice-in-List-b-5-2.ensures (list_parts _ _ _ (ap out-Constant c.in-List-b-5.is ∙ outs-List c.in-List-b-5.ys c.in-List-b-5.y) c.requires.second),
  ),
)

pub order-order-requires-in-Equal : goal.order-order-requires-in-Equal
order-order-requires-in-Equal t c = (
  search (rules, the_lemmas),
  (
    is_constant_of _ _ c.get.ensures (tail_good _ _ _ (ap out-Constant c.in-List.is ∙ outs-List c.in-List.xs c.in-List.x) c.requires.first),
    is_constant_of _ _ c.get-in-Equal.ensures (tail_good _ _ _ (ap out-Constant c.in-List-b-5.is ∙ outs-List c.in-List-b-5.ys c.in-List-b-5.y) c.requires.second),
  ),
)

pub order-returns-in-Equal : goal.order-returns-in-Equal
order-returns-in-Equal t c =
    c.order-in-Equal.ensures
    ∙ ap (λ x. order (term_of x) (term_of c.get-in-Equal.result.now)) c.get.ensures
    ∙ ap (λ y. order (term_of c.in-List.x) (term_of y)) c.get-in-Equal.ensures
    ∙ then_equal _ _ (sym (by_parts c.order_lists.ensures c.as_slice-in-List-b-5.ensures c.as_slice-in-List-b-5-2.ensures) ∙ c.in-Equal.is)
    ∙ sym (list_order c.args.a.now c.args.b.now c.in-List.xs c.in-List-b-5.ys c.in-List.x c.in-List-b-5.y (ap out-Constant c.in-List.is ∙ outs-List _ _) (ap out-Constant c.in-List-b-5.is ∙ outs-List _ _) c.requires.first c.requires.second)

pub order-returns-in_default-order_lists : goal.order-returns-in_default-order_lists
order-returns-in_default-order_lists t c =
    let e : c.order_lists.result ≡ _ = by_parts c.order_lists.ensures c.as_slice-in-List-b-5.ensures c.as_slice-in-List-b-5-2.ensures in
    e
    ∙ then_other _ _ (λ r. c.in_default-order_lists.not-Equal (e ∙ r))
    ∙ sym (list_order c.args.a.now c.args.b.now c.in-List.xs c.in-List-b-5.ys c.in-List.x c.in-List-b-5.y (ap out-Constant c.in-List.is ∙ outs-List _ _) (ap out-Constant c.in-List-b-5.is ∙ outs-List _ _) c.requires.first c.requires.second)

pub order-returns-in-List-b : goal.order-returns-in-List-b
order-returns-in-List-b t c =
    below_list _ _ _ _ (list_is _ _ (ap out-Constant c.in-Int.is ∙ outs-Int _)) (ap out-Constant c.in-List-b.is ∙ outs-List _ _) c.requires.second

pub order-returns-in-List-b-2 : goal.order-returns-in-List-b-2
order-returns-in-List-b-2 t c =
    below_list _ _ _ _ (list_is _ _ (ap out-Constant c.in-Atom.is ∙ outs-Atom _)) (ap out-Constant c.in-List-b-2.is ∙ outs-List _ _) c.requires.second

pub order-returns-in-List-b-3 : goal.order-returns-in-List-b-3
order-returns-in-List-b-3 t c =
    below_list _ _ _ _ (list_is _ _ (ap out-Constant c.in-Tuple.is ∙ outs-Tuple _)) (ap out-Constant c.in-List-b-3.is ∙ outs-List _ _) c.requires.second

pub order-returns-in-List-b-4 : goal.order-returns-in-List-b-4
order-returns-in-List-b-4 t c =
    below_list _ _ _ _ (list_is _ _ (ap out-Constant c.in-Nil.is ∙ outs-Nil)) (ap out-Constant c.in-List-b-4.is ∙ outs-List _ _) c.requires.second

pub order-returns-in_default : goal.order-returns-in_default
order-returns-in_default t c =
    above_list _ _ _ _ (no_list _ c.in_default.not-List) (ap out-Constant c.in-List.is ∙ outs-List _ _) c.requires.first

pub order_tuples-returns-in-Equal : goal.order_tuples-returns-in-Equal
order_tuples-returns-in-Equal t c =
    c.order_each.ensures ∙ then_equal _ _ (sym c.cmp.ensures ∙ c.in-Equal.is) ∙ sym (constant_tuples c.args.xs.now c.args.ys.now)

pub order_tuples-returns-in_default : goal.order_tuples-returns-in_default
order_tuples-returns-in_default t c =
    c.cmp.ensures ∙ then_other _ _ (λ e. c.in_default.not-Equal (c.cmp.ensures ∙ e)) ∙ sym (constant_tuples c.args.xs.now c.args.ys.now)
