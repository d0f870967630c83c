use Rattle.std.proofs.Common.{rules, ap, sym, ◌∙◌, ◌≡◌, ◌++◌, [], true, false, map, codes, append_assoc}
use Rattle.std.proofs.lemmas.List.Elements.{All-same}
use Rattle.hipe_terms.specs.declared.constant.Constant.{out-Constant}
use Rattle.hipe_terms.specs.declared.constant.Constant.TheVariants.{outs-List, outs-Tuple}
use Rattle.hipe_terms.specs.declared.constant.Constant.TheViews.{the_lemmas}
use Rattle.hipe_terms.specs.Constants.{IsConstant, is_nil}
use Rattle.hipe_terms.specs.Shown.{shown, shown_all}
use Rattle.hipe_terms.specs.Terms.{terms, term_of}
use Rattle.hipe_terms.proofs.Levels.{level_term, term_is}
use Rattle.hipe_terms.proofs.Parts.{tuple_parts, list_parts, tail_good, is_constant_of}
use Rattle.hipe_terms.proofs.Texts.{list_text, list_text_with_tail, after_three, after_five}
use Rattle.hipe_terms.proofs.text.+show.Goals as goal

pub show_constant-show_each-requires : goal.show_constant-show_each-requires
show_constant-show_each-requires t c =
    (search (rules, the_lemmas), All-same IsConstant _ _ c.as_slice.ensures (list_parts _ _ _ (ap out-Constant c.in-List.is ∙ outs-List c.in-List.parts c.in-List.tail) c.requires))

pub show_constant-show_constant-requires : goal.show_constant-show_constant-requires
show_constant-show_constant-requires t c =
    (search (rules, the_lemmas), is_constant_of _ _ c.get-in-List.ensures (tail_good _ _ _ (ap out-Constant c.in-List.is ∙ outs-List c.in-List.parts c.in-List.tail) c.requires))

pub show_constant-show_each-requires-in-Tuple : goal.show_constant-show_each-requires-in-Tuple
show_constant-show_each-requires-in-Tuple t c =
    (search (rules, the_lemmas), All-same IsConstant _ _ c.as_slice-in-Tuple.ensures (tuple_parts _ _ (ap out-Constant c.in-Tuple.is ∙ outs-Tuple _) c.requires))

pub show_constant-returns-then-is_nil : goal.show_constant-returns-then-is_nil
show_constant-returns-then-is_nil t c =
    let n : is_nil c.in-List.tail ≡ true = cc (c.get.ensures, c.is_nil.ensures, c.if-is_nil.true) in
    after_three _ _ _ _ c.in_ok-push_str-in-List.ensures.bytes c.in_ok-show_each-in-List.ensures c.in_ok-push_str-in-List-2.ensures.bytes
    (
    list_text _ _ _ (ap out-Constant c.in-List.is ∙ outs-List c.in-List.parts c.in-List.tail) c.requires n
    ∙ ap (λ xs. codes "[" ++ (shown_all [] (terms (map term_of xs)) ++ codes "]")) (sym c.as_slice.ensures)
    )

pub show_constant-returns-in_ok-push_str-in-List-4 : goal.show_constant-returns-in_ok-push_str-in-List-4
show_constant-returns-in_ok-push_str-in-List-4 t c =
    let n : is_nil c.in-List.tail ≡ false = cc (c.get.ensures, c.is_nil.ensures, c.if-is_nil.false) in
    after_five _ _ _ _ _ _ c.in_ok-push_str-in-List.ensures.bytes c.in_ok-show_each-in-List.ensures c.in_ok-push_str-in-List-3.ensures.bytes c.in_ok-show_constant-in-List.ensures c.in_ok-push_str-in-List-4.ensures.bytes
    (
    list_text_with_tail _ _ _ (ap out-Constant c.in-List.is ∙ outs-List c.in-List.parts c.in-List.tail) c.requires n
    ∙ ap (λ xs. codes "[" ++ (shown_all [] (terms (map term_of xs)) ++ (codes "|" ++ (shown [] (term_of c.in-List.tail) ++ codes "]")))) (sym c.as_slice.ensures)
    ∙ ap (λ y. codes "[" ++ (shown_all [] (terms (map term_of c.as_slice.result.now)) ++ (codes "|" ++ (shown [] (term_of y) ++ codes "]")))) (sym c.get-in-List.ensures)
    )

pub show_constant-returns-in_ok-push_str-in-Tuple-2 : goal.show_constant-returns-in_ok-push_str-in-Tuple-2
show_constant-returns-in_ok-push_str-in-Tuple-2 t c =
    after_three _ _ _ _ c.in_ok-push_str-in-Tuple.ensures.bytes c.in_ok-show_each-in-Tuple.ensures c.in_ok-push_str-in-Tuple-2.ensures.bytes
    (
    ap (shown []) (term_is _ ∙ ap level_term (ap out-Constant c.in-Tuple.is ∙ outs-Tuple c.in-Tuple.parts))
    ∙ append_assoc (codes "{") (shown_all [] (terms (map term_of c.in-Tuple.parts))) (codes "}")
    ∙ ap (λ xs. codes "{" ++ (shown_all [] (terms (map term_of xs)) ++ codes "}")) (sym c.as_slice-in-Tuple.ensures)
    )
