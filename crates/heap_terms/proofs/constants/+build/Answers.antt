use Rattle.std.proofs.Common.{rules, ◌≡◌, ◌+◌, ◌*◌, length, map, sum, ap, ◌∙◌, arith}
use Rattle.std.proofs.lemmas.List.Elements.{All-same}
use Rattle.hipe_terms.specs.declared.constant.Constant.{out-Constant}
use Rattle.hipe_terms.specs.declared.constant.Constant.TheOpen.{Constant-F}
use Rattle.hipe_terms.specs.declared.constant.Constant.TheVariants.{outs-Int, outs-List, outs-Tuple}
use Rattle.hipe_terms.specs.declared.constant.Constant.TheViews.{the_lemmas}
use Rattle.hipe_terms.specs.Constants.{IsConstant}
use Rattle.hipe_terms.specs.Words.{words_of}
use Rattle.hipe_terms.proofs.Levels.{words_is, level_words}
use Rattle.hipe_terms.proofs.Parts.{tuple_parts, list_parts, tail_good, is_constant_of}
use Rattle.heap_terms.proofs.Building.{integer_good, as_passed}
use Rattle.heap_terms.proofs.constants.+build.Goals as goal

pub build-word_of-requires : goal.build-word_of-requires
build-word_of-requires g t c = as_passed c.in-Int.n (integer_good _ _ (ap out-Constant c.in-Int.is ∙ outs-Int c.in-Int.n) c.requires.good)

pub build-build_each-requires : goal.build-build_each-requires
build-build_each-requires g t c =
    let o : out-Constant c.args.c.now ≡ Constant-F.List c.in-List.parts c.in-List.tail = ap out-Constant c.in-List.is ∙ outs-List c.in-List.parts c.in-List.tail in
    let w : words_of c.args.c.now ≡ sum (map words_of c.in-List.parts) + words_of c.in-List.tail + 2 * length c.in-List.parts = words_is c.args.c.now ∙ ap level_words o in
    let s : sum (map words_of c.as_slice.result.now) ≡ sum (map words_of c.in-List.parts) = ap (λ cs. sum (map words_of cs)) c.as_slice.ensures in
    λ κs lives. (search (rules, the_lemmas), (lives, (All-same IsConstant _ _ c.as_slice.ensures (list_parts _ _ _ o c.requires.good), omega arith)))

pub build-build-requires : goal.build-build-requires
build-build-requires g t c =
    let o : out-Constant c.args.c.now ≡ Constant-F.List c.in-List.parts c.in-List.tail = ap out-Constant c.in-List.is ∙ outs-List c.in-List.parts c.in-List.tail in
    let w : words_of c.args.c.now ≡ sum (map words_of c.in-List.parts) + words_of c.in-List.tail + 2 * length c.in-List.parts = words_is c.args.c.now ∙ ap level_words o in
    let s : sum (map words_of c.as_slice.result.now) ≡ sum (map words_of c.in-List.parts) = ap (λ cs. sum (map words_of cs)) c.as_slice.ensures in
    let r : words_of c.get.result.now ≡ words_of c.in-List.tail = ap words_of c.get.ensures in
    λ κs lives. (search (rules, the_lemmas), (lives, (is_constant_of _ _ c.get.ensures (tail_good _ _ _ o c.requires.good), omega (arith, c.in_ok-words-in-List.ensures.words))))

pub build-build_each-requires-in-Tuple : goal.build-build_each-requires-in-Tuple
build-build_each-requires-in-Tuple g t c =
    let o : out-Constant c.args.c.now ≡ Constant-F.Tuple c.in-Tuple.parts = ap out-Constant c.in-Tuple.is ∙ outs-Tuple c.in-Tuple.parts in
    let w : words_of c.args.c.now ≡ sum (map words_of c.in-Tuple.parts) + (length c.in-Tuple.parts + 1) = words_is c.args.c.now ∙ ap level_words o in
    let s : sum (map words_of c.as_slice-in-Tuple.result.now) ≡ sum (map words_of c.in-Tuple.parts) = ap (λ cs. sum (map words_of cs)) c.as_slice-in-Tuple.ensures in
    λ κs lives. (search (rules, the_lemmas), (lives, (All-same IsConstant _ _ c.as_slice-in-Tuple.ensures (tuple_parts _ _ o c.requires.good), omega arith)))
