-- Folds of values and constants, by what they are made of.
use Rattle.std.proofs.Common.{◌≡◌, map, refl, ◌∙◌}
use Rattle.hipe_terms.specs.Terms.{Term, integer, atom, nil, cons, tuple, fun, terms}
use Rattle.hipe_terms.specs.declared.constant.Constant.TheViews as ConstantViews
use Rattle.hipe_terms.proofs.Levels.{words_is, term_is}
use Rattle.eval_values.specs.declared.value.Cell.{Cell}
use Rattle.eval_values.specs.declared.value.Value.{Value, out-Value}
use Rattle.eval_values.specs.declared.value.Value.TheOpen.{Value-F}
use Rattle.eval_values.specs.declared.value.Value.TheFolds.{fold_out-Value, fold_out-Cell, fold-Value, fold-Cell, map-Value}
use Rattle.eval_values.specs.declared.value.Value.TheViews.{the_lemmas}
use Rattle.eval_values.specs.Values.{value_at, cell_at, term_in, cell_in}

abbrev pub level_value : Value-F Value Cell → Term
level_value (Value-F.Int n) = integer n
level_value (Value-F.Atom a) = atom a.now
level_value Value-F.Nil = nil
level_value (Value-F.Cons c) = cell_in c.now
level_value (Value-F.Tuple ts) = tuple (terms (map term_in ts.now))
level_value (Value-F.Fun n ts) = fun n (terms (map term_in ts.now))

value_level : (l : Value-F Value Cell) → value_at (map-Value Value Cell Term Term (fold-Value Term Term value_at cell_at) (fold-Cell Term Term value_at cell_at) l) ≡ level_value l
unfolding term_in cell_in
value_level (Value-F.Int n) = refl
value_level (Value-F.Atom a) = refl
value_level Value-F.Nil = refl
value_level (Value-F.Cons c) = refl
value_level (Value-F.Tuple ts) = refl
value_level (Value-F.Fun n ts) = refl

pub value_is : (v : Value) → term_in v ≡ level_value (out-Value v)
unfolding term_in
value_is v = fold_out-Value Term Term value_at cell_at v ∙ value_level (out-Value v)

pub cell_is : (c : Cell) → cell_in c ≡ cons (term_in c.head) (term_in c.tail)
unfolding term_in cell_in
cell_is c = fold_out-Cell Term Term value_at cell_at c

pub ruleset levels = (the_lemmas, ConstantViews.the_lemmas, value_is, cell_is, words_is, term_is)
