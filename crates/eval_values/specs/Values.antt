-- The terms that values stand for.
use Rattle.std.specs.Prelude.{List, map}
use Rattle.hipe_terms.specs.Terms.{Term, integer, atom, nil, cons, tuple, fun, terms}
use Rattle.eval_values.specs.declared.value.Cell.{Cell}
use Rattle.eval_values.specs.declared.value.Value.{Value}
use Rattle.eval_values.specs.declared.value.Value.TheOpen.{Value-F, Cell-F}
use Rattle.eval_values.specs.declared.value.Value.TheFolds.{fold-Value, fold-Cell}

abbrev pub value_at : Value-F Term Term → Term
value_at (Value-F.Int n) = integer n
value_at (Value-F.Atom a) = atom a.now
value_at Value-F.Nil = nil
value_at (Value-F.Cons c) = c.now
value_at (Value-F.Tuple ts) = tuple (terms ts.now)
value_at (Value-F.Fun n ts) = fun n (terms ts.now)

abbrev pub cell_at : Cell-F Term Term → Term
cell_at c = cons c.head c.tail

-- the term that a value stands for
unfoldable pub term_in : Value → Term
term_in = fold-Value Term Term value_at cell_at

unfoldable pub cell_in : Cell → Term
cell_in = fold-Cell Term Term value_at cell_at

abbrev pub terms_in : List Value → List Term
terms_in vs = map term_in vs
