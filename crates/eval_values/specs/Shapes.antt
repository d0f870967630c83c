-- The terms of values, by what the values are.
use Rattle.hipe_terms.specs.Terms.{Term, integer, atom, nil, cons, tuple, fun, terms}
use Rattle.eval_values.specs.declared.value.Shape.{Shape}
use Rattle.eval_values.specs.declared.value.Shape.TheVariants.{Int, Atom, Nil, Cons, Tuple, Fun}
use Rattle.eval_values.specs.Values.{term_in, terms_in}

abbrev pub shape_term : Shape → Term
shape_term (Int n) = integer n
shape_term (Atom a) = atom a.now
shape_term Nil = nil
shape_term (Cons a b) = cons (term_in a) (term_in b)
shape_term (Tuple ts) = tuple (terms (terms_in ts.now))
shape_term (Fun n ts) = fun n (terms (terms_in ts.now))
