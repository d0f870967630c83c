-- The term of a value, by what the value is.
use Rattle.std.proofs.Common.{◌≡◌, ℕ, List, refl, ap, ◌∙◌, Bor}
use Rattle.std.specs.Prelude.{ℤ}
use Rattle.hipe_terms.specs.Terms.{integer, atom, nil, cons, tuple, fun, terms}
use Rattle.hipe_terms.specs.declared.atom.Atom.{Atom}
use Rattle.eval_values.specs.declared.value.Cell.{Cell}
use Rattle.eval_values.specs.declared.value.Value.{Value}
use Rattle.eval_values.specs.declared.value.Value.TheVariants as Made
use Rattle.eval_values.specs.Values.{term_in, terms_in}
use Rattle.eval_values.proofs.Levels.{level_value, value_is, cell_is}

pub int_is : (v : Value) (n : ℤ) → v ≡ Made.Int n → term_in v ≡ integer n
int_is v n e = ap term_in e ∙ value_is (Made.Int n) ∙ ap level_value (Made.outs-Int n)

pub atom_is : (v : Value) (a : Bor Atom) → v ≡ Made.Atom a → term_in v ≡ atom a.now
atom_is v a e = ap term_in e ∙ value_is (Made.Atom a) ∙ ap level_value (Made.outs-Atom a)

pub nil_is : (v : Value) → v ≡ Made.Nil → term_in v ≡ nil
nil_is v e = ap term_in e ∙ value_is Made.Nil ∙ ap level_value Made.outs-Nil

pub cons_is : (v : Value) (x : Bor Cell) → v ≡ Made.Cons x → term_in v ≡ cons (term_in (x.now).head) (term_in (x.now).tail)
cons_is v x e = ap term_in e ∙ value_is (Made.Cons x) ∙ ap level_value (Made.outs-Cons x) ∙ cell_is x.now

pub tuple_is : (v : Value) (x : Bor (List Value)) → v ≡ Made.Tuple x → term_in v ≡ tuple (terms (terms_in x.now))
tuple_is v x e = ap term_in e ∙ value_is (Made.Tuple x) ∙ ap level_value (Made.outs-Tuple x)

pub fun_is : (v : Value) (n : ℕ) (x : Bor (List Value)) → v ≡ Made.Fun n x → term_in v ≡ fun n (terms (terms_in x.now))
fun_is v n x e = ap term_in e ∙ value_is (Made.Fun n x) ∙ ap level_value (Made.outs-Fun n x)

pub cons_parts : (v : Value) (p : Bor (Unit {0})) (h t : Value) → v ≡ Made.Cons' p h t → term_in v ≡ cons (term_in h) (term_in t)
cons_parts v p h t e = ap term_in e ∙ value_is (Made.Cons' p h t) ∙ ap level_value (Made.outs-Cons' p h t) ∙ cell_is _

pub cons_made : (x : Bor Cell) (h t : Value) → x.now ≡ record { head = h; tail = t } → term_in (Made.Cons x) ≡ cons (term_in h) (term_in t)
cons_made x h t e = cons_is (Made.Cons x) x refl ∙ ap (λ c. cons (term_in c.head) (term_in c.tail)) e

pub tuple_made : (x : Bor (List Value)) (vs : List Value) → x.now ≡ vs → term_in (Made.Tuple x) ≡ tuple (terms (terms_in vs))
tuple_made x vs e = tuple_is (Made.Tuple x) x refl ∙ ap (λ l. tuple (terms (terms_in l))) e

pub ruleset made = (int_is, atom_is, nil_is, cons_is, cons_parts, tuple_is, fun_is)
