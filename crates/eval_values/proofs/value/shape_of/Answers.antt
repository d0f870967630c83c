use Rattle.eval_values.proofs.Made.{atom_is, nil_is, cons_is, tuple_is, fun_is}
use Rattle.eval_values.proofs.value.shape_of.Goals as goal

pub returns-in-Cons : goal.returns-in-Cons
returns-in-Cons c = cons_is _ _ c.in-Cons.is

pub returns-in-Tuple : goal.returns-in-Tuple
returns-in-Tuple c = tuple_is _ _ c.in-Tuple.is

pub returns-in-Fun : goal.returns-in-Fun
returns-in-Fun c = fun_is _ _ _ c.in-Fun.is

pub returns-in-Atom : goal.returns-in-Atom
returns-in-Atom c = atom_is _ _ c.in-Atom.is

pub returns-in-Nil : goal.returns-in-Nil
returns-in-Nil c = nil_is _ c.in-Nil.is
