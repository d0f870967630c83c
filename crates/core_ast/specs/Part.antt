-- A part of a module to which the rules of good modules apply.
use Rattle.hipe_terms.specs.declared.place.Place.{Place}
use Rattle.core_ast.specs.declared.tree.FunName.{FunName}
use Rattle.core_ast.specs.Trees as Trees

pub data Part : Type 0 where
  -- the module
  Module : Trees.Module → Part
  -- a function that other modules can call, and the place of its name
  Export : FunName → Place → Part
  -- the functions of the module, or those of a `letrec`
  Group : Trees.Definitions → Part
  -- one of them
  Definition : Trees.Definition → Part
  -- a clause of a `case`
  Clause : Trees.Clause → Part
  -- an expression
  Expression : Trees.Expression → Part
