-- The names of a module's definitions, by which its funs are shown.
use Rattle.std.specs.Prelude.{ℕ, List, map}
use Rattle.hipe_terms.specs.Shown.{Names}
use Rattle.core_ast.specs.declared.tree.FunDef.{FunDef}
use Rattle.core_ast.specs.declared.tree.FunName.{FunName}
use Rattle.core_ast.specs.Trees.{definition_of}

-- a name and an arity
abbrev pub name_of : FunName → List ℕ × ℕ
name_of f = (f.name, f.arity)

-- of each definition
abbrev pub names_of : List FunDef → Names
names_of defs = map (λ d. name_of (definition_of d).name) defs
