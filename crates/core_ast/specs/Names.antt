-- Names: those that a part of a module binds, and those that are in scope there.
use Rattle.std.specs.Prelude.{ℕ, ◌==◌, Bool, ◌&&◌, List, [], ◌∷◌, ◌++◌, map, bytes_eq}
use Rattle.std.specs.List.{list_any}
use Rattle.hipe_terms.specs.declared.place.Place.{Place}
use Rattle.core_ast.specs.declared.pattern.Var.{Var}
use Rattle.core_ast.specs.declared.tree.FunName.{FunName}
use Rattle.core_ast.specs.Trees.{Pattern, Patterns, no_pattern, and_pattern, Definitions, no_definition, and_definition}

-- The names in scope, the innermost first. An inner name hides an outer one, so what is in scope is all of them.
pub record Names : Type 0 where
  pub variables : List (List ℕ)
  pub functions : List FunName

-- whether two functions have one name and arity
abbrev pub is_named : FunName → FunName → Bool
is_named f g = bytes_eq f.name g.name && f.arity == g.arity

abbrev pub has_variable : List ℕ → Names → Bool
has_variable x s = list_any (λ y. bytes_eq x y) s.variables

abbrev pub has_function : FunName → Names → Bool
has_function f s = list_any (λ g. is_named f g) s.functions

-- the names in scope where these variables are bound
abbrev pub with_variables : List Var → Names → Names
with_variables xs s = record { variables = map (λ x. x.name) xs ++ s.variables; functions = s.functions }

-- functions that are defined together, each with the place of its name
abbrev pub defined : Definitions → List (FunName × Place)
defined no_definition = []
defined (and_definition p f q xs body ds) = (f, p) ∷ defined ds

-- the names in scope where these functions are defined
abbrev pub with_functions : Definitions → Names → Names
with_functions ds s = record { variables = s.variables; functions = map (λ d. d.0) (defined ds) ++ s.functions }

-- the variables that patterns bind, in the order of the text
abbrev mutual
  pub variables_of : Pattern → List Var
  variables_of (Pattern.Variable p x) = record { name = x; at = p } ∷ []
  variables_of (Pattern.Int p n) = []
  variables_of (Pattern.Atom p a) = []
  variables_of (Pattern.Nil p) = []
  variables_of (Pattern.Tuple p parts) = variables_of_all parts
  variables_of (Pattern.Cons p parts tail) = variables_of_all parts ++ variables_of tail
  variables_of (Pattern.Alias p x part) = x ∷ variables_of part

  pub variables_of_all : Patterns → List Var
  variables_of_all no_pattern = []
  variables_of_all (and_pattern p ps) = variables_of p ++ variables_of_all ps
