-- Modules of the form that the compiler takes so far: their one function is 'main'/0, which gives a sum of small integers.
use Rattle.std.specs.Prelude.{◌≡◌, ◌≢◌, ◌≤◌, ℤ, List, [], ◌∷◌, map, codes, Contains}
use Rattle.std.specs.Int.RustNames.{unsigned_abs}
use Rattle.hipe_terms.specs.declared.place.Place.{Place}
use Rattle.core_ast.specs.declared.tree.FunName.{FunName}
use Rattle.core_ast.specs.Trees.{Expression, no_expression, and_expression, no_definition, and_definition, Definition, Module}
use Rattle.core_ast.specs.Places.{place_of}
use Rattle.core_ast.specs.Part.{Part}
use Rattle.core_ast.specs.Parts.{parts_of_module}
use Rattle.core_sum.specs.declared.sum.Sum.{Sum}
use Rattle.core_sum.specs.declared.sum.SumRefusal.{SumRefusal}
use Rattle.core_sum.specs.Sums.{int_of, plus_of}

-- the name 'main'/0
abbrev pub main : FunName
main = record { name = codes "main"; arity = 0 }

-- an integer from -999,999 to 999,999
abbrev pub IsSmall : ℤ → Type 0
IsSmall n = unsigned_abs n ≤ 999999

-- an expression is made of small integers and of calls of `erlang:'+'` of two expressions that are made so, and this is the sum
pub data IsSum : Expression → Sum → Type 0 where
  integer : (p : Place) (n : ℤ) → IsSmall n → IsSum (Expression.Int p n) (int_of n)
  addition : (p : Place) (a b : Expression) (d e : Sum) → IsSum a d → IsSum b e
      → IsSum (Expression.Call p (codes "erlang") (codes "+") (and_expression a (and_expression b no_expression))) (plus_of d e)

abbrev pub Exports : Module → FunName → Type 0
Exports m f = Contains (map (λ e. e.0) m.exports) f

-- a module exports 'main'/0, and that is its only function, without parameters and with this sum as its body
pub record IsSumModule (m : Module) (e : Sum) : Type 0 where
  pub exported : Exports m main
  pub name_at : Place
  pub fun_at : Place
  pub body : Expression
  pub only : m.definitions ≡ and_definition name_at main fun_at [] body no_definition
  pub made : IsSum body e

-- a part that isn't of the form, and where it begins: a function other than 'main'/0, or an expression that isn't made so
pub data IsUnbuilt : Part → Place → Type 0 where
  function : (d : Definition) → d.name ≢ main → IsUnbuilt (Part.Definition d) d.at
  expression : (e : Expression) → ((s : Sum) → ¬ IsSum e s) → IsUnbuilt (Part.Expression e) (place_of e)

-- the first of these parts that isn't of the form begins there
pub data IsFirst : List Part → Place → Type 0 where
  here : {x : Part} {xs : List Part} {p : Place} → IsUnbuilt x p → IsFirst (x ∷ xs) p
  behind : {x : Part} {xs : List Part} {p : Place} → ((q : Place) → ¬ IsUnbuilt x q) → IsFirst xs p → IsFirst (x ∷ xs) p

-- the first part of a module that isn't of the form: its parts are listed in the order of the text
abbrev pub IsFirstUnbuilt : Module → Place → Type 0
IsFirstUnbuilt m p = IsFirst (map (λ x. x.0) (parts_of_module m)) p

-- why a module has no sum; memory may be wanting at any time
abbrev pub IsSumRefusal : Module → SumRefusal → Type 0
IsSumRefusal m SumRefusal.NotExported = ¬ Exports m main
IsSumRefusal m (SumRefusal.NotYet p) = Exports m main × IsFirstUnbuilt m p
IsSumRefusal m SumRefusal.Memory = Unit {0}
