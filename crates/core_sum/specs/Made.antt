-- What the walk through a module finds.
use Rattle.std.specs.Prelude.{◌≡◌, ℕ, nat_le, ℤ, pos, Bool, false, ◌&&◌, ◌||◌, if◌then◌else◌, List, [], ◌∷◌, Option, Some, None, Result, Ok, Err, bytes_eq, codes}
use Rattle.std.specs.Int.RustNames.{unsigned_abs}
use Rattle.hipe_terms.specs.declared.place.Place.{Place}
use Rattle.core_ast.specs.declared.tree.FunName.{FunName}
use Rattle.core_ast.specs.Trees.{Expression, Expressions, no_expression, and_expression, Definitions, no_definition, and_definition}
use Rattle.core_ast.specs.Places.{place_of}
use Rattle.core_ast.specs.Names.{is_named}
use Rattle.core_sum.specs.declared.sum.Sum.{Sum}
use Rattle.core_sum.specs.declared.sum.SumRefusal.{SumRefusal}
use Rattle.core_sum.specs.Sums.{int_of, plus_of}
use Rattle.core_sum.specs.Form.{main}

-- whether 'main'/0 is among these names
abbrev pub has_main : List (FunName × Place) → Bool
has_main [] = false
has_main (e ∷ es) = is_named e.0 main || has_main es

abbrev pub is_addition : List ℕ → List ℕ → Bool
is_addition m f = bytes_eq m (codes "erlang") && bytes_eq f (codes "+")

-- an integer as a sum, where it is small
abbrev pub small : ℤ → Option Sum
small n = if nat_le (unsigned_abs n) 999999 then Some (int_of n) else None

-- the sum of two parts that are made as sums
abbrev pub added : List (Option Sum) → Option Sum
added (Some a ∷ Some b ∷ []) = Some (plus_of a b)
added _ = None

abbrev mutual
  pub sum_in : Expression → Option Sum
  sum_in (Expression.Int p n) = small n
  sum_in (Expression.Call p m f args) = if is_addition m f then added (sums_in args) else None
  sum_in _ = None

  pub sums_in : Expressions → List (Option Sum)
  sums_in no_expression = []
  sums_in (and_expression e es) = sum_in e ∷ sums_in es

-- the sum, where no other function follows, else the place of the part that isn't of the form
abbrev pub alone : Option Sum → Place → Definitions → Result Sum Place
alone None p ds = Err p
alone (Some e) p no_definition = Ok e
alone (Some e) p (and_definition q f r xs body ds) = Err q

-- the sum of the only function, or where the first part stands that isn't of the form; there is a function
abbrev pub sum_of_definitions : Definitions → Result Sum Place
sum_of_definitions no_definition = Ok (int_of (pos 0))
sum_of_definitions (and_definition p f q xs body ds) = if is_named f main then alone (sum_in body) (place_of body) ds else Err p

abbrev pub Finds : Result Sum Place → Result Sum SumRefusal → Type 0
Finds r (Ok e) = r ≡ Ok e
Finds r (Err (SumRefusal.NotYet p)) = r ≡ Err p
Finds r (Err SumRefusal.NotExported) = ⊥
Finds r (Err SumRefusal.Memory) = Unit {0}
