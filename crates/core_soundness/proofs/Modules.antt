-- Each function of a good module is good, and so is each that it exports.
use Rattle.std.proofs.Common.{◌≡◌, ℕ, suc, ◌+◌, List, [], ◌++◌, Option, Some, None, refl, sym, ◌∙◌, subst, arith}
use Rattle.std.specs.Prelude.{Bool, true, false, if◌then◌else◌, length, slice_get}
use Rattle.std.specs.List.{list_any}
use Rattle.core_ast.specs.declared.tree.FunName.{FunName}
use Rattle.core_ast.specs.Trees.{Definitions, no_definition, and_definition, Module}
use Rattle.core_ast.specs.Names.{Names, is_named, with_variables}
use Rattle.core_ast.specs.Parts.{names_of}
use Rattle.core_ast.specs.Good.{IsGood}
use Rattle.core_meaning.specs.Scopes.{Scope, names, binding, count_definitions, function_names, funs}
use Rattle.core_meaning.specs.Procedures.{Procedure, Program, procedures, known_from, module_scope, own_procedures, inner_procedures, program_of}
use Rattle.core_meaning.specs.Meaning.{number_among, exported}
use Rattle.core_soundness.proofs.Basics.{some_same, not_some}
use Rattle.core_soundness.proofs.Lists.{Each, each_append, each_get}
use Rattle.core_soundness.proofs.Scopes.{SlotsBelow, Stands, EachStands, arity_named}
use Rattle.core_soundness.proofs.Fine.{FineDefinitions, module_fine}
use Rattle.core_soundness.proofs.Captured.{module_covers}
use Rattle.core_soundness.proofs.Numbers.{length_own, Placed, placed_left, placed_right, placed_head, placed_tail, placed_behind}
use Rattle.core_soundness.proofs.Functions.{length_names, Sited, binding_sited, GoodProcedure, defined_good, good}

module _ (program : Program) where
  own_stand : (n : Names) (s : Scope) (i j : ℕ) (ds : Definitions) → FineDefinitions n ds → Placed program i (own_procedures s j ds) → Each (EachStands program) (known_from i ds)
  own_stand n s i j no_definition f p = tt
  own_stand n s i j (and_definition a g q xs b ds) f p =
      let first : Procedure = record { parameters = names xs; body = b; scope = s; captured = 0; first = j } in
      let others = own_procedures s (j + funs b) ds in
      (record { procedure = first; found = placed_head program i first others p; captured = refl; parameters = length_names xs ∙ f.0 }, own_stand n s (suc i) (j + funs b) ds f.3 (placed_tail program i first others p))

  own_below : (i : ℕ) (ds : Definitions) → Each (SlotsBelow 0) (known_from i ds)
  own_below i no_definition = tt
  own_below i (and_definition a g q xs b ds) = (tt, own_below (suc i) ds)

  own_good : (n : Names) (s : Scope) (j : ℕ) (ds : Definitions) → FineDefinitions n ds → Sited program n s 0 → Placed program j (inner_procedures s j ds) → Each (GoodProcedure program) (own_procedures s j ds)
  own_good n s j no_definition f w p = tt
  own_good n s j (and_definition a g q xs b ds) f w p =
      let ps = procedures (binding 0 (names xs) s) (length xs) j b in
      let qs = inner_procedures s (j + funs b) ds in
      let e : length xs ≡ 0 + length xs = omega arith in (
        defined_good program n s 0 j xs b f.1 f.2 w (subst (λ m. Placed program j (procedures (binding 0 (names xs) s) m j b)) e (placed_left program j ps qs p)),
        own_good n s (j + funs b) ds f.3 w (placed_behind program (binding 0 (names xs) s) (length xs) j b qs p),
      )

  inner_good : (n : Names) (s : Scope) (j : ℕ) (ds : Definitions) → FineDefinitions n ds → Sited program n s 0 → Placed program j (inner_procedures s j ds) → Each (GoodProcedure program) (inner_procedures s j ds)
  inner_good n s j no_definition f w p = tt
  inner_good n s j (and_definition a g q xs b ds) f w p =
      let t = binding 0 (names xs) s in
      let ps = procedures t (length xs) j b in
      let qs = inner_procedures s (j + funs b) ds in
      let e : 0 + length xs ≡ length xs = omega arith in
      each_append (GoodProcedure program) ps qs
      (good program (with_variables xs n) t (length xs) j b f.2 (subst (Sited program (with_variables xs n) t) e (binding_sited program n s 0 xs w)) (placed_left program j ps qs p))
      (inner_good n s (j + funs b) ds f.3 w (placed_behind program t (length xs) j b qs p))

  -- ---- exported functions

  number_stands : (i n : ℕ) (f g : FunName) (b : Bool) (o : Option ℕ) → is_named f g ≡ b → Stands program g (record { number = i; captured = [] }) → (o ≡ Some n → Stands program f (record { number = n; captured = [] }))
      → (if b then Some i else o) ≡ Some n → Stands program f (record { number = n; captured = [] })
  number_stands i n f g true o named h others is =
      subst (λ j. Stands program f (record { number = j; captured = [] })) (some_same i n is)
      (record { procedure = h.procedure; found = h.found; captured = h.captured; parameters = h.parameters ∙ sym (arity_named f g named) })
  number_stands i n f g false o named h others is = others is

  among_stands : (i n : ℕ) (f : FunName) (ds : Definitions) → Each (EachStands program) (known_from i ds) → number_among i f (function_names ds) ≡ Some n → Stands program f (record { number = n; captured = [] })
  among_stands i n f no_definition h is = absurd (not_some is)
  among_stands i n f (and_definition a g q xs b ds) h is = number_stands i n f g (is_named f g) (number_among (suc i) f (function_names ds)) refl h.0 (λ is. among_stands (suc i) n f ds h.1 is) is

pub if_there : (b : Bool) (o : Option ℕ) (n : ℕ) → (if b then o else None) ≡ Some n → o ≡ Some n
if_there true o n is = is
if_there false o n is = absurd (not_some is)

module _ (m : Module) (is_good : IsGood m) where
  abbrev program : Program
  program = program_of m

  abbrev scope : Scope
  scope = module_scope m.definitions

  abbrev first : ℕ
  first = count_definitions m.definitions

  abbrev own : List Procedure
  own = own_procedures scope first m.definitions

  abbrev inner : List Procedure
  inner = inner_procedures scope first m.definitions

  all_placed : Placed program 0 (own ++ inner)
  all_placed = record { at = λ i f is. let e : i ≡ 0 + i = omega arith in subst (λ j. slice_get program.procedures j ≡ Some f) e is }

  own_placed : Placed program 0 own
  own_placed = placed_left program 0 own inner all_placed

  inner_placed : Placed program first inner
  inner_placed = let e : 0 + first ≡ first = omega arith in subst (λ j. Placed program j inner) e (placed_right program 0 first own inner (length_own scope first m.definitions) all_placed)

  all_fine : FineDefinitions (names_of m) m.definitions
  all_fine = module_fine m is_good

  all_stand : Each (EachStands program) (known_from 0 m.definitions)
  all_stand = own_stand program (names_of m) scope 0 first m.definitions all_fine own_placed

  sited : Sited program (names_of m) scope 0
  sited = record { covers = module_covers m.definitions; in_force = record { below = record { variables = tt; functions = own_below program 0 m.definitions }; stand = all_stand } }

  all_good : Each (GoodProcedure program) (own ++ inner)
  all_good =
      each_append (GoodProcedure program) own inner (own_good program (names_of m) scope first m.definitions all_fine sited inner_placed) (inner_good program (names_of m) scope first m.definitions all_fine sited inner_placed)

  -- each function of the module is good
  pub module_good : (n : ℕ) (f : Procedure) → slice_get program.procedures n ≡ Some f → GoodProcedure program f
  module_good n f is = each_get (GoodProcedure program) program.procedures n f all_good is

  -- the number of an exported function names one with as many parameters, which captures nothing
  pub exported_stands : (f : FunName) (n : ℕ) → exported program f ≡ Some n → Stands program f (record { number = n; captured = [] })
  exported_stands f n is = among_stands program 0 n f m.definitions all_stand (if_there (list_any (λ g. is_named f g) program.exports) (number_among 0 f program.own) n is)
