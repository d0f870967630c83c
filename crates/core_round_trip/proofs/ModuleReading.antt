-- Terminals of the kinds that a module is printed as are derived as a module that differs in places alone.
use Rattle.std.proofs.Common.{◌≡◌, ℕ, List, [], ◌∷◌, map, true, ap, ap₂, ◌∙◌}
use Rattle.hipe_terms.specs.declared.place.Place.{Place}
use Rattle.hipe_terms.specs.declared.constant.Constant.{Constant}
use Rattle.core_ast.specs.declared.tree.FunDef.{FunDef}
use Rattle.core_ast.specs.declared.tree.FunName.{FunName}
use Rattle.core_ast.specs.declared.tree.Module.{Module}
use Rattle.core_ast.specs.Trees as T
use Rattle.core_ast.specs.SameTree.{placeless_export, placeless_definitions, placeless_module}
use Rattle.core_ast.specs.WellFormed.{well_formed_attributes}
use Rattle.core_grammar.specs.declared.terminal.Kind.{Kind}
use Rattle.core_grammar.specs.declared.terminal.Mark.{Mark}
use Rattle.core_grammar.specs.declared.terminal.Terminal.{Terminal}
use Rattle.core_grammar.specs.Leave.{mark}
use Rattle.core_grammar.specs.Language.{limit, Derives}
use Rattle.core_grammar.specs.Grammar as G
use Rattle.core_round_trip.proofs.TreeKinds.{Kinds, nothing, next, attributes_kinds, definitions_kinds, module_kinds}
use Rattle.core_round_trip.specs.Fits.{ModuleFits}
use Rattle.core_round_trip.proofs.Made.{plain_definitions}
use Rattle.core_round_trip.proofs.Readings.{ReadingTo, up_to, SameExports, exports_reading}
use Rattle.core_round_trip.proofs.ConstantReading.{attributes_reading}
use Rattle.core_round_trip.proofs.ExpressionReading.{SameDefinitions, definitions_reading}

module _ (n : ℕ) where
  -- a module that is derived, and is equal to this one but for places
  abbrev pub ModuleReading : T.Module → List Terminal → Type 0
  ModuleReading m ts = (o : Module) × Derives (limit n) ts o × (placeless_module (T.module_of o) ≡ placeless_module m)

  abbrev Exports : List (FunName × Place) → List Kind → List Terminal → Type 0
  Exports es ks ts = ReadingTo (List (FunName × Place)) (G.ListOf (FunName × Place) (G.ExportOf (limit n))) (SameExports (limit n) es) (Kind.Mark Mark.CloseSquare) ks ts

  abbrev Attributes : List (List ℕ × Constant) → List Kind → List Terminal → Type 0
  Attributes as' ks ts = ReadingTo (List (List ℕ × Constant)) (G.ListOf (List ℕ × Constant) (G.AttributeOf (limit n))) (λ bs. bs ≡ as') (Kind.Mark Mark.CloseSquare) ks ts

  abbrev Definitions : T.Definitions → List Kind → List Terminal → Type 0
  Definitions ds ks ts = ReadingTo (List FunDef) (G.DefinitionsOf (limit n) 1) (SameDefinitions ds) (Kind.Mark Mark.End) ks ts

  same : (m : T.Module) (es : List (FunName × Place)) (as' : List (List ℕ × Constant)) (ds : List FunDef) → SameExports (limit n) m.exports es → as' ≡ m.attributes → SameDefinitions m.definitions ds
      → placeless_module (T.module_of (G.module_at m.name es as' ds)) ≡ placeless_module m
  same m es as' ds e f g =
      ap₂ (λ x y. record { name = m.name; exports = x; attributes = y; definitions = placeless_definitions (plain_definitions ds) }) e f
      ∙ ap (λ x. record { name = m.name; exports = map placeless_export m.exports; attributes = m.attributes; definitions = x }) g

  ends : (m : T.Module) (p q r s t u v w : Place) (ts us vs ws : List Terminal) (es : List (FunName × Place)) (as' : List (List ℕ × Constant)) (ds : List FunDef)
      → G.ListOf (FunName × Place) (G.ExportOf (limit n)) es ts (mark Mark.CloseSquare s ∷ mark Mark.Attributes t ∷ mark Mark.OpenSquare u ∷ us) → SameExports (limit n) m.exports es
      → G.ListOf (List ℕ × Constant) (G.AttributeOf (limit n)) as' us (mark Mark.CloseSquare v ∷ vs) → as' ≡ m.attributes
      → G.DefinitionsOf (limit n) 1 ds vs (mark Mark.End w ∷ ws) → SameDefinitions m.definitions ds
      → Kinds [] ws → ModuleReading m (mark Mark.Module p ∷ Rattle.core_grammar.specs.Leave.token (Kind.Atom m.name) q ∷ mark Mark.OpenSquare r ∷ ts)
  ends m p q r s t u v w ts us vs ws es as' ds d e f g i j nothing = (G.module_at m.name es as' ds, G.bare (G.«module» m.name p q r s t u v w d f i), same m es as' ds e g j)

  from_attributes : (m : T.Module) (p q r s : Place) (ts xs : List Terminal) (es : List (FunName × Place)) → well_formed_attributes m.attributes ≡ true → ModuleFits n m
      → G.ListOf (FunName × Place) (G.ExportOf (limit n)) es ts (mark Mark.CloseSquare s ∷ xs) → SameExports (limit n) m.exports es
      → Kinds (Kind.Mark Mark.Attributes ∷ Kind.Mark Mark.OpenSquare ∷ attributes_kinds m.attributes (Kind.Mark Mark.CloseSquare ∷ definitions_kinds m.definitions (Kind.Mark Mark.End ∷ []))) xs
      → ModuleReading m (mark Mark.Module p ∷ Rattle.core_grammar.specs.Leave.token (Kind.Atom m.name) q ∷ mark Mark.OpenSquare r ∷ ts)
  from_attributes m p q r s ts xs es good fit d e (next t (next {ts = us} u h)) =
      let a : Attributes m.attributes (definitions_kinds m.definitions (Kind.Mark Mark.End ∷ [])) us = up_to (attributes_reading n m.attributes (Kind.Mark Mark.CloseSquare ∷ definitions_kinds m.definitions (Kind.Mark Mark.End ∷ [])) us good fit.2 h) in
      let b : Definitions m.definitions [] a.rest = up_to (definitions_reading n 1 m.definitions (Kind.Mark Mark.End ∷ []) a.rest fit.3 a.behind) in
      ends m p q r s t u a.at b.at ts us a.rest b.rest es a.tree b.tree d e a.derived a.same b.derived b.same b.behind

  pub module_reading : (m : T.Module) (ts : List Terminal) → well_formed_attributes m.attributes ≡ true → ModuleFits n m → Kinds (module_kinds m) ts → ModuleReading m ts
  module_reading m ts good fit (next p (next q (next {ts = us} r h))) =
      let ks = Kind.Mark Mark.Attributes ∷ Kind.Mark Mark.OpenSquare ∷ attributes_kinds m.attributes (Kind.Mark Mark.CloseSquare ∷ definitions_kinds m.definitions (Kind.Mark Mark.End ∷ [])) in
      let x : Exports m.exports ks us = up_to (exports_reading (limit n) m.exports (Kind.Mark Mark.CloseSquare ∷ ks) us h) in
      from_attributes m p q r x.at us x.rest x.tree good fit x.derived x.same x.behind
