-- The attributes of a well-formed module.
use Rattle.std.proofs.Common.{◌≡◌, ℕ, true, List, [], ◌∷◌, All}
use Rattle.std.proofs.lemmas.List.Elements.{All-nil, All-cons}
use Rattle.hipe_terms.specs.declared.constant.Constant.{Constant}
use Rattle.hipe_terms.specs.Constants.{form_of, IsConstant}
use Rattle.hipe_terms.proofs.Parts.{and_first, and_second}
use Rattle.core_ast.specs.Trees.{Module}
use Rattle.core_ast.specs.WellFormed.{well_formed_definitions, well_formed_attributes, IsWellFormed}

constants : (attributes : List (List ℕ × Constant)) → well_formed_attributes attributes ≡ true → All (λ a. IsConstant a.1) attributes
constants [] e = All-nil (λ a. IsConstant a.1)
constants (a ∷ attributes) e = All-cons (λ a. IsConstant a.1) a attributes (and_first (form_of a.1).good (well_formed_attributes attributes) e) (constants attributes (and_second (form_of a.1).good (well_formed_attributes attributes) e))

-- their values are constants as every call wants them
pub attributes_are_constants : (m : Module) → IsWellFormed m → All (λ a. IsConstant a.1) m.attributes
attributes_are_constants m e = constants m.attributes (and_second (well_formed_definitions m.definitions) (well_formed_attributes m.attributes) e)
