-- The rules of names: what keeps them.
use Rattle.std.proofs.Common.{◌≡◌, ◌∙◌, ◌+◌, ◌<◌, ◌≤◌, ◌^◌, ◌++◌, ℕ, List, [], ◌∷◌, Option, None, Some, All, MatchOption, refl, sym, ap, subst, arith, length, length-append, slice_get, ◌⊎◌, inl, inr}
use Rattle.std.proofs.lemmas.List.{get_or_append_left}
use Rattle.std.specs.Prelude.{IsSome, IsSomeAnd}
use Rattle.std.proofs.lemmas.List.Elements.{All-append, All-nil, All-cons, All-head, All-tail}
use Rattle.std.proofs.lemmas.Option.{get_or_from_slice_get, slice_get-get_or, slice_get_within}
use Rattle.image_link.specs.declared.names.FunctionEntry.{FunctionEntry}
use Rattle.image_link.specs.Atoms.{Atoms, IsAtomTable}
use Rattle.image_link.specs.Names.{ProgramNames, AreNames, Ascends, DefinitionsFirst, IsDefinition, IsEntry, IsFun, NamesDefinition, with_export, with_function}

pub all_of : {X : Type 0} {P Q : X → Type 0} (xs : List X) → ((x : X) → P x → Q x) → All P xs → All Q xs
all_of xs step all = λ k d below. step _ (all k d below)

pub all_one : {X : Type 0} (P : X → Type 0) (x : X) → P x → All P (x ∷ [])
all_one P x is = All-cons P x [] is (All-nil P)

-- more atoms than before
more_atoms : (a b : ℕ) → a ≤ b → (f : FunctionEntry) → IsEntry a f → IsEntry b f
more_atoms a b le f entry = record { name = step f.name entry.name; arity = entry.arity; captured = entry.captured }
  where
    step : (name : Option ℕ) → MatchOption name (Unit {0}) (λ n. (n < a) × (f.captured ≡ 0)) → MatchOption name (Unit {0}) (λ n. (n < b) × (f.captured ≡ 0))
    step None is = tt
    step (Some n) is = (omega (arith, le, is.0), is.1)

pub with_more_atoms : (n : ProgramNames) (atoms : Atoms) → AreNames n → IsAtomTable atoms → length n.atoms ≤ length atoms
    → AreNames (record n { atoms = atoms })
with_more_atoms n atoms rules table more = record {
  atoms = table;
  module_atom = omega (arith, rules.module_atom, more);
  entries = all_of n.functions (more_atoms (length n.atoms) (length atoms) more) rules.entries;
  order = rules.order;
  count = rules.count;
  exports = rules.exports;
  ascending = rules.ascending;
}

fun_or_definition : (f : FunctionEntry) → IsFun f ⊎ IsDefinition f
fun_or_definition f = step f.name
  where
    step : (name : Option ℕ) → (name ≡ None) ⊎ IsSome name
    step None = inl refl
    step (Some n) = inr refl

no_fun : (f : FunctionEntry) → IsFun f → IsDefinition f → ⊥
no_fun f fun definition = let h : IsSome {T = ℕ} None = subst IsSome fun definition in cc

-- a function goes last
order_with : (f : FunctionEntry) (fs : List FunctionEntry) → DefinitionsFirst fs → (IsDefinition f → All IsDefinition fs)
    → DefinitionsFirst (fs ++ f ∷ [])
order_with f [] order definition = (λ _. All-nil IsFun, tt)
order_with f (g ∷ gs) order definition = (
  λ fun. All-append IsFun gs (f ∷ []) (order.0 fun) (all_one IsFun f (last fun (fun_or_definition f))),
  order_with f gs order.1 (λ is. All-tail IsDefinition g gs (definition is)),
)
  where
    last : IsFun g → IsFun f ⊎ IsDefinition f → IsFun f
    last fun (inl is) = is
    last fun (inr is) = absurd (no_fun g fun (All-head IsDefinition g gs (definition is)))

-- a definition keeps its number
named_more : (f : FunctionEntry) (fs : List FunctionEntry) (k : ℕ) → NamesDefinition fs k → NamesDefinition (fs ++ f ∷ []) k
named_more f fs k = step (slice_get fs k) refl
  where
    step : (o : Option FunctionEntry) → slice_get fs k ≡ o → IsSomeAnd o IsDefinition → NamesDefinition (fs ++ f ∷ []) k
    step None is definition = absurd definition
    step (Some g) is definition =
        let below : k < length fs = slice_get_within fs k g is in
        let within : k < length (fs ++ f ∷ []) = omega (arith, below, length-append fs (f ∷ [])) in
        let there : slice_get (fs ++ f ∷ []) k ≡ Some g =
        slice_get-get_or (fs ++ f ∷ []) k g within
        ∙ ap (λ x. Some x) (get_or_append_left fs (f ∷ []) g k below ∙ get_or_from_slice_get fs k g g is) in
        subst (λ o. IsSomeAnd o IsDefinition) (sym there) definition

pub with_function_rules : (n : ProgramNames) (f : FunctionEntry) → AreNames n → IsEntry (length n.atoms) f
    → (IsDefinition f → All IsDefinition n.functions) → length n.functions + 1 < 2 ^ 32 → AreNames (with_function f n)
with_function_rules n f rules entry order few = record {
  atoms = rules.atoms;
  module_atom = rules.module_atom;
  entries = All-append (IsEntry (length n.atoms)) n.functions (f ∷ []) rules.entries (all_one (IsEntry (length n.atoms)) f entry);
  order = order_with f n.functions rules.order order;
  count = rw (length-append n.functions (f ∷ [])) few;
  exports = all_of n.exports (named_more f n.functions) rules.exports;
  ascending = rules.ascending;
}

-- a number above all others goes last
ascends_with : (x : ℕ) (xs : List ℕ) → Ascends xs → All (λ y. y < x) xs → Ascends (xs ++ x ∷ [])
ascends_with x [] ascends below = (All-nil (λ m. x < m), tt)
ascends_with x (y ∷ ys) ascends below = (
  All-append (λ m. y < m) ys (x ∷ []) ascends.0 (all_one (λ m. y < m) x (All-head (λ z. z < x) y ys below)),
  ascends_with x ys ascends.1 (All-tail (λ z. z < x) y ys below),
)

pub with_export_rules : (n : ProgramNames) (k : ℕ) → AreNames n → NamesDefinition n.functions k → All (λ e. e < k) n.exports
    → AreNames (with_export k n)
with_export_rules n k rules definition order = record {
  atoms = rules.atoms;
  module_atom = rules.module_atom;
  entries = rules.entries;
  order = rules.order;
  count = rules.count;
  exports = All-append (NamesDefinition n.functions) n.exports (k ∷ []) rules.exports (all_one (NamesDefinition n.functions) k definition);
  ascending = ascends_with k n.exports rules.ascending order;
}
