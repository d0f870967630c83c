-- The function of a call by the number of its name.
use Rattle.std.proofs.Common.{◌≡◌, ◌≢◌, ◌∙◌, ℕ, ◌<◌, ◌≤◌, Bool, true, false, cond, List, [], ◌∷◌, refl, sym, ap, arith, length, get_or, map, subst}
use Rattle.std.specs.Prelude.{◌&&◌, Option, Some, None, All, MatchOption, bytes_eq, nat_eq, nat_lt, slice_get, option_map, if◌then◌else◌}
use Rattle.std.specs.Bool.{one_answer}
use Rattle.std.specs.List.{IsDistinct, AllPairs, position_or_len}
use Rattle.std.proofs.lemmas.Bool.Decides.{Decides-eqb, nat_tests}
use Rattle.std.proofs.lemmas.List.Quantifiers.{position-Some}
use Rattle.std.proofs.lemmas.List.Sums.{fails_before_first}
use Rattle.std.proofs.lemmas.Map.Made.{AllPairs-from_IsDistinct}
use Rattle.std.proofs.lemmas.Slice.Eq.{bytes_eq-Decides}
use Rattle.std.proofs.lemmas.Option.{get_or_from_slice_get, slice_get-map, slice_get_within}
use Rattle.image_link.specs.declared.image.Function.{Function}
use Rattle.image_link.specs.Atoms.{Atoms, number_of}
use Rattle.image_link.specs.Image.{ProgramImage, IsImage, entry_of}
use Rattle.image_link.specs.Names.{IsEntry}
use Rattle.image_load.specs.Entry.{has_number, is_numbered, exported_numbered}
use Rattle.image_load.specs.Loading.{has_name, is_called, exported}

-- ---- the names of functions

pub entry_at : (n : ℕ) (fs : List Function) (i : ℕ) (f : Function) → All (IsEntry n) (map entry_of fs) → slice_get fs i ≡ Some f → IsEntry n (entry_of f)
entry_at n fs i f all e =
    let there : slice_get (map entry_of fs) i ≡ Some (entry_of f) = slice_get-map entry_of fs i ∙ ap (option_map entry_of) e in
    subst (IsEntry n) (get_or_from_slice_get (map entry_of fs) i (entry_of f) (entry_of f) there) (all i (entry_of f) (slice_get_within (map entry_of fs) i (entry_of f) there))

name_within : (n : ℕ) (o : Option ℕ) (k c : ℕ) → o ≡ Some k → MatchOption o (Unit {0}) (λ name. (name < n) × (c ≡ 0)) → k < n
name_within n None k c e m = absurd (cc)
name_within n (Some j) k c e m =
    let same : j ≡ k = cc in
    subst (λ i. i < n) same m.0

-- the name of a definition is among the atoms
pub named : (n : ℕ) (f : Function) (k : ℕ) → f.name ≡ Some k → IsEntry n (entry_of f) → k < n
named n f k e entry = name_within n f.name k f.captured e entry.name

-- ---- the number of a name

-- in a table of atoms an atom that has a number is at this number alone
pub tells_number : (atoms : Atoms) (name : List ℕ) (number n : ℕ) → IsDistinct bytes_eq atoms → number_of name atoms ≡ Some number → n < length atoms → bytes_eq name (get_or atoms n []) ≡ nat_eq number n
tells_number atoms name number n distinct e within =
    one_answer (bytes_eq name (get_or atoms n [])) (nat_eq number n) (λ h. only ((bytes_eq-Decides name (get_or atoms n [])).0 h), λ same. (bytes_eq-Decides name (get_or atoms n [])).1 (here ∙ ap (λ k. get_or atoms k []) same)) (Decides-eqb number n)
  where
    found : (number < length atoms) × (bytes_eq name (get_or atoms number []) ≡ true) × ((k : ℕ) → k < number → bytes_eq name (get_or atoms k []) ≡ false)
    found = position-Some (bytes_eq name) atoms number [] e

    here : name ≡ get_or atoms number []
    here = (bytes_eq-Decides name (get_or atoms number [])).0 found.1

    apart : AllPairs (λ x y. x ≢ y) atoms
    apart = AllPairs-from_IsDistinct bytes_eq-Decides atoms distinct

    only : name ≡ get_or atoms n [] → number ≡ n
    only there =
        let before : number < n → ⊥ = λ lower. apart number n [] lower within (sym here ∙ there) in
        let after : n < number → ⊥ = λ lower. apart n number [] lower found.0 (sym there ∙ here) in
        omega arith

past : (a b : ℕ) → nat_lt a b ≡ false → b ≤ a
past a b e = grind (arith, nat_tests)

none_passes : (b : Bool) (k : ℕ) → cond b (Some k) None ≡ None → b ≡ false
none_passes true k e = cc
none_passes false k e = refl

-- an atom that has no number is nowhere in the table
pub tells_none : (atoms : Atoms) (name : List ℕ) (n : ℕ) → number_of name atoms ≡ None → n < length atoms → bytes_eq name (get_or atoms n []) ≡ false
tells_none atoms name n e within =
    let far : length atoms ≤ position_or_len (bytes_eq name) atoms = past _ _ (none_passes _ _ e) in
    fails_before_first (bytes_eq name) atoms n [] (omega arith)

-- ---- the function of a call

same_name : (atoms : Atoms) (name : List ℕ) (number c : ℕ) (o : Option ℕ) → IsDistinct bytes_eq atoms → number_of name atoms ≡ Some number → MatchOption o (Unit {0}) (λ k. (k < length atoms) × (c ≡ 0))
    → has_name atoms name o ≡ has_number number o
same_name atoms name number c None distinct e m = refl
same_name atoms name number c (Some k) distinct e m = tells_number atoms name number k distinct e m.0

no_name : (atoms : Atoms) (name : List ℕ) (c : ℕ) (o : Option ℕ) → number_of name atoms ≡ None → MatchOption o (Unit {0}) (λ k. (k < length atoms) × (c ≡ 0)) → has_name atoms name o ≡ false
no_name atoms name c None e m = refl
no_name atoms name c (Some k) e m = tells_none atoms name k e m.0

same_call : (image : ProgramImage) (name : List ℕ) (number arity i : ℕ) (o : Option Function) → IsImage image → number_of name image.atoms ≡ Some number → slice_get image.functions i ≡ o
    → is_called image.atoms name arity o ≡ is_numbered number arity o
same_call image name number arity i None rules e s = refl
same_call image name number arity i (Some f) rules e s =
    ap (λ b. b && nat_eq f.arity arity) (same_name image.atoms name number f.captured f.name rules.names.atoms.distinct e (entry_at (length image.atoms) image.functions i f rules.names.entries s).name)

no_call : (image : ProgramImage) (name : List ℕ) (arity i : ℕ) (o : Option Function) → IsImage image → number_of name image.atoms ≡ None → slice_get image.functions i ≡ o → is_called image.atoms name arity o ≡ false
no_call image name arity i None rules e s = refl
no_call image name arity i (Some f) rules e s =
    ap (λ b. b && nat_eq f.arity arity) (no_name image.atoms name f.captured f.name e (entry_at (length image.atoms) image.functions i f rules.names.entries s).name)

-- where the name has a number, the function is found by it
pub found_by_number : (image : ProgramImage) (name : List ℕ) (number arity : ℕ) (exports : List ℕ) → IsImage image → number_of name image.atoms ≡ Some number
    → exported_numbered image.functions number arity exports ≡ exported image name arity exports
found_by_number image name number arity [] rules e = refl
found_by_number image name number arity (i ∷ is) rules e =
    ap (λ b. if b then slice_get image.functions i else exported_numbered image.functions number arity is) (sym (same_call image name number arity i (slice_get image.functions i) rules e refl))
    ∙ ap (λ o. if is_called image.atoms name arity (slice_get image.functions i) then slice_get image.functions i else o) (found_by_number image name number arity is rules e)

-- where it has none, there is no such function
pub none_by_name : (image : ProgramImage) (name : List ℕ) (arity : ℕ) (exports : List ℕ) → IsImage image → number_of name image.atoms ≡ None → exported image name arity exports ≡ None
none_by_name image name arity [] rules e = refl
none_by_name image name arity (i ∷ is) rules e =
    ap (λ b. if b then slice_get image.functions i else exported image name arity is) (no_call image name arity i (slice_get image.functions i) rules e refl)
    ∙ none_by_name image name arity is rules e
