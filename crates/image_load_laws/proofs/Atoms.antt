-- The atoms of the call are in the table once they are interned.
use Rattle.std.proofs.Common.{◌≡◌, ℕ, suc, Bool, true, false, List, [], ◌∷◌, ◌++◌, refl, sym, subst, arith, map}
use Rattle.std.specs.Prelude.{All, Contains, bytes_eq, ◌||◌, if◌then◌else◌}
use Rattle.std.specs.List.{AllByRecursion, list_any}
use Rattle.std.proofs.lemmas.List.Elements.{All-from_recursion, Contains-append_left, Contains-push}
use Rattle.std.proofs.lemmas.Slice.Eq.{bytes_eq-Decides}
use Rattle.hipe_terms.specs.declared.constant.Constant.{Constant, roll-Constant}
use Rattle.hipe_terms.specs.declared.constant.Constant.TheOpen.{Constant-F}
use Rattle.hipe_terms.specs.declared.constant.Constant.TheFolds.{ind-Constant, map-Constant, fold-roll-Constant}
use Rattle.heap_terms_laws.specs.Constants.{joined, atoms_at, atoms_in, HasAtoms}
use Rattle.image_link.specs.Atoms.{Atoms, interned}
use Rattle.image_load.specs.Loading.{all_interned, interned_at, with_atoms_of}

-- ---- one atom

either : (p q : Bool) → (p || q) ≡ true → p ≡ false → q ≡ true
either true q e f = cc
either false q e f = e

next : (a b : List ℕ) (bs : Atoms) → Contains bs a → Contains (b ∷ bs) a
next a b bs (k, lower, is) = (suc k, omega arith, is)

first : (a b : List ℕ) (bs : Atoms) → a ≡ b → Contains (b ∷ bs) a
first a b bs e = (0, omega arith, sym e)

among : (a : List ℕ) (atoms : Atoms) → list_any (bytes_eq a) atoms ≡ true → Contains atoms a
among a [] e = cc
among a (b ∷ bs) e = at (bytes_eq a b) refl (λ is. among a bs (either (bytes_eq a b) (list_any (bytes_eq a) bs) e is))
  where
    at : (t : Bool) → bytes_eq a b ≡ t → (bytes_eq a b ≡ false → Contains bs a) → Contains (b ∷ bs) a
    at true is others = first a b bs ((bytes_eq-Decides a b).0 is)
    at false is others = next a b bs (others is)

has_interned : (a : List ℕ) (atoms : Atoms) → Contains (interned a atoms) a
has_interned a atoms = at (list_any (bytes_eq a) atoms) refl
  where
    at : (t : Bool) → list_any (bytes_eq a) atoms ≡ t → Contains (interned a atoms) a
    at true is = subst (λ b. Contains (if b then atoms else atoms ++ a ∷ []) a) (sym is) (among a atoms is)
    at false is = subst (λ b. Contains (if b then atoms else atoms ++ a ∷ []) a) (sym is) (Contains-push atoms a)

keeps_interned : (a : List ℕ) (atoms : Atoms) (b : List ℕ) → Contains atoms b → Contains (interned a atoms) b
keeps_interned a atoms b h = at (list_any (bytes_eq a) atoms) refl
  where
    at : (t : Bool) → list_any (bytes_eq a) atoms ≡ t → Contains (interned a atoms) b
    at true is = subst (λ t. Contains (if t then atoms else atoms ++ a ∷ []) b) (sym is) h
    at false is = subst (λ t. Contains (if t then atoms else atoms ++ a ∷ []) b) (sym is) (Contains-append_left atoms (a ∷ []) b h)

-- ---- the atoms of a constant

abbrev AllAmong : Atoms → List (List ℕ) → Type 0
AllAmong atoms names = AllByRecursion (Contains atoms) names

-- what was there stays, and the names are there
abbrev Keeps : Atoms → Atoms → Type 0
Keeps before after = (b : List ℕ) → Contains before b → Contains after b

abbrev Interns : (Atoms → Atoms) → List (List ℕ) → Type 0
Interns f names = (atoms : Atoms) → AllAmong (f atoms) names × Keeps atoms (f atoms)

still_among : (before after : Atoms) (names : List (List ℕ)) → Keeps before after → AllAmong before names → AllAmong after names
still_among before after [] keeps h = tt
still_among before after (a ∷ names) keeps h = (keeps a h.0, still_among before after names keeps h.1)

both_among : (atoms : Atoms) (names others : List (List ℕ)) → AllAmong atoms names → AllAmong atoms others → AllAmong atoms (names ++ others)
both_among atoms [] others h k = k
both_among atoms (a ∷ names) others h k = (h.0, both_among atoms names others h.1 k)

then_interns : (f g : Atoms → Atoms) (names others : List (List ℕ)) → Interns f names → Interns g others → Interns (λ atoms. g (f atoms)) (names ++ others)
then_interns f g names others h k atoms =
    let one = h atoms in
    let two = k (f atoms) in
    (both_among (g (f atoms)) names others (still_among (f atoms) (g (f atoms)) names two.1 one.0) two.0, λ b c. two.1 b (one.1 b c))

abbrev Claim : Constant → Type 0
Claim c = Interns (with_atoms_of c) (atoms_in c)

abbrev Claimed : Type 0
Claimed = (c : Constant) × Claim c

abbrev firsts : List Claimed → List Constant
firsts cs = map (λ c. c.0) cs

abbrev plain : Constant-F Claimed → Constant-F Constant
plain y = map-Constant Claimed Constant (λ c. c.0) y

parts_intern : (cs : List Claimed) → Interns (all_interned (map with_atoms_of (firsts cs))) (joined (map atoms_in (firsts cs)))
parts_intern [] = λ atoms. (tt, λ b h. h)
parts_intern (c ∷ cs) = then_interns (with_atoms_of c.0) (all_interned (map with_atoms_of (firsts cs))) (atoms_in c.0) (joined (map atoms_in (firsts cs))) c.1 (parts_intern cs)

level_interns : (y : Constant-F Claimed) → Interns (interned_at (map-Constant Constant (Atoms → Atoms) with_atoms_of (plain y))) (atoms_at (map-Constant Constant (List (List ℕ)) atoms_in (plain y)))
level_interns (Constant-F.Int n) = λ atoms. (tt, λ b h. h)
level_interns (Constant-F.Atom a) = λ atoms. ((has_interned a atoms, tt), keeps_interned a atoms)
level_interns Constant-F.Nil = λ atoms. (tt, λ b h. h)
level_interns (Constant-F.List cs d) = then_interns (all_interned (map with_atoms_of (firsts cs))) (with_atoms_of d.0) (joined (map atoms_in (firsts cs))) (atoms_in d.0) (parts_intern cs) d.1
level_interns (Constant-F.Tuple cs) = parts_intern cs

step : (y : Constant-F Claimed) → Claim (roll-Constant (plain y))
unfolding with_atoms_of atoms_in
step y =
    subst (λ f. Interns f (atoms_in (roll-Constant (plain y)))) (sym (fold-roll-Constant (Atoms → Atoms) interned_at (plain y)))
    (subst (Interns (interned_at (map-Constant Constant (Atoms → Atoms) with_atoms_of (plain y)))) (sym (fold-roll-Constant (List (List ℕ)) atoms_at (plain y))) (level_interns y))

pub constant_interns : (c : Constant) → Interns (with_atoms_of c) (atoms_in c)
constant_interns = ind-Constant Claim (λ x y is. subst (λ z. Claim (roll-Constant z)) is (step y))

-- ---- the atoms of several constants

still_has : (before after : Atoms) (c : Constant) → Keeps before after → AllAmong before (atoms_in c) → HasAtoms after c
still_has before after c keeps h = All-from_recursion (Contains after) (atoms_in c) (still_among before after (atoms_in c) keeps h)

all_keep : (cs : List Constant) (atoms : Atoms) → Keeps atoms (all_interned (map with_atoms_of cs) atoms)
all_keep [] atoms b h = h
all_keep (c ∷ cs) atoms b h = all_keep cs (with_atoms_of c atoms) b ((constant_interns c atoms).1 b h)

all_have : (cs : List Constant) (atoms : Atoms) → AllByRecursion (HasAtoms (all_interned (map with_atoms_of cs) atoms)) cs
all_have [] atoms = tt
all_have (c ∷ cs) atoms =
    (still_has (with_atoms_of c atoms) (all_interned (map with_atoms_of cs) (with_atoms_of c atoms)) c (all_keep cs (with_atoms_of c atoms)) (constant_interns c atoms).0, all_have cs (with_atoms_of c atoms))

-- each constant's atoms are there
pub atoms_there : (cs : List Constant) (atoms : Atoms) → All (HasAtoms (all_interned (map with_atoms_of cs) atoms)) cs
atoms_there cs atoms = All-from_recursion (HasAtoms (all_interned (map with_atoms_of cs) atoms)) cs (all_have cs atoms)
