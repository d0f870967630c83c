-- The atoms and the words of a constant, by what it is made of.
use Rattle.std.proofs.Common.{◌≡◌, map, refl, ◌∙◌}
use Rattle.hipe_terms.specs.declared.constant.Constant.{Constant, out-Constant}
use Rattle.hipe_terms.specs.declared.constant.Constant.TheOpen.{Constant-F}
use Rattle.hipe_terms.specs.declared.constant.Constant.TheFolds.{fold_out-Constant, fold-Constant, map-Constant}
use Rattle.hipe_terms.specs.declared.constant.Constant.TheViews.{the_lemmas}
use Rattle.hipe_terms.proofs.Levels.{words_is}
use Rattle.image_link.specs.Atoms.{Atoms, interned}
use Rattle.image_load.specs.Loading.{all_interned, interned_at, with_atoms_of}

abbrev pub level_atoms : Constant-F Constant → Atoms → Atoms
level_atoms (Constant-F.Int n) atoms = atoms
level_atoms (Constant-F.Atom a) atoms = interned a atoms
level_atoms Constant-F.Nil atoms = atoms
level_atoms (Constant-F.List cs c) atoms = with_atoms_of c (all_interned (map with_atoms_of cs) atoms)
level_atoms (Constant-F.Tuple cs) atoms = all_interned (map with_atoms_of cs) atoms

atoms_level : (l : Constant-F Constant) → interned_at (map-Constant Constant (Atoms → Atoms) (fold-Constant (Atoms → Atoms) interned_at) l) ≡ level_atoms l
unfolding with_atoms_of
atoms_level (Constant-F.Int n) = refl
atoms_level (Constant-F.Atom a) = refl
atoms_level Constant-F.Nil = refl
atoms_level (Constant-F.List cs c) = refl
atoms_level (Constant-F.Tuple cs) = refl

pub atoms_is : (c : Constant) → with_atoms_of c ≡ level_atoms (out-Constant c)
unfolding with_atoms_of
atoms_is c = fold_out-Constant (Atoms → Atoms) interned_at c ∙ atoms_level (out-Constant c)

pub ruleset levels = (the_lemmas, atoms_is, words_is)
