use Rattle.std.proofs.Common.{◌≡◌, All, ap, refl, subst, sym, bytes_eq}
use Rattle.std.specs.Char.{IsScalar}
use Rattle.std.specs.List.{IsDistinct}
use Rattle.image_link.specs.Atoms.{IsAtomTable, atoms_of, first_atoms}
use Rattle.image_link.proofs.Texts.{characters, distinct_atoms, first_is, first_table}
use Rattle.image_link.proofs.atoms.AtomTable.new.Goals as goal

pub insert_all-requires : goal.insert_all-requires
insert_all-requires c = distinct_atoms c.new-texts.result.keys c.new-texts.ensures.unique

pub returns-clause-atoms : goal.returns-clause-atoms
returns-clause-atoms c = first_is (atoms_of c.insert_all.new.texts.keys) _ (atoms_of c.new-texts.result.keys) (ap atoms_of c.new-texts.ensures.empty) refl c.in_ok-insert_all.ensures.ok

pub invariant_of-result : goal.invariant_of-result
invariant_of-result c =
    let is : atoms_of c.insert_all.new.texts.keys ≡ first_atoms =
    first_is (atoms_of c.insert_all.new.texts.keys) _ (atoms_of c.new-texts.result.keys) (ap atoms_of c.new-texts.ensures.empty) refl c.in_ok-insert_all.ensures.ok in
    subst IsAtomTable (sym is) (first_table (subst (IsDistinct bytes_eq) is c.in_ok-insert_all.ensures.distinct)
    (subst (All (All IsScalar)) is (characters c.insert_all.new.texts.keys)))

pub returns-clause-rules : goal.returns-clause-rules
returns-clause-rules c = invariant_of-result c
