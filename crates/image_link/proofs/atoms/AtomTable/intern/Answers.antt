use Rattle.std.proofs.Common.{◌≡◌, ◌∙◌, ◌<◌, ◌+◌, ◌^◌, ◌++◌, ◌∷◌, [], All, ap, sym, subst, bytes_eq, length, length-append, append-nil, arith}
use Rattle.std.proofs.lemmas.Str.{chars_from_encodes}
use Rattle.std.specs.Char.{IsScalar}
use Rattle.std.specs.List.{IsDistinct, list_any}
use Rattle.image_link.specs.Atoms.{IsAtomTable, atoms_of, interned, number_in}
use Rattle.image_link.proofs.Texts.{characters, number_from, new_last, new_number, stands_in, interned_known, table_with}
use Rattle.image_link.proofs.atoms.AtomTable.intern.Goals as goal

pub returns-in-Some-clause-number : goal.returns-in-Some-clause-number
returns-in-Some-clause-number c =
    number_from c.args.atom.now c.as_str.result.now c.as_str.utf8 c.as_str.ensures c.self.inside.texts.keys c.in-Some.at c.in-Some.ensures.index
    ∙ ap (number_in c.args.atom.now) c.self.view_is

pub returns-in-Some-clause-ok : goal.returns-in-Some-clause-ok
returns-in-Some-clause-ok c = interned_known c.args.atom.now c.args.self.now (
    ap (list_any (bytes_eq c.args.atom.now)) (sym c.self.view_is)
    ∙ sym (stands_in c.args.atom.now c.as_str.result.now c.as_str.utf8 c.as_str.ensures c.self.inside.texts.keys)
    ∙ sym c.in-Some.ensures.found)

-- the atoms after the insertion
interned_is : (c : goal.In_ok-insert) → atoms_of c.insert.new.texts.keys ≡ interned c.args.atom.now (atoms_of c.self.inside.texts.keys)
interned_is c =
    c.in_ok-insert.ensures.ok
    ∙ ap (λ atom. interned atom (atoms_of c.self.inside.texts.keys)) (sym (chars_from_encodes c.args.atom.now c.as_str-2.result.now c.as_str-2.utf8 (sym c.as_str-2.ensures)))

last : (c : goal.In_ok-insert) → atoms_of c.insert.new.texts.keys ≡ atoms_of c.self.inside.texts.keys ++ c.args.atom.now ∷ []
last c = interned_is c
    ∙ new_last c.args.atom.now c.as_str.result.now c.as_str.utf8 c.as_str.ensures c.self.inside.texts.keys c.in_default.ensures.found

pub invariant_of-self-2 : goal.invariant_of-self-2
invariant_of-self-2 c =
    let few : length (atoms_of c.self.inside.texts.keys) + 1 < 2 ^ 32 =
    omega (arith, c.len-at.ensures.len, ap length c.self.view_is, c.if-at.false, c.self.invariant.count) in
    subst IsAtomTable (sym (last c)) (table_with c.args.atom.now (atoms_of c.self.inside.texts.keys) c.self.invariant c.keeps_limit.ensures few
    (subst (IsDistinct bytes_eq) (last c) c.in_ok-insert.ensures.distinct)
    (subst (All (All IsScalar)) (last c) (characters c.insert.new.texts.keys)))

pub returns-clause-number : goal.returns-clause-number
returns-clause-number c =
    c.len-at.ensures.len
    ∙ ap length (sym c.self.view_is)
    ∙ sym (new_number c.args.atom.now c.as_str.result.now c.as_str.utf8 c.as_str.ensures c.self.inside.texts.keys c.in_default.ensures.found)
    ∙ ap (number_in c.args.atom.now) c.self.view_is

pub returns-clause-ok : goal.returns-clause-ok
returns-clause-ok c = interned_is c ∙ ap (interned c.args.atom.now) c.self.view_is

pub returns-in-Some-clause-kept : goal.returns-in-Some-clause-kept
returns-in-Some-clause-kept c = ([], sym (append-nil c.args.self.now))

pub returns-in-Some-clause-rules : goal.returns-in-Some-clause-rules
returns-in-Some-clause-rules c = subst IsAtomTable c.self.view_is c.self.invariant

pub returns-clause-kept : goal.returns-clause-kept
returns-clause-kept c = (c.args.atom.now ∷ [], last c ∙ ap (λ atoms. atoms ++ c.args.atom.now ∷ []) c.self.view_is)

pub returns-clause-rules : goal.returns-clause-rules
returns-clause-rules c = invariant_of-self-2 c

pub returns-clause-within : goal.returns-clause-within
returns-clause-within c = omega (
  arith,
  c.len-at.ensures.len,
  ap length c.self.view_is,
  ap length (last c),
  length-append (atoms_of c.self.inside.texts.keys) (c.args.atom.now ∷ []),
)
