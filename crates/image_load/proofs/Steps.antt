-- The steps of a loop over functions.
use Rattle.std.proofs.Common.{◌≡◌, ◌∙◌, ◌+◌, ◌<◌, ◌*◌, ℕ, List, [], ◌∷◌, ◌++◌, refl, sym, ap, arith, append_assoc, append-nil, length, get_or, drop}
use Rattle.std.specs.Prelude.{Some, None}
use Rattle.std.proofs.lemmas.List.{at_drop_more}
use Rattle.hipe_terms.specs.Shown.{Names}
use Rattle.image_link.specs.declared.image.Function.{Function}
use Rattle.image_link.specs.Atoms.{Atoms}
use Rattle.image_load.specs.Loading.{definition_before, definitions_of, table_of}

-- two words for each function
pub table_length : (fs : List Function) → length (table_of fs) ≡ 2 * length fs
table_length [] = refl
table_length (f ∷ fs) =
    let others = table_length fs in
    omega arith

-- ---- the names of definitions

pub next_definition : (atoms : Atoms) (fs : List Function) (i : ℕ) (d : Function) (k : ℕ) (names : Names) → i < length fs → (get_or fs i d).name ≡ Some k
    → (names ++ (get_or atoms k [], (get_or fs i d).arity) ∷ []) ++ definitions_of atoms (drop (i + 1) fs) ≡ names ++ definitions_of atoms (drop i fs)
next_definition atoms fs i d k names lower e =
    append_assoc names ((get_or atoms k [], (get_or fs i d).arity) ∷ []) (definitions_of atoms (drop (i + 1) fs))
    ∙ ap (λ o. names ++ definition_before atoms o (get_or fs i d).arity (definitions_of atoms (drop (i + 1) fs))) (sym e)
    ∙ ap (λ ds. names ++ ds) (sym (at_drop_more (definitions_of atoms) fs i d lower))

-- behind the first fun there is none
pub last_definition : (atoms : Atoms) (fs : List Function) (i : ℕ) (d : Function) (names : Names) → i < length fs → (get_or fs i d).name ≡ None
    → names ≡ names ++ definitions_of atoms (drop i fs)
last_definition atoms fs i d names lower e =
    sym (append-nil names)
    ∙ ap (λ o. names ++ definition_before atoms o (get_or fs i d).arity (definitions_of atoms (drop (i + 1) fs))) (sym e)
    ∙ ap (λ ds. names ++ ds) (sym (at_drop_more (definitions_of atoms) fs i d lower))
