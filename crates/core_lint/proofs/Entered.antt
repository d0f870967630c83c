-- Names that are taken into scope one after another.
use Rattle.std.proofs.Common.{◌≡◌, ℕ, ◌+◌, ◌<◌, List, [], ◌∷◌, ◌++◌, length, map, take, get_or, refl, ap, sym, ◌∙◌, append_assoc}
use Rattle.std.proofs.lemmas.List.{map-append, drop-drop, take_more}
use Rattle.core_lint.specs.declared.name.Bound.{Bound}
use Rattle.core_lint.specs.Keys.{Key, key_of}
use Rattle.core_lint.specs.Entries.{entry_of, entered}

-- the entry before those that were taken
pub entered_more : (list : List Bound) (i : ℕ) (b : Bound) (ks : List Key) → i < length list → b ≡ get_or list i b → entered (map entry_of (take i list)) (key_of b.name ∷ ks) ≡ entered (map entry_of (take (i + 1) list)) ks
entered_more list i b ks h e =
    let more : take (i + 1) list ≡ take i list ++ b ∷ [] = take_more list i b h ∙ ap (λ x. take i list ++ x ∷ []) (sym e) in
    sym (rw (more, map-append, map-append, append_assoc) refl)

pub ruleset entering = (entered_more, drop-drop)
