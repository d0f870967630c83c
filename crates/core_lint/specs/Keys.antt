-- The names in scope as the walk keeps them: a text and a number each. A variable has the number 0, a function its arity.
use Rattle.std.specs.Prelude.{◌≡◌, ℕ, ◌==◌, Bool, ◌&&◌, List, [], ◌∷◌, bytes_eq}
use Rattle.std.specs.BTreeSet.{BTreeSet, contains}
use Rattle.std.specs.List.{list_any}
use Rattle.std.specs.Cmp.Lexicographic.{slice_cmp}
use Rattle.std.specs.declared.cmp.Ordering.{Ordering}
use Rattle.std.specs.Ordering.{ordering_then, nat_cmp}
use Rattle.core_lint.specs.declared.name.Name.{Name}
use Rattle.core_lint.specs.declared.scope.Entered.{Entered}

abbrev pub Key : Type 0
Key = List ℕ × ℕ

abbrev pub key_of : Name → Key
key_of n = (n.text.now, n.arity)

abbrev pub same_key : Key → Key → Bool
same_key a b = bytes_eq a.0 b.0 && a.1 == b.1

-- the order of the map: by the text, and then by the number
abbrev pub name_order : Name → Name → Ordering
name_order a b = ordering_then (slice_cmp nat_cmp a.text.now b.text.now) (nat_cmp a.arity b.arity)

-- the keys of names that were entered over these, the last name first
abbrev pub keys : List Key → List Entered → List Key
keys ks [] = ks
keys ks (e ∷ es) = keys (key_of e.name ∷ ks) es

-- each name that was entered over these says whether it hides one
abbrev pub IsMarked : List Key → List Entered → Type 0
IsMarked ks [] = Unit {0}
IsMarked ks (e ∷ es) = (e.hides ≡ list_any (λ k. same_key (key_of e.name) k) ks) × IsMarked (key_of e.name ∷ ks) es

-- the set has the names that were entered, and each says whether it hides one
abbrev pub IsKnown : List Entered → BTreeSet Name → Type 0
IsKnown es known = ((q : Name) → contains name_order known q ≡ list_any (λ k. same_key (key_of q) k) (keys [] es)) × IsMarked [] es
