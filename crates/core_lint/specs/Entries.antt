-- Names that are bound together, each with its place.
use Rattle.std.specs.Prelude.{ℕ, not, Bool, ◌||◌, List, [], ◌∷◌, ◌++◌, map, Option, encode_utf8_all}
use Rattle.std.specs.List.{list_any}
use Rattle.hipe_terms.specs.declared.place.Place.{Place}
use Rattle.core_ast.specs.declared.pattern.Var.{Var}
use Rattle.core_ast.specs.declared.tree.FunName.{FunName}
use Rattle.core_ast.specs.declared.rule.Rule.{Rule}
use Rattle.core_ast.specs.Trees.{Definitions}
use Rattle.core_ast.specs.Names.{defined}
use Rattle.core_ast.specs.declared.rule.Broken.{Broken}
use Rattle.core_lint.specs.declared.name.Bound.{Bound}
use Rattle.core_lint.specs.Keys.{Key, key_of, same_key}
use Rattle.core_lint.specs.Noted.{is_wanted, noted_unless}

abbrev pub Entry : Type 0
Entry = Key × Place

abbrev pub entry_of : Bound → Entry
entry_of b = (key_of b.name, b.at)

abbrev pub variable_key : List ℕ → Key
variable_key x = (x, 0)

abbrev pub function_key : FunName → Key
function_key f = (encode_utf8_all f.name, f.arity)

abbrev pub variable_entries : List Var → List Entry
variable_entries xs = map (λ x. (variable_key x.name, x.at)) xs

abbrev pub function_entries : Definitions → List Entry
function_entries ds = map (λ d. (function_key d.0, d.1)) (defined ds)

-- the names of entries in scope
abbrev pub entered : List Entry → List Key → List Key
entered es ks = map (λ e. e.0) es ++ ks

-- the first broken rule, once the entries are known that are the same as an earlier one, where these stood before
abbrev pub repeats : Rule → List Key → List Entry → Option Broken → Option Broken
repeats r seen [] first = first
repeats r seen (e ∷ es) first = repeats r (e.0 ∷ seen) es (noted_unless (not (list_any (λ k. same_key e.0 k) seen)) r e.1 first)

-- whether the rule could be the first broken one where some of these are bound
abbrev pub is_some_wanted : Rule → List Bound → Option Broken → Bool
is_some_wanted r [] first = Bool.false
is_some_wanted r (b ∷ bs) first = is_wanted r b.at first || is_some_wanted r bs first
