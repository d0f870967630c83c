-- The first keyword `module` as the code finds it.
use Rattle.std.specs.Prelude.{ℕ, Bool, ◌&&◌, true, false, if◌then◌else◌, List, [], ◌∷◌, Option, Some, None, bytes_eq, codes}
use Rattle.hipe_terms.specs.declared.place.Place.{Place}
use Rattle.core_token.specs.declared.token.Sort.{Sort}
use Rattle.core_token.specs.declared.token.Token.{Token}
use Rattle.core_token.specs.Text.{bytes_of}
use Rattle.core_ast.specs.declared.tree.Module.{Module}
use Rattle.core_reader.specs.Language.{Reads}

abbrev pub is_keyword : Sort → Bool
is_keyword Sort.Word = true
is_keyword _ = false

abbrev pub is_module_keyword : List ℕ → Token → Bool
is_module_keyword s t = is_keyword t.sort && bytes_eq (bytes_of s t) (codes "module")

abbrev pub first_keyword : List ℕ → List Token → Option Place
first_keyword s [] = None
first_keyword s (t ∷ ts) = if is_module_keyword s t then Some t.at else first_keyword s ts

-- a text reads as a module
abbrev pub ReadsSome : List ℕ → Type 0
ReadsSome s = (m : Module) × Reads s m
