-- The function of a call by the number of its name.
use Rattle.std.specs.Prelude.{ℕ, ◌&&◌, Bool, false, List, [], ◌∷◌, Option, Some, None, nat_eq, slice_get, if◌then◌else◌}
use Rattle.image_link.specs.declared.image.Function.{Function}

abbrev pub has_number : ℕ → Option ℕ → Bool
has_number number None = false
has_number number (Some n) = nat_eq number n

-- the function has the name of this number and so many arguments
abbrev pub is_numbered : ℕ → ℕ → Option Function → Bool
is_numbered number arity None = false
is_numbered number arity (Some f) = has_number number f.name && nat_eq f.arity arity

-- the first exported function of these
abbrev pub exported_numbered : List Function → ℕ → ℕ → List ℕ → Option Function
exported_numbered functions number arity [] = None
exported_numbered functions number arity (e ∷ es) =
    if is_numbered number arity (slice_get functions e) then slice_get functions e else exported_numbered functions number arity es
