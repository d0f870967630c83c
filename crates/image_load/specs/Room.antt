-- How much room is left.
use Rattle.std.specs.Prelude.{◌≡◌, ◌≤◌, ◌-◌, ℕ, List, Option, Some, None, nat_le, if◌then◌else◌, encode_utf8_all, length}
use Rattle.hipe_base.specs.declared.limits.TheConstants.{ATOM_LIMIT}

-- what is left of so many words behind so many more, where they are enough
abbrev pub left : ℕ → ℕ → Option ℕ
left room words = if nat_le words room then Some (room - words) else None

-- the text is that of an atom
abbrev pub IsAtomText : List ℕ → Type 0
IsAtomText text = (a : List ℕ) × (encode_utf8_all a ≡ text) × (length a ≤ ATOM_LIMIT)
