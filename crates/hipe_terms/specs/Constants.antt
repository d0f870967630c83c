-- The constants that the readers give: an integer is in the range, a list has at least one element, and its tail is no list.
use Rattle.std.specs.Prelude.{◌≡◌, Bool, true, false, not, ◌&&◌, List, [], ◌∷◌, All}
use Rattle.hipe_terms.specs.declared.constant.Constant.{Constant, out-Constant}
use Rattle.hipe_terms.specs.declared.constant.Constant.TheOpen.{Constant-F}
use Rattle.hipe_terms.specs.declared.constant.Constant.TheFolds.{fold-Constant}
use Rattle.hipe_terms.specs.Range.{is_in_range}

-- whether a constant is as the readers give it, and whether it is a list with elements
pub record Form : Type 0 where
  pub good : Bool
  pub list : Bool

abbrev pub are_all_good : List Form → Bool
are_all_good [] = true
are_all_good (part ∷ parts) = part.good && are_all_good parts

abbrev pub has_parts : List Form → Bool
has_parts [] = false
has_parts (part ∷ parts) = true

abbrev pub form_at : Constant-F Form → Form
form_at (Constant-F.Int n) = record { good = is_in_range n; list = false }
form_at (Constant-F.Atom a) = record { good = true; list = false }
form_at Constant-F.Nil = record { good = true; list = false }
form_at (Constant-F.List parts tail) = record { good = has_parts parts && (are_all_good parts && (tail.good && not tail.list)); list = true }
form_at (Constant-F.Tuple parts) = record { good = are_all_good parts; list = false }

unfoldable pub form_of : Constant → Form
form_of = fold-Constant Form form_at

abbrev pub is_list : Constant → Bool
is_list c = (form_of c).list

abbrev pub IsConstant : Constant → Type 0
IsConstant c = (form_of c).good ≡ true

abbrev pub AreConstants : List Constant → Type 0
AreConstants cs = All IsConstant cs

abbrev pub is_nil_at : Constant-F Constant → Bool
is_nil_at Constant-F.Nil = true
is_nil_at _ = false

abbrev pub is_nil : Constant → Bool
is_nil c = is_nil_at (out-Constant c)
