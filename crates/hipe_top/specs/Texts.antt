-- What a text is: a good module, one with a sum, or none; and where its keyword `module` stands.
use Rattle.std.specs.Prelude.{◌≡◌, ◌⊎◌, ℕ, ◌<◌, ◌≤◌, List, ◌∷◌, length, codes}
use Rattle.hipe_terms.specs.declared.place.Place.{Place}
use Rattle.core_token.specs.declared.token.Sort.{Sort}
use Rattle.core_token.specs.declared.token.Token.{Token}
use Rattle.core_token.specs.Text.{AreTokensOf, bytes_of}
use Rattle.core_ast.specs.declared.tree.Module.{Module}
use Rattle.core_ast.specs.Trees.{module_of}
use Rattle.core_ast.specs.Good.{IsGood}
use Rattle.core_reader.specs.Language.{Reads}
use Rattle.core_sum.specs.declared.sum.Sum.{Sum}
use Rattle.core_sum.specs.Form.{IsSumModule}
use Rattle.hipe_base.specs.declared.limits.TheConstants.{TEXT_LIMIT}
use Rattle.hipe_top.specs.declared.arguments.Mode.{Mode}
use Rattle.hipe_top.specs.declared.arguments.Mode.TheVariants.{Check, Run}

-- a text within the limit that reads as this module, which is good
pub record IsGoodText (bytes : List ℕ) (m : Module) : Type 0 where
  pub short : length bytes ≤ TEXT_LIMIT
  pub reads : Reads bytes m
  pub good : IsGood (module_of m)

-- a token is the keyword `module`
abbrev pub IsModuleKeyword : List ℕ → Token → Type 0
IsModuleKeyword s t = (t.sort ≡ Sort.Word) × (bytes_of s t ≡ codes "module")

-- the first keyword `module` among these tokens stands there
pub data IsFirstKeyword (s : List ℕ) : List Token → Place → Type 0 where
  here : {t : Token} {ts : List Token} → IsModuleKeyword s t → IsFirstKeyword s (t ∷ ts) t.at
  behind : {t : Token} {ts : List Token} {p : Place} → ¬ IsModuleKeyword s t → IsFirstKeyword s ts p → IsFirstKeyword s (t ∷ ts) p

-- the first keyword `module` of a text stands there
abbrev pub BeginsAt : List ℕ → Place → Type 0
BeginsAt s p = (ts : List Token) × AreTokensOf s ts × IsFirstKeyword s ts p

-- the texts that a mode takes
abbrev pub Takes : Mode → List ℕ → Type 0
Takes Check bytes = (m : Module) × IsGoodText bytes m
Takes Run bytes = (m : Module) × IsGoodText bytes m × ((e : Sum) × IsSumModule (module_of m) e)

-- the texts that it refuses: those that are too long, and those of no good module, or of none that it takes
abbrev pub Refuses : Mode → List ℕ → Type 0
Refuses Check bytes = (TEXT_LIMIT < length bytes) ⊎ ((m : Module) → Reads bytes m → ¬ IsGood (module_of m))
Refuses Run bytes = (TEXT_LIMIT < length bytes) ⊎ ((m : Module) → Reads bytes m → IsGood (module_of m) → (e : Sum) → ¬ IsSumModule (module_of m) e)
