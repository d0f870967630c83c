-- A text without bytes has no characters.
use Rattle.std.proofs.Common.{◌≡◌, []}
use Rattle.std.specs.Str.{chars}
use Rattle.std.proofs.lemmas.Str.{chars-nil}

pub no_characters : chars [] ≡ []
no_characters = chars-nil

pub ruleset empty_text = (no_characters)
