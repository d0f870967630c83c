-- Atoms that are the same.
use Rattle.std.proofs.lemmas.Map.Text.{is_eq-slice_cmp}

pub ruleset same = (is_eq-slice_cmp)
