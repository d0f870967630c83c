-- What the lists of bound names need to know of lists and trees.
use Rattle.std.proofs.Common.{append_assoc}
use Rattle.std.proofs.lemmas.List.{append-nil, map-append}
use Rattle.core_ast.proofs.Levels.{levels, pattern_levels}

pub ruleset bound_variables = (pattern_levels, append_assoc, append-nil, map-append)

pub ruleset bound_functions = (levels, append_assoc, append-nil)
