-- What variables are bound to where patterns are matched one after another.
use Rattle.std.specs.Prelude.{Bool, if◌then◌else◌, Option, List, ◌++◌, map, Some, None, option_map}
use Rattle.hipe_terms.specs.Terms.{Term, terms}
use Rattle.core_ast.specs.Trees.{pattern_of, patterns}
use Rattle.core_ast.specs.declared.pattern.Pattern.{Pattern}
use Rattle.core_meaning.specs.Matching.{Match, matched_all, matched_cells}
use Rattle.eval_values.specs.declared.value.Value.{Value}
use Rattle.eval_values.specs.Values.{term_in, terms_in}

-- these terms, and behind them those of a match
unfoldable pub after : List Term → Match → Match
after ts m = option_map (λ us. ts ++ us) m

-- these terms, where all matched so far
unfoldable pub where_matched : Bool → List Term → Match
where_matched b ts = if b then Some ts else None

-- these terms, and behind them what the rest of a list binds, where there is a rest
abbrev pub go_on : Option Value → List Term → (Term → Match) → Match
go_on None ts tail = None
go_on (Some v) ts tail = after ts (tail (term_in v))

-- what these patterns bind, where there are as many as values and each matches its value
abbrev pub each_matched : List Pattern → List Value → Match
each_matched ps vs = matched_all (patterns (map pattern_of ps)) (terms (terms_in vs))

-- what these patterns bind to the first elements of a list, and behind that what the rest of the list binds
abbrev pub cells_matched : List Pattern → Value → (tail : Term → Match) → Match
cells_matched ps v tail = matched_cells (patterns (map pattern_of ps)) tail (term_in v)
