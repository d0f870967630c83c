use Rattle.std.proofs.Common.{◌≡◌, [], drop, All}
use Rattle.core_token.specs.Text.{StandsIn}
use Rattle.core_grammar.specs.Language.{limit}
use Rattle.core_parser.specs.Machine.{run}
use Rattle.hipe_base.specs.declared.limits.TheConstants.{LEVEL_LIMIT}
use Rattle.core_reader.specs.Terminals.{terminals_of}
use Rattle.core_reader.proofs.run.run.Given as goal

abbrev pub invariant-loop-token : goal.invariant-loop-token
invariant-loop-token l =
    (run (limit LEVEL_LIMIT) l.end l.symbols l.values (terminals_of l.text (drop l.token-index l.tokens)) ≡ run (limit LEVEL_LIMIT) l.end l.initial.symbols [] (terminals_of l.text l.tokens))
    × All (StandsIn l.text) (drop l.token-index l.tokens)
