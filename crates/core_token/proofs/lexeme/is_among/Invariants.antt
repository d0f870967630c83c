use Rattle.std.proofs.Common.{◌≡◌, drop}
use Rattle.std.specs.Prelude.{map}
use Rattle.core_token.specs.Lexemes.{is_among}
use Rattle.core_token.proofs.lexeme.is_among.Given as goal

abbrev pub invariant-loop-keyword : goal.invariant-loop-keyword
invariant-loop-keyword l = record { rest : is_among l.bytes (map (λ w. w.now) (drop l.keyword-index l.keywords)) ≡ is_among l.bytes (map (λ w. w.now) l.keywords) }
