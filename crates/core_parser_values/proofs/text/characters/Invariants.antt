use Rattle.std.proofs.Common.{◌≡◌, ◌++◌, drop, length, map}
use Rattle.std.specs.Vec.{vec_capacity, vec_len}
use Rattle.core_grammar.specs.Trees.{character_at}
use Rattle.core_parser_values.proofs.text.characters.Given as goal

abbrev pub invariant-loop-c : goal.invariant-loop-c
invariant-loop-c l = (vec_capacity l.characters ≡ length l.text) × (vec_len l.characters ≡ l.c-index) × (l.characters.items ++ map (character_at l.at) (drop l.c-index l.text) ≡ map (character_at l.at) l.text)
