use Rattle.std.proofs.Common.{◌≡◌, ◌++◌, drop, length, map}
use Rattle.std.specs.Vec.{vec_capacity, vec_len}
use Rattle.core_grammar.specs.Trees.{constant_character}
use Rattle.core_parser_values.proofs.text.constant_characters.Given as goal

abbrev pub invariant-loop-c : goal.invariant-loop-c
invariant-loop-c l = (vec_capacity l.characters ≡ length l.text) × (vec_len l.characters ≡ l.c-index) × (l.characters.items ++ map constant_character (drop l.c-index l.text) ≡ map constant_character l.text)
