use Rattle.std.proofs.Common.{◌≡◌, ◌+◌, ◌++◌, length, drop, map, sum}
use Rattle.hipe_terms.specs.Words.{words_of}
use Rattle.heap_terms.specs.Building.{built, all_built, IsPrefixOf}
use Rattle.heap_terms.proofs.constants.+build.Given as goal

abbrev pub invariant-build_each-loop-part : goal.invariant-build_each-loop-part
invariant-build_each-loop-part g l = record {
  words :
      let rest = all_built (map built (drop l.part-index l.parts)) l.begin (g.N.AtomNumbers.atoms l.numbers) l.used.items in
      all_built (map built l.parts) l.begin (g.N.AtomNumbers.atoms l.numbers) l.initial.used.items ≡ (l.words.items ++ rest.0, rest.1);
  room : length l.used.items + sum (map words_of (drop l.part-index l.parts)) ≡ length l.initial.used.items + sum (map words_of l.parts);
  prefix : IsPrefixOf l.initial.used.items l.used.items;
  count : length l.words.items ≡ l.part-index;
}
