use Rattle.std.proofs.Common.{◌≡◌, ◌++◌, [], map, drop, string_bytes}
use Rattle.hipe_terms.specs.Shown.{shown_all, shown_from}
use Rattle.hipe_terms.specs.Terms.{term_of, terms}
use Rattle.hipe_terms.proofs.text.+show.Given as goal

abbrev pub invariant-show_each-loop-i : goal.invariant-show_each-loop-i
invariant-show_each-loop-i l = string_bytes l.text ++ shown_from [] l.i (terms (map term_of (drop l.i l.parts))) ≡ string_bytes l.initial.text ++ shown_all [] (terms (map term_of l.parts))
