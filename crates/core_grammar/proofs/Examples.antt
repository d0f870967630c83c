-- Derivations by hand.
use Rattle.std.proofs.Common.{[], ◌∷◌, refl}
use Rattle.core_grammar.specs.Grammar as G
use Rattle.core_grammar.specs.Examples.{at, OneLine}

-- module 'm' ['main'/0] attributes [] 'main'/0 = fun () -> 42 end
pub one_line_derives : OneLine
one_line_derives =
    let exports = G.some_of (G.last_of (G.bare (G.function_name (at 20) (at 21)))) in
    let body = G.expression_bare (G.integer (at 60) (G.digits 42) refl) in
    let main = G.definition (at 47) (G.bare (G.function_name (at 44) (at 45))) (G.fun_bare (G.«fun» (at 49) (at 53) (at 54) (at 56) refl G.none_of body)) in
    G.bare (G.«module» (109 ∷ []) (at 1) (at 8) (at 12) (at 22) (at 24) (at 35) (at 36) (at 63) exports G.none_of (G.more_definitions main G.no_definitions))
