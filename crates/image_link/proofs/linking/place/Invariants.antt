use Rattle.std.proofs.Common.{◌≡◌, ◌++◌, drop}
use Rattle.image_link.specs.Linking.{functions_from}
use Rattle.image_link.proofs.linking.place.Given as goal

abbrev pub invariant-loop-number : goal.invariant-loop-number
invariant-loop-number l =
    l.functions.items ++ functions_from l.parts l.number (drop l.number l.entries) (drop l.number l.parts)
    ≡ functions_from l.parts 0 l.entries l.parts
