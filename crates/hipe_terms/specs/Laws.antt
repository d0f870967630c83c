-- What holds of the order of terms.
use Rattle.std.specs.Prelude.{◌≡◌}
use Rattle.std.specs.Cmp.{IsTotalOrder}
use Rattle.std.specs.declared.cmp.Ordering.TheVariants.{Equal}
use Rattle.hipe_terms.specs.Terms.{Term}
use Rattle.hipe_terms.specs.Order.{order}

-- one of two terms comes first, or neither; and what comes before another comes before all that come after that one
abbrev pub OrderIsTotal : Type 0
OrderIsTotal = IsTotalOrder order

-- neither comes first if and only if the terms are equal
abbrev pub OrderTellsApart : Type 0
OrderTellsApart = (t u : Term) → (order t u ≡ Equal → t ≡ u) × (t ≡ u → order t u ≡ Equal)
