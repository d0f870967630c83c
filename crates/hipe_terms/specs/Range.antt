-- The range of integers, in which every integer of a program lies.
use Rattle.std.specs.Prelude.{ℤ, Bool, ◌&&◌, int_le}
use Rattle.hipe_base.specs.declared.limits.TheConstants.{LEAST_INTEGER, GREATEST_INTEGER}

abbrev pub is_in_range : ℤ → Bool
is_in_range n = int_le LEAST_INTEGER n && int_le n GREATEST_INTEGER
