-- Pages of one byte again and again.
use Rattle.std.proofs.Common.{◌≡◌, ℕ, ◌<◌, slice_index_or}
use Rattle.std.proofs.Math.ListN.{replicate}
use Rattle.std.proofs.lemmas.List.{get_or-replicate}

-- the byte at each place of a page
pub same_everywhere : (n i value d : ℕ) → i < n → slice_index_or (replicate n value) i d ≡ value
same_everywhere n i value d h = get_or-replicate n i value d h
