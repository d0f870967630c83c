-- Words that are written behind a prefix of a heap.
use Rattle.std.proofs.Common.{◌≡◌, ℕ, zero, suc, ◌≤◌, List, [], ◌∷◌, take, refl, sym, ap, arith}
use Rattle.std.specs.Prelude.{slice_set}
use Rattle.std.proofs.lemmas.List.{length-set}
use Rattle.heap_terms_laws.specs.Prefixes.{WritesKeepPrefixes, WritesExtendPrefixes}

prefix_kept : (heap : List ℕ) (n i w : ℕ) → n ≤ i → take n heap ≡ take n (slice_set heap i w)
prefix_kept heap zero i w h = refl
prefix_kept [] (suc n) i w h = refl
prefix_kept (x ∷ heap) (suc n) zero w h = absurd (omega arith)
prefix_kept (x ∷ heap) (suc n) (suc i) w h = ap (λ ws. x ∷ ws) (prefix_kept heap n i w (omega arith))

pub writes_keep_prefixes : WritesKeepPrefixes
writes_keep_prefixes heap n i w h = record { size = sym (length-set heap i w); words = prefix_kept heap n i w h }

pub writes_extend_prefixes : WritesExtendPrefixes
writes_extend_prefixes [] n w h = absurd (omega arith)
writes_extend_prefixes (x ∷ heap) zero w h = refl
writes_extend_prefixes (x ∷ heap) (suc n) w h = ap (λ ws. x ∷ ws) (writes_extend_prefixes heap n w (omega arith))
