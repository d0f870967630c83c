-- Going through a text from its beginning.
use Rattle.std.proofs.Common.{◌≡◌, ℕ, zero, suc, ◌+◌, ◌-◌, ◌≤◌, ◌<◌, List, [], ◌∷◌, ◌++◌, length, drop, Result, Ok, Err, refl, ap, sym, ◌∙◌, arith}
use Rattle.std.specs.Prelude.{slice_index}
use Rattle.std.proofs.Math.ListN.{drop_of_length-le}
use Rattle.std.proofs.lemmas.List.{drop-drop, drop_at}
use Rattle.std.proofs.Math.Seq.{drop-cons}
use Rattle.core_text.specs.Walks.{walk, go_on}

module _ {S R : Type 0} (step : List ℕ → S → Result (ℕ × S) R) (end : S → R) where
  -- what is skipped may be cut off
  skipped : (text : List ℕ) (k : ℕ) (s : S) → walk step end text k s ≡ walk step end (drop k text) 0 s
  skipped [] zero s = refl
  skipped [] (suc k) s = refl
  skipped (c ∷ text) zero s = refl
  skipped (c ∷ text) (suc k) s = skipped text k s

  dropped : (text : List ℕ) (i n : ℕ) → 0 < n → drop (n - 1) (drop (suc i) text) ≡ drop (i + n) text
  dropped text i n some = let e : suc i + (n - 1) ≡ i + n = omega arith in drop-drop (n - 1) (suc i) text ∙ ap (λ k. drop k text) e

  -- past the end there is nothing
  pub walk_end : (text : List ℕ) (i : ℕ) (s : S) → length text ≤ i → walk step end (drop i text) 0 s ≡ end s
  walk_end text i s h = ap (λ t. walk step end t 0 s) (drop_of_length-le text h)

  walk_at : (text : List ℕ) (i : ℕ) (s : S) → i < length text → walk step end (drop i text) 0 s ≡ go_on (step (drop i text) s) (λ p. walk step end (drop (suc i) text) (p.0 - 1) p.1)
  walk_at text i s lt =
      let d : drop i text ≡ slice_index text i ∷ drop (suc i) text = drop-cons text i 0 lt in
      ap (λ t. walk step end t 0 s) d ∙ ap (λ t. go_on (step t s) (λ p. walk step end (drop (suc i) text) (p.0 - 1) p.1)) (sym d)

  -- a step that goes on
  pub walk_on : (text : List ℕ) (i n : ℕ) (s u : S) → i < length text → step (drop i text) s ≡ Ok (n, u) → 0 < n → walk step end (drop i text) 0 s ≡ walk step end (drop (i + n) text) 0 u
  walk_on text i n s u lt is some =
      walk_at text i s lt ∙ ap (λ r. go_on r (λ p. walk step end (drop (suc i) text) (p.0 - 1) p.1)) is
      ∙ skipped (drop (suc i) text) (n - 1) u ∙ ap (λ t. walk step end t 0 u) (dropped text i n some)

  -- a step that ends the way
  pub walk_stop : (text : List ℕ) (i : ℕ) (s : S) (r : R) → i < length text → step (drop i text) s ≡ Err r → walk step end (drop i text) 0 s ≡ r
  walk_stop text i s r lt is = walk_at text i s lt ∙ ap (λ r. go_on r (λ p. walk step end (drop (suc i) text) (p.0 - 1) p.1)) is

module _ {S R : Type 0} (step : List ℕ → S → Result (ℕ × S) R) (end : S → R) where
  -- a step over bytes at the beginning
  pub walk_prefix : (cs us : List ℕ) (n : ℕ) (s u : S) → length cs ≡ n → 0 < n → step (cs ++ us) s ≡ Ok (n, u) → walk step end (cs ++ us) 0 s ≡ walk step end us 0 u
  walk_prefix [] us n s u size some is = absurd (omega (arith, size, some))
  walk_prefix (c ∷ cs) us n s u size some is =
      ap (λ r. go_on r (λ p. walk step end (cs ++ us) (p.0 - 1) p.1)) is ∙ skipped step end (cs ++ us) (n - 1) u
      ∙ ap (λ t. walk step end t 0 u) (drop_at cs us (n - 1) (omega (arith, size)))

  -- a step that ends the way at the beginning
  pub walk_halt : (cs us : List ℕ) (s : S) (r : R) → 0 < length cs → step (cs ++ us) s ≡ Err r → walk step end (cs ++ us) 0 s ≡ r
  walk_halt [] us s r some is = absurd (omega (arith, some))
  walk_halt (c ∷ cs) us s r some is = ap (λ r. go_on r (λ p. walk step end (cs ++ us) (p.0 - 1) p.1)) is

pub ruleset walks = (walk_end, walk_on, walk_stop)
