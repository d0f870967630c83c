-- Where slots stand in a list of captured ones.
use Rattle.std.proofs.Common.{◌≡◌, ℕ, suc, ◌+◌, List, [], ◌∷◌, ◌++◌, Option, Some, None, option_map, true, false, refl, sym, ap, ◌∙◌, append_assoc, append-nil, arith}
use Rattle.std.specs.Prelude.{◌==◌, if◌then◌else◌}
use Rattle.core_meaning.specs.Scopes.{position, positions, joined}

-- where a slot stands in what is left, counted from i
unfoldable pub position_from : ℕ → ℕ → List ℕ → Option ℕ
position_from i slot captured = option_map (λ k. k + i) (position slot captured)

shifted : (o : Option ℕ) (i : ℕ) → option_map (λ k. k + i) (option_map suc o) ≡ option_map (λ k. k + (i + 1)) o
shifted None i = refl
shifted (Some k) i = ap Some (omega arith)

pub position_here : (i slot c : ℕ) (cs : List ℕ) → (slot == c) ≡ true → position_from i slot (c ∷ cs) ≡ Some i
unfolding position_from
position_here i slot c cs e = ap (λ b. option_map (λ k. k + i) (if b then Some 0 else option_map suc (position slot cs))) e ∙ ap Some (omega arith)

pub position_later : (i slot c : ℕ) (cs : List ℕ) → (slot == c) ≡ false → position_from i slot (c ∷ cs) ≡ position_from (i + 1) slot cs
unfolding position_from
position_later i slot c cs e = ap (λ b. option_map (λ k. k + i) (if b then Some 0 else option_map suc (position slot cs))) e ∙ shifted (position slot cs) i

pub position_nowhere : (i slot : ℕ) → position_from i slot [] ≡ None
unfolding position_from
position_nowhere i slot = refl

same_position : (o : Option ℕ) → option_map (λ k. k + 0) o ≡ o
same_position None = refl
same_position (Some k) = ap Some (omega arith)

pub position_first : (slot : ℕ) (captured : List ℕ) → position_from 0 slot captured ≡ position slot captured
unfolding position_from
position_first slot captured = same_position (position slot captured)

pub ruleset one_position = (position_here, position_later, position_nowhere, position_first)

-- where those that were found stand, and behind them the others
unfoldable pub positions_after : List ℕ → List ℕ → List ℕ → Option (List ℕ)
positions_after found slots captured = option_map (λ is. found ++ is) (positions slots captured)

joined_after : (found : List ℕ) (i : ℕ) (o : Option (List ℕ)) → option_map (λ is. found ++ is) (joined (Some i) o) ≡ option_map (λ is. (found ++ i ∷ []) ++ is) o
joined_after found i None = refl
joined_after found i (Some is) = ap Some (sym (append_assoc found (i ∷ []) is))

pub positions_more : (found : List ℕ) (slot : ℕ) (slots captured : List ℕ) (i : ℕ) → position slot captured ≡ Some i → positions_after found (slot ∷ slots) captured ≡ positions_after (found ++ i ∷ []) slots captured
unfolding positions_after
positions_more found slot slots captured i e = ap (λ o. option_map (λ is. found ++ is) (joined o (positions slots captured))) e ∙ joined_after found i (positions slots captured)

pub positions_lost : (found : List ℕ) (slot : ℕ) (slots captured : List ℕ) → position slot captured ≡ None → positions_after found (slot ∷ slots) captured ≡ None
unfolding positions_after
positions_lost found slot slots captured e = ap (λ o. option_map (λ is. found ++ is) (joined o (positions slots captured))) e

pub positions_done : (found captured : List ℕ) → positions_after found [] captured ≡ Some found
unfolding positions_after
positions_done found captured = ap Some (append-nil found)

same_positions : (o : Option (List ℕ)) → option_map (λ is. [] ++ is) o ≡ o
same_positions None = refl
same_positions (Some is) = refl

pub positions_first : (slots captured : List ℕ) → positions_after [] slots captured ≡ positions slots captured
unfolding positions_after
positions_first slots captured = same_positions (positions slots captured)

pub ruleset all_positions = (positions_more, positions_lost, positions_done, positions_first)
