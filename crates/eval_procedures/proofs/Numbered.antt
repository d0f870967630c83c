-- Functions and slots by number.
use Rattle.std.proofs.Common.{◌≡◌, ℕ, zero, suc, ◌+◌, List, [], ◌∷◌, ◌++◌, ap, ◌∙◌, append_assoc, append-nil, arith}
use Rattle.std.proofs.lemmas.List.{map-append}
use Rattle.core_ast.proofs.Levels as Levels
use Rattle.core_meaning.specs.Scopes.{slots_from}

slots_more_from : (k n : ℕ) → slots_from k (suc n) ≡ slots_from k n ++ (k + n) ∷ []
slots_more_from k zero = ap (λ i. i ∷ []) (omega arith)
slots_more_from k (suc n) = ap (λ l. k ∷ l) (slots_more_from (suc k) n ∙ ap (λ i. slots_from (suc k) n ++ i ∷ []) (omega arith))

pub slots_more : (n : ℕ) → slots_from 0 (n + 1) ≡ slots_from 0 n ++ n ∷ []
slots_more n = let e : n + 1 ≡ suc n = omega arith in let f : 0 + n ≡ n = omega arith in ap (slots_from 0) e ∙ slots_more_from 0 n ∙ ap (λ i. slots_from 0 n ++ i ∷ []) f

pub ruleset slots = (slots_more)

pub ruleset numbered = (Levels.levels, map-append, append_assoc, append-nil)
