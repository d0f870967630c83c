-- Each slot where it stands first.
use Rattle.std.proofs.Common.{◌≡◌, ℕ, List, [], ◌∷◌, ◌++◌, true, false, refl, sym, ap, ◌∙◌, append_assoc, append-nil}
use Rattle.std.specs.Prelude.{Bool, not, ◌&&◌, ◌||◌, ◌==◌, if◌then◌else◌}
use Rattle.std.specs.List.{filter, list_any}
use Rattle.std.proofs.lemmas.Bool.{eqb-true}
use Rattle.std.proofs.lemmas.List.Folds.{list_any-append}
use Rattle.core_meaning.specs.Scopes.{first_occurrences}
use Rattle.eval_procedures.specs.Shown.{with_first}

-- whether a slot isn't among these
abbrev is_new : List ℕ → ℕ → Bool
is_new found j = not (list_any (λ k. j == k) found)

-- those that were found, and behind them the new ones of the rest
unfoldable pub continued : List ℕ → List ℕ → List ℕ
continued found rest = found ++ filter (is_new found) (first_occurrences rest)

filter_true : (p : ℕ → Bool) (x : ℕ) (xs : List ℕ) → p x ≡ true → filter p (x ∷ xs) ≡ x ∷ filter p xs
filter_true p x xs e = ap (λ b. if b then x ∷ filter p xs else filter p xs) e

filter_false : (p : ℕ → Bool) (x : ℕ) (xs : List ℕ) → p x ≡ false → filter p (x ∷ xs) ≡ filter p xs
filter_false p x xs e = ap (λ b. if b then x ∷ filter p xs else filter p xs) e

-- a test after a test is both tests
filter_twice_at : (p q r : ℕ → Bool) (x : ℕ) (xs : List ℕ) (b c : Bool) → q x ≡ b → p x ≡ c → (q x && p x) ≡ r x → filter p (filter q xs) ≡ filter r xs → filter p (filter q (x ∷ xs)) ≡ filter r (x ∷ xs)
filter_twice_at p q r x xs false c e f h ih = ap (filter p) (filter_false q x xs e) ∙ ih ∙ sym (filter_false r x xs (sym h ∙ ap (λ d. d && p x) e))
filter_twice_at p q r x xs true false e f h ih = ap (filter p) (filter_true q x xs e) ∙ filter_false p x (filter q xs) f ∙ ih ∙ sym (filter_false r x xs (sym h ∙ ap (λ d. d && p x) e ∙ f))
filter_twice_at p q r x xs true true e f h ih = ap (filter p) (filter_true q x xs e) ∙ filter_true p x (filter q xs) f ∙ ap (λ l. x ∷ l) ih ∙ sym (filter_true r x xs (sym h ∙ ap (λ d. d && p x) e ∙ f))

filter_twice : (p q r : ℕ → Bool) → ((x : ℕ) → (q x && p x) ≡ r x) → (xs : List ℕ) → filter p (filter q xs) ≡ filter r xs
filter_twice p q r h [] = refl
filter_twice p q r h (x ∷ xs) = filter_twice_at p q r x xs (q x) (p x) refl refl (h x) (filter_twice p q r h xs)

old_other : (found : List ℕ) (i j : ℕ) (b : Bool) → is_new found i ≡ false → (j == i) ≡ b → (not (j == i) && is_new found j) ≡ is_new found j
old_other found i j false e f = ap (λ c. not c && is_new found j) f
old_other found i j true e f = ap (λ c. not c && is_new found j) f ∙ sym (ap (is_new found) (eqb-true j i f) ∙ e)

both_new : (a b : Bool) → (not a && not b) ≡ not (b || (a || false))
both_new true true = refl
both_new true false = refl
both_new false true = refl
both_new false false = refl

new_other : (found : List ℕ) (i j : ℕ) → (not (j == i) && is_new found j) ≡ is_new (found ++ i ∷ []) j
new_other found i j = both_new (j == i) (list_any (λ k. j == k) found) ∙ ap not (sym (list_any-append (λ k. j == k) found (i ∷ [])))

step_at : (found : List ℕ) (i : ℕ) (rest : List ℕ) (b : Bool) → list_any (λ j. i == j) found ≡ b → continued found (i ∷ rest) ≡ continued (if b then found else found ++ i ∷ []) rest
unfolding continued
step_at found i rest true e =
    ap (λ l. found ++ l) (filter_false (is_new found) i (filter (λ j. not (j == i)) (first_occurrences rest)) (ap not e)
    ∙ filter_twice (is_new found) (λ j. not (j == i)) (is_new found) (λ j. old_other found i j (j == i) (ap not e) refl) (first_occurrences rest))
step_at found i rest false e =
    ap (λ l. found ++ l) (filter_true (is_new found) i (filter (λ j. not (j == i)) (first_occurrences rest)) (ap not e)
    ∙ ap (λ l. i ∷ l) (filter_twice (is_new found) (λ j. not (j == i)) (is_new (found ++ i ∷ [])) (λ j. new_other found i j) (first_occurrences rest)))
    ∙ sym (append_assoc found (i ∷ []) (filter (is_new (found ++ i ∷ [])) (first_occurrences rest)))

pub continued_more : (found : List ℕ) (i : ℕ) (rest : List ℕ) → continued found (i ∷ rest) ≡ continued (with_first i found) rest
continued_more found i rest = step_at found i rest (list_any (λ j. i == j) found) refl

pub continued_done : (found : List ℕ) → continued found [] ≡ found
unfolding continued
continued_done found = append-nil found

keep_all : (xs : List ℕ) → filter (is_new []) xs ≡ xs
keep_all [] = refl
keep_all (x ∷ xs) = ap (λ l. x ∷ l) (keep_all xs)

pub continued_none : (rest : List ℕ) → continued [] rest ≡ first_occurrences rest
unfolding continued
continued_none rest = keep_all (first_occurrences rest)

pub ruleset firsts = (continued_more, continued_done, continued_none)
