-- The evaluation of an expression that is made as a sum.
use Rattle.std.proofs.Common.{◌≡◌, ℕ, ◌+◌, ◌≤◌, ℤ, ◌+ℤ◌, true, [], ◌∷◌, ◌++◌, refl, sym, ap, ◌∙◌, subst, arith}
use Rattle.std.specs.Prelude.{codes, if◌then◌else◌}
use Rattle.std.proofs.lemmas.List.{append-nil}
use Rattle.hipe_terms.specs.Bifs.{built_in}
use Rattle.hipe_terms.specs.Range.{is_in_range}
use Rattle.hipe_terms.specs.Terms.{integer}
use Rattle.hipe_terms.specs.Outcome.{Outcome, gives, number, system_limit}
use Rattle.core_ast.specs.Trees.{Expression, no_expression, and_expression}
use Rattle.core_sum.specs.declared.sum.Sum.{Sum}
use Rattle.core_sum.specs.Sums.{plus_of, value, count_of, HasSmallIntegers}
use Rattle.core_sum.specs.Form.{IsSum, integer as is_integer, addition}
use Rattle.core_sum.proofs.Levels.{value-int, value-plus, count-plus, farthest-plus}
use Rattle.core_meaning.specs.Scopes.{funs}
use Rattle.core_meaning.specs.Procedures.{Program}
use Rattle.core_meaning.specs.Meaning.{State, Run, Limits, Next, Handler, Calls, Context, part, behind, worked, builds, with_one, performs, calls, eval, eval_all}
use Rattle.core_meaning.specs.Source.{unlimited}
use Rattle.sum_meaning.proofs.Ranges.{value_in_range}

-- nothing was printed or built in between, and no fuel was spent
pub record IsQuiet (s t : State) : Type 0 where
  pub printed : t.printed ≡ s.printed
  pub words : t.words ≡ s.words
  pub fuel : t.fuel ≡ s.fuel

quiet_after : (s t u : State) → IsQuiet s t → IsQuiet t u → IsQuiet s u
quiet_after s t u a b = record { printed = b.printed ∙ a.printed; words = b.words ∙ a.words; fuel = b.fuel ∙ a.fuel }

worked_quiet : (n : ℕ) (s : State) → IsQuiet s (worked n s)
worked_quiet n s = record { printed = refl; words = refl; fuel = refl }

-- a run that goes on with this integer, quietly
abbrev pub GoesOn : Run → Next → ℤ → State → Type 0
GoesOn run k n s = (t : State) × (run ≡ k (integer n ∷ []) t) × IsQuiet s t

module _ (program : Program) (call : Calls) where
  abbrev limits : Limits
  limits = unlimited program

  number_gives : (n : ℤ) → is_in_range n ≡ true → number n ≡ gives (integer n)
  number_gives n h = ap (λ b. if b then gives (integer n) else system_limit) h

  performed : (n : ℤ) (o : Outcome) (s : State) (r : Handler) (k : Next) → o ≡ gives (integer n) → GoesOn (performs limits o s r k) k n s
  unfolding performs builds
  performed n o s r k is = (
    record s { printed = s.printed ++ []; words = s.words + 0 },
    ap (λ x. performs limits x s r k) is,
    record { printed = append-nil s.printed; words = nothing_more s.words; fuel = refl },
  )
    where
      nothing_more : (n : ℕ) → n + 0 ≡ n
      nothing_more n = omega arith

  added : (a b : ℤ) (d : ℕ) (s : State) (r : Handler) (k : Next) → is_in_range (a +ℤ b) ≡ true → GoesOn (calls program limits call (codes "erlang") (codes "+") (integer a ∷ integer b ∷ []) d s r k) k (a +ℤ b) s
  unfolding calls built_in
  added a b d s r k h = performed (a +ℤ b) (number (a +ℤ b)) s r k (number_gives (a +ℤ b) h)

  pub evaluated : (e : Expression) (s : Sum) → IsSum e s → HasSmallIntegers s → count_of s ≤ 32768 → (c : Context) (st : State) (r : Handler) (k : Next) → GoesOn (eval program limits call e c st r k) k (value s) st
  unfolding with_one
  evaluated _ _ (is_integer p n h) small few c st r k = (worked 1 st, ap (λ m. k (integer m ∷ []) (worked 1 st)) (sym (value-int n)), worked_quiet 1 st)
  evaluated _ _ (addition p a b d e x y) small few c st r k =
      let whole : is_in_range (value d +ℤ value e) ≡ true = subst (λ n. is_in_range n ≡ true) (value-plus d e) (value_in_range (plus_of d e) small few) in
      let (t, left, left_quiet) = evaluated a d x (omega (arith, small, farthest-plus d e)) (omega (arith, few, count-plus d e)) (part c) (worked 3 st) r (λ us s. with_one us s (λ u s. eval_all program limits call (and_expression b no_expression) (behind (funs a) (part c)) s r (λ ts s. calls program limits call (codes "erlang") (codes "+") (u ∷ ts) c.depth s r k))) in
      let (u, right, right_quiet) = evaluated b e y (omega (arith, small, farthest-plus d e)) (omega (arith, few, count-plus d e)) (behind (funs a) (part c)) t r (λ us s. with_one us s (λ v s. calls program limits call (codes "erlang") (codes "+") (integer (value d) ∷ v ∷ []) c.depth s r k)) in
      let (v, sum, sum_quiet) = added (value d) (value e) c.depth u r k whole in
      (v, left ∙ right ∙ sum ∙ ap (λ n. k (integer n ∷ []) v) (sym (value-plus d e)), quiet_after st (worked 3 st) v (worked_quiet 3 st) (quiet_after (worked 3 st) t v left_quiet (quiet_after t u v right_quiet sum_quiet)))
