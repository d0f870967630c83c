-- What is found of an expression is what it is made as, and what such a sum holds.
use Rattle.std.proofs.Common.{◌≡◌, ℕ, ◌+◌, ◌*◌, ◌≤◌, ℤ, Bool, true, false, ◌&&◌, nat_le, List, [], ◌∷◌, Option, Some, None, bytes_eq, arith, refl, sym, ap, ◌∙◌, subst}
use Rattle.std.specs.Prelude.{codes, if◌then◌else◌}
use Rattle.std.specs.Int.RustNames.{unsigned_abs}
use Rattle.std.proofs.lemmas.Bool.Decides.{nat_tests}
use Rattle.std.proofs.lemmas.Slice.Eq.{bytes_eq-Decides}
use Rattle.hipe_terms.specs.declared.place.Place.{Place}
use Rattle.core_ast.specs.Trees.{Expression, Expressions, no_expression, and_expression}
use Rattle.core_ast.specs.Nodes.{expression_nodes}
use Rattle.core_sum.specs.declared.sum.Sum.{Sum}
use Rattle.core_sum.specs.Sums.{int_of, plus_of, count_of, HasSmallIntegers}
use Rattle.core_sum.specs.Form.{IsSum, integer, addition}
use Rattle.core_sum.specs.Made.{is_addition, small, added, sum_in, sums_in}
use Rattle.core_sum.proofs.Levels.{count-int, count-plus, farthest-int, farthest-plus}

-- ---- what such a sum holds

pub small_integers : (e : Expression) (s : Sum) → IsSum e s → HasSmallIntegers s
small_integers _ _ (integer p n h) = omega (arith, h, farthest-int n)
small_integers _ _ (addition p a b d e x y) = omega (arith, small_integers a d x, small_integers b e y, farthest-plus d e)

-- each integer but the first comes with a call
pub few_integers : (e : Expression) (s : Sum) → IsSum e s → 2 * count_of s ≤ expression_nodes e + 1
few_integers _ _ (integer p n h) = omega (arith, count-int n)
few_integers _ _ (addition p a b d e x y) = omega (arith, few_integers a d x, few_integers b e y, count-plus d e)

-- ---- what is made so is found

small_there : (n : ℤ) → unsigned_abs n ≤ 999999 → small n ≡ Some (int_of n)
small_there n h = let t : nat_le (unsigned_abs n) 999999 ≡ true = grind (arith, nat_tests, h) in ap (λ b. if b then Some (int_of n) else None) t

pub there : (e : Expression) (s : Sum) → IsSum e s → sum_in e ≡ Some s
there _ _ (integer p n h) = small_there n h
there _ _ (addition p a b d e x y) = ap (λ o. added (o ∷ sum_in b ∷ [])) (there a d x) ∙ ap (λ o. added (Some d ∷ o ∷ [])) (there b e y)

-- ---- what is found is made so

small_is : (p : Place) (n : ℤ) (s : Sum) → small n ≡ Some s → IsSum (Expression.Int p n) s
small_is p n s h = go (nat_le (unsigned_abs n) 999999) refl h where
  go : (b : Bool) → nat_le (unsigned_abs n) 999999 ≡ b → (if b then Some (int_of n) else None) ≡ Some s → IsSum (Expression.Int p n) s
  go true e h = let small_n : unsigned_abs n ≤ 999999 = grind (arith, nat_tests, e) in let same : int_of n ≡ s = cc in subst (IsSum (Expression.Int p n)) same (integer p n small_n)
  go false e h = absurd (cc)

both : (a b : Bool) → (a && b) ≡ true → (a ≡ true) × (b ≡ true)
both true b e = (refl, e)
both false b e = absurd (cc)

names : (m f : List ℕ) → is_addition m f ≡ true → (m ≡ codes "erlang") × (f ≡ codes "+")
names m f h =
    let two = both (bytes_eq m (codes "erlang")) (bytes_eq f (codes "+")) h in
    ((bytes_eq-Decides m (codes "erlang")).0 two.0, (bytes_eq-Decides f (codes "+")).0 two.1)

-- a call whose arguments are made as these
abbrev Args : List (Option Sum) → Sum → Expressions → Type 0
Args os s args = added os ≡ Some s → (a : Expression) × (b : Expression) × (d : Sum) × (e : Sum) × (args ≡ and_expression a (and_expression b no_expression)) × IsSum a d × IsSum b e × (s ≡ plus_of d e)

two_parts : (a b : Expression) (x y : Option Sum) → ((s : Sum) → x ≡ Some s → IsSum a s) → ((s : Sum) → y ≡ Some s → IsSum b s) → (s : Sum) → Args (x ∷ y ∷ []) s (and_expression a (and_expression b no_expression))
two_parts a b None y f g s h = absurd (cc)
two_parts a b (Some d) None f g s h = absurd (cc)
two_parts a b (Some d) (Some e) f g s h = let same : s ≡ plus_of d e = cc in (a, b, d, e, refl, f d refl, g e refl, same)

no_parts : (s : Sum) → added [] ≡ Some s → ⊥
no_parts s h = absurd (cc)

one_part : (x : Option Sum) (s : Sum) → added (x ∷ []) ≡ Some s → ⊥
one_part None s h = absurd (cc)
one_part (Some a) s h = absurd (cc)

three_parts : (x y z : Option Sum) (zs : List (Option Sum)) (s : Sum) → added (x ∷ y ∷ z ∷ zs) ≡ Some s → ⊥
three_parts None y z zs s h = absurd (cc)
three_parts (Some a) None z zs s h = absurd (cc)
three_parts (Some a) (Some b) z zs s h = absurd (cc)

call_is : (p : Place) (m f : List ℕ) (args : Expressions) → ((s : Sum) → Args (sums_in args) s args) → (s : Sum) → (if is_addition m f then added (sums_in args) else None) ≡ Some s → IsSum (Expression.Call p m f args) s
call_is p m f args g s h = go (is_addition m f) refl h where
  go : (b : Bool) → is_addition m f ≡ b → (if b then added (sums_in args) else None) ≡ Some s → IsSum (Expression.Call p m f args) s
  go false e h = absurd (cc)
  go true e h =
      let n = names m f e in
      let (a, b, d, x, is, left, right, same) = g s h in
      subst (λ t. IsSum (Expression.Call p m f args) t) (sym same)
      (subst (λ t. IsSum (Expression.Call p m f t) (plus_of d x)) (sym is)
      (subst (λ t. IsSum (Expression.Call p t f (and_expression a (and_expression b no_expression))) (plus_of d x)) (sym n.0)
      (subst (λ t. IsSum (Expression.Call p (codes "erlang") t (and_expression a (and_expression b no_expression))) (plus_of d x)) (sym n.1) (addition p a b d x left right))))

mutual
  pub is_made : (e : Expression) (s : Sum) → sum_in e ≡ Some s → IsSum e s
  is_made (Expression.Int p n) s h = small_is p n s h
  is_made (Expression.Atom p a) s h = absurd (cc)
  is_made (Expression.Nil p) s h = absurd (cc)
  is_made (Expression.Variable p x) s h = absurd (cc)
  is_made (Expression.Name p f) s h = absurd (cc)
  is_made (Expression.Tuple p es) s h = absurd (cc)
  is_made (Expression.Cons p es tail) s h = absurd (cc)
  is_made (Expression.Values p es) s h = absurd (cc)
  is_made (Expression.Let p xs values body) s h = absurd (cc)
  is_made (Expression.Case p values cs) s h = absurd (cc)
  is_made (Expression.Lambda p q xs body) s h = absurd (cc)
  is_made (Expression.Letrec p ds body) s h = absurd (cc)
  is_made (Expression.Apply p f args) s h = absurd (cc)
  is_made (Expression.Call p m f args) s h = call_is p m f args (args_are args) s h
  is_made (Expression.Primop p f args) s h = absurd (cc)
  is_made (Expression.Try p part xs body ys handler) s h = absurd (cc)
  is_made (Expression.Do p first second) s h = absurd (cc)
  is_made (Expression.Catch p part) s h = absurd (cc)

  args_are : (args : Expressions) (s : Sum) → Args (sums_in args) s args
  args_are no_expression s h = absurd (no_parts s h)
  args_are (and_expression a es) s h = rest_are a (is_made a) es s h

  rest_are : (a : Expression) → ((s : Sum) → sum_in a ≡ Some s → IsSum a s) → (es : Expressions) (s : Sum) → Args (sum_in a ∷ sums_in es) s (and_expression a es)
  rest_are a f no_expression s h = absurd (one_part (sum_in a) s h)
  rest_are a f (and_expression b es) s h = last_are a f b (is_made b) es s h

  last_are : (a : Expression) → ((s : Sum) → sum_in a ≡ Some s → IsSum a s) → (b : Expression) → ((s : Sum) → sum_in b ≡ Some s → IsSum b s) → (es : Expressions) (s : Sum) → Args (sum_in a ∷ sum_in b ∷ sums_in es) s (and_expression a (and_expression b es))
  last_are a f b g no_expression s h = two_parts a b (sum_in a) (sum_in b) f g s h
  last_are a f b g (and_expression c es) s h = absurd (three_parts (sum_in a) (sum_in b) (sum_in c) (sums_in es) s h)

pub none_made : (e : Expression) → sum_in e ≡ None → (s : Sum) → IsSum e s → ⊥
none_made e h s is = let t = there e s is in absurd (cc)
