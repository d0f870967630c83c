-- The first of some broken rules.
use Rattle.std.proofs.Common.{◌≡◌, ℕ, zero, suc, ◌+◌, ◌<◌, ◌⊎◌, inl, inr, Bool, true, false, cond, ◌&&◌, ◌||◌, nat_lt, nat_eq, List, [], ◌∷◌, ◌++◌, Option, Some, None, arith, refl, ap, sym, ◌∙◌, subst}
use Rattle.std.proofs.lemmas.Bool.Decides.{nat_tests}
use Rattle.core_ast.specs.declared.rule.Rule.{Rule}
use Rattle.core_ast.specs.declared.rule.Rule.TheVariants.{DuplicateFunction, ExportUndefined, UnboundFunction, UnboundVariable, DuplicateVariable, Degree, ArityLimit, UnknownPrimop, SizeLimit}
use Rattle.core_ast.specs.Rules.{rank}
use Rattle.core_ast.specs.declared.rule.Broken.{Broken}
use Rattle.core_ast.specs.First.{is_sooner, noted, noted_all}

rule_of : ℕ → Rule
rule_of (suc zero) = DuplicateFunction
rule_of (suc (suc zero)) = ExportUndefined
rule_of (suc (suc (suc zero))) = UnboundFunction
rule_of (suc (suc (suc (suc zero)))) = UnboundVariable
rule_of (suc (suc (suc (suc (suc zero))))) = DuplicateVariable
rule_of (suc (suc (suc (suc (suc (suc zero)))))) = Degree
rule_of (suc (suc (suc (suc (suc (suc (suc zero))))))) = ArityLimit
rule_of (suc (suc (suc (suc (suc (suc (suc (suc zero)))))))) = UnknownPrimop
rule_of n = SizeLimit

rule_of-rank : (r : Rule) → rule_of (rank r) ≡ r
unfolding rule_of
rule_of-rank DuplicateFunction = refl
rule_of-rank ExportUndefined = refl
rule_of-rank UnboundFunction = refl
rule_of-rank UnboundVariable = refl
rule_of-rank DuplicateVariable = refl
rule_of-rank Degree = refl
rule_of-rank ArityLimit = refl
rule_of-rank UnknownPrimop = refl
rule_of-rank SizeLimit = refl

-- two rules with one position in the order are one
pub rank_same : (r s : Rule) → rank r ≡ rank s → r ≡ s
rank_same r s e = sym (rule_of-rank r) ∙ ap rule_of e ∙ rule_of-rank s

-- whether two are the same
abbrev pub is_same : (a b : Broken) → Bool
is_same a b = nat_eq a.at.line b.at.line && (nat_eq a.at.col b.at.col && nat_eq (rank a.rule) (rank b.rule))

same_numbers : (l m c d r s : ℕ) → (nat_eq l m && (nat_eq c d && nat_eq r s)) ≡ true → (l ≡ m) × ((c ≡ d) × (r ≡ s))
same_numbers l m c d r s e = grind (arith, nat_tests)

numbers_same : (l c r : ℕ) → (nat_eq l l && (nat_eq c c && nat_eq r r)) ≡ true
numbers_same l c r = grind (arith, nat_tests)

pub is_same_is : (a b : Broken) → is_same a b ≡ true → a ≡ b
is_same_is a b e =
    let h = same_numbers a.at.line b.at.line a.at.col b.at.col (rank a.rule) (rank b.rule) e in
    let r = rank_same a.rule b.rule (h.1).1 in
    λ i. record { rule = r i; at = record { line = h.0 i; col = (h.1).0 i } }

pub is_same_refl : (a : Broken) → is_same a a ≡ true
is_same_refl a = numbers_same a.at.line a.at.col (rank a.rule)

-- of two, the first is answered before the second by their numbers
abbrev sooner : (l m c d r s : ℕ) → Bool
sooner l m c d r s = nat_lt l m || (nat_eq l m && (nat_lt c d || (nat_eq c d && nat_lt r s)))

sooner_asym : (l m c d r s : ℕ) → sooner l m c d r s ≡ true → sooner m l d c s r ≡ false
sooner_asym l m c d r s e = grind (arith, nat_tests)

sooner_neg : (l m n c d e r s t : ℕ) → sooner l m c d r s ≡ false → sooner m n d e s t ≡ false → sooner l n c e r t ≡ false
sooner_neg l m n c d e r s t f g = grind (arith, nat_tests)

asym : (a b : Broken) → is_sooner a b ≡ true → is_sooner b a ≡ false
asym a b e = sooner_asym a.at.line b.at.line a.at.col b.at.col (rank a.rule) (rank b.rule) e

neg : (a b c : Broken) → is_sooner a b ≡ false → is_sooner b c ≡ false → is_sooner a c ≡ false
neg a b c e f = sooner_neg a.at.line b.at.line c.at.line a.at.col b.at.col c.at.col (rank a.rule) (rank b.rule) (rank c.rule) e f

-- how often one stands in a list
abbrev pub occurs : Broken → List Broken → ℕ
occurs b [] = 0
occurs b (c ∷ cs) = cond (is_same b c) 1 0 + occurs b cs

pub occurs-append : (b : Broken) (xs ys : List Broken) → occurs b (xs ++ ys) ≡ occurs b xs + occurs b ys
occurs-append b [] ys = omega arith
occurs-append b (x ∷ xs) ys = rw (occurs-append b xs ys) (omega arith)

pub noted_all-append : (xs ys : List Broken) (first : Option Broken) → noted_all (xs ++ ys) first ≡ noted_all ys (noted_all xs first)
noted_all-append [] ys first = refl
noted_all-append (x ∷ xs) ys first = noted_all-append xs ys (noted x first)

-- b is the first of these and of one that may have been known before
pub record IsFirstOf (list : List Broken) (first : Option Broken) (b : Broken) : Type 0 where
  pub member : (first ≡ Some b) ⊎ (0 < occurs b list)
  pub before_none : (c : Broken) → 0 < occurs c list → is_sooner c b ≡ false
  pub before_known : (a : Broken) → first ≡ Some a → is_sooner a b ≡ false

self_not_sooner : (a : Broken) → is_sooner a a ≡ false
self_not_sooner a = go (is_sooner a a) refl where
  go : (x : Bool) → is_sooner a a ≡ x → x ≡ false
  go false e = refl
  go true e = let h = asym a a e in absurd (cc)

-- two that are the same come first alike
sooner_like : (c x b : Broken) → is_same c x ≡ true → is_sooner x b ≡ false → is_sooner c b ≡ false
sooner_like c x b same h = subst (λ z. is_sooner z b ≡ false) (sym (is_same_is c x same)) h

known_is : (a b : Broken) → Some a ≡ Some b → a ≡ b
known_is a b e = cc

occurs_head : (b x : Broken) (xs : List Broken) → x ≡ b → 0 < occurs b (x ∷ xs)
occurs_head b x xs e = subst (λ z. 0 < cond (is_same b z) 1 0 + occurs b xs) (sym e) (rw (is_same_refl b) (omega arith))

occurs_tail : (b x : Broken) (xs : List Broken) → 0 < occurs b xs → 0 < occurs b (x ∷ xs)
occurs_tail b x xs h = omega arith

-- what is first of the rest, once x is known too where none was, is first of all
first_of_none : (x : Broken) (xs : List Broken) (b : Broken) → IsFirstOf xs (Some x) b → IsFirstOf (x ∷ xs) None b
first_of_none x xs b h = record { member = inr (from h.member); before_none = before; before_known = λ a e. absurd (cc) } where
  from : (Some x ≡ Some b) ⊎ (0 < occurs b xs) → 0 < occurs b (x ∷ xs)
  from (inl e) = occurs_head b x xs (known_is x b e)
  from (inr l) = occurs_tail b x xs l

  split : (c : Broken) (same : Bool) → is_same c x ≡ same → 0 < cond same 1 0 + occurs c xs → is_sooner c b ≡ false
  split c true e l = sooner_like c x b e (h.before_known x refl)
  split c false e l = h.before_none c (omega arith)

  before : (c : Broken) → 0 < occurs c (x ∷ xs) → is_sooner c b ≡ false
  before c l = split c (is_same c x) refl l

-- where x is answered before what was known
first_of_sooner : (x a : Broken) (xs : List Broken) (b : Broken) → is_sooner x a ≡ true → IsFirstOf xs (Some x) b → IsFirstOf (x ∷ xs) (Some a) b
first_of_sooner x a xs b s h =
    record { member = from (first_of_none x xs b h).member; before_none = (first_of_none x xs b h).before_none; before_known = known } where
      from : (None ≡ Some b) ⊎ (0 < occurs b (x ∷ xs)) → (Some a ≡ Some b) ⊎ (0 < occurs b (x ∷ xs))
      from (inl e) = absurd (cc)
      from (inr l) = inr l

      known : (d : Broken) → Some a ≡ Some d → is_sooner d b ≡ false
      known d e = subst (λ z. is_sooner z b ≡ false) (known_is a d e) (neg a x b (asym x a s) (h.before_known x refl))

-- where it isn't
first_of_later : (x a : Broken) (xs : List Broken) (b : Broken) → is_sooner x a ≡ false → IsFirstOf xs (Some a) b → IsFirstOf (x ∷ xs) (Some a) b
first_of_later x a xs b s h = record { member = from h.member; before_none = before; before_known = h.before_known } where
  from : (Some a ≡ Some b) ⊎ (0 < occurs b xs) → (Some a ≡ Some b) ⊎ (0 < occurs b (x ∷ xs))
  from (inl e) = inl e
  from (inr l) = inr (occurs_tail b x xs l)

  split : (c : Broken) (same : Bool) → is_same c x ≡ same → 0 < cond same 1 0 + occurs c xs → is_sooner c b ≡ false
  split c true e l = sooner_like c x b e (neg x a b s (h.before_known a refl))
  split c false e l = h.before_none c (omega arith)

  before : (c : Broken) → 0 < occurs c (x ∷ xs) → is_sooner c b ≡ false
  before c l = split c (is_same c x) refl l

-- the first that is known in the end is the first of all
pub first_of_all : (list : List Broken) (first : Option Broken) (b : Broken) → noted_all list first ≡ Some b → IsFirstOf list first b
first_of_all [] first b e = record {
  member = inl e;
  before_none = λ c l. absurd (omega arith);
  before_known = λ a k. subst (λ z. is_sooner z b ≡ false) (known_is b a (sym e ∙ k)) (self_not_sooner b);
}
first_of_all (x ∷ xs) None b e = first_of_none x xs b (first_of_all xs (Some x) b e)
first_of_all (x ∷ xs) (Some a) b e = go (is_sooner x a) refl (first_of_all xs (noted x (Some a)) b e) where
  go : (s : Bool) → is_sooner x a ≡ s → IsFirstOf xs (noted x (Some a)) b → IsFirstOf (x ∷ xs) (Some a) b
  go true i h = first_of_sooner x a xs b i (subst (λ s. IsFirstOf xs (cond s (Some x) (Some a)) b) i h)
  go false i h = first_of_later x a xs b i (subst (λ s. IsFirstOf xs (cond s (Some x) (Some a)) b) i h)

known_stays : (list : List Broken) (a : Broken) → noted_all list (Some a) ≡ None → ⊥
known_stays [] a e = cc
known_stays (x ∷ xs) a e = go (is_sooner x a) (λ b. known_stays xs b) e where
  go : (s : Bool) → ((b : Broken) → noted_all xs (Some b) ≡ None → ⊥) → noted_all xs (cond s (Some x) (Some a)) ≡ None → ⊥
  go true h e = h x e
  go false h e = h a e

-- where none is known in the end, there is none
pub none_of_all : (list : List Broken) → noted_all list None ≡ None → (b : Broken) → occurs b list ≡ 0
none_of_all [] e b = refl
none_of_all (x ∷ xs) e b = absurd (known_stays xs x e)
