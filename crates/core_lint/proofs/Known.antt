-- Names that were entered, and the set of those that are known.
use Rattle.std.proofs.Common.{◌≡◌, ℕ, ◌+◌, Bool, true, false, cond, not, ◌&&◌, ◌||◌, nat_lt, nat_eq, List, [], ◌∷◌, ◌++◌, length, Result, Ok, Err, arith, refl, ap, sym, ◌∙◌, subst, bytes_eq}
use Rattle.std.specs.Result.{is_err, is_ok}
use Rattle.std.specs.List.{list_any}
use Rattle.std.specs.BTreeSet.{BTreeSet, contains, Updates}
use Rattle.std.specs.Cmp.{both_tied}
use Rattle.std.specs.Cmp.Lexicographic.{slice_cmp}
use Rattle.std.specs.declared.cmp.Ordering.TheVariants.{Less, Equal, Greater}
use Rattle.std.specs.Ordering.{is_eq, nat_cmp}
use Rattle.std.proofs.lemmas.Bool.Decides.{nat_tests}
use Rattle.std.proofs.lemmas.Map.Text.{is_eq-slice_cmp}
use Rattle.std.proofs.lemmas.Slice.Eq.{bytes_eq-Decides}
use Rattle.core_lint.specs.declared.name.Name.{Name}
use Rattle.core_lint.specs.declared.scope.Entered.{Entered}
use Rattle.core_lint.specs.Keys.{Key, key_of, same_key, name_order, keys, IsMarked, IsKnown}

both : (a b : Bool) → (a && b) ≡ true → (a ≡ true) × (b ≡ true)
both true b e = (refl, e)
both false b e = absurd (cc)

pub same_key_is : (a b : Key) → same_key a b ≡ true → a ≡ b
same_key_is a b e =
    let h = both (bytes_eq a.0 b.0) (nat_eq a.1 b.1) e in
    let text : a.0 ≡ b.0 = (bytes_eq-Decides a.0 b.0).0 h.0 in
    let number : a.1 ≡ b.1 = grind (arith, nat_tests, h.1) in
    λ i. (text i, number i)

pub same_key_refl : (a : Key) → same_key a a ≡ true
same_key_refl a =
    let text : bytes_eq a.0 a.0 ≡ true = (bytes_eq-Decides a.0 a.0).1 refl in
    let number : nat_eq a.1 a.1 ≡ true = grind (arith, nat_tests) in
    rw (text, number)

pub same_key_sym : (a b : Key) → same_key a b ≡ same_key b a
same_key_sym a b = go (same_key a b) (same_key b a) refl refl where
  go : (x y : Bool) → same_key a b ≡ x → same_key b a ≡ y → x ≡ y
  go true true e f = refl
  go false false e f = refl
  go true false e f = let h : same_key b a ≡ true = subst (λ z. same_key z a ≡ true) (same_key_is a b e) (same_key_refl a) in absurd (cc)
  go false true e f = let h : same_key a b ≡ true = subst (λ z. same_key z b ≡ true) (same_key_is b a f) (same_key_refl b) in absurd (cc)

number_ties : (x y : ℕ) → nat_eq x y ≡ is_eq (nat_cmp x y)
number_ties x y = go (nat_lt x y) (nat_eq x y) refl refl where
  go : (a b : Bool) → nat_lt x y ≡ a → nat_eq x y ≡ b → b ≡ is_eq (cond a Less (cond b Equal Greater))
  go false false e f = refl
  go false true e f = refl
  go true false e f = refl
  go true true e f = absurd (grind (arith, nat_tests, e, f))

-- two names are at the same position of the order if and only if their keys are the same
pub name_ties : (a b : Name) → is_eq (name_order a b) ≡ same_key (key_of a) (key_of b)
name_ties a b = sym (both_tied (bytes_eq a.text.now b.text.now) (nat_eq a.arity b.arity) (slice_cmp nat_cmp a.text.now b.text.now) (nat_cmp a.arity b.arity) (sym (is_eq-slice_cmp a.text.now b.text.now)) (number_ties a.arity b.arity))

abbrev is_in : List Key → Key → Bool
is_in ks k = list_any (λ z. same_key k z) ks

-- equal keys are among the same keys
is_in-same : (ks : List Key) (a b : Key) → same_key a b ≡ true → is_in ks a ≡ is_in ks b
is_in-same ks a b e = ap (is_in ks) (same_key_is a b e)

-- the set has a name if and only if its key is among these
abbrev Has : BTreeSet Name → List Key → Type 0
Has m ks = (q : Name) → contains name_order m q ≡ is_in ks (key_of q)

pub keys-append : (ks : List Key) (es : List Entered) (e : Entered) → keys ks (es ++ e ∷ []) ≡ key_of e.name ∷ keys ks es
keys-append ks [] e = refl
keys-append ks (d ∷ es) e = keys-append (key_of d.name ∷ ks) es e

pub keys-length : (ks : List Key) (es : List Entered) → length (keys ks es) ≡ length ks + length es
keys-length ks [] = omega arith
keys-length ks (e ∷ es) = keys-length (key_of e.name ∷ ks) es ∙ omega arith

has_entered : (ks : List Key) (m n : BTreeSet Name) (k : Name) → Has m ks → Updates name_order m n k true → Has n (key_of k ∷ ks)
has_entered ks m n k has updates q = updates.0 q ∙ go (is_eq (name_order k q)) refl where
  go : (b : Bool) → is_eq (name_order k q) ≡ b → cond b true (contains name_order m q) ≡ (same_key (key_of q) (key_of k) || is_in ks (key_of q))
  go true e = rw (same_key_sym (key_of q) (key_of k), ← name_ties k q, e) refl
  go false e = rw (same_key_sym (key_of q) (key_of k), ← name_ties k q, e) (has q)

-- a name that hid none is known no longer
has_left : (ks : List Key) (m n : BTreeSet Name) (k : Name) → Has m (key_of k ∷ ks) → is_in ks (key_of k) ≡ false → Updates name_order m n k false → Has n ks
has_left ks m n k has new updates q = updates.0 q ∙ go (is_eq (name_order k q)) refl where
  go : (b : Bool) → is_eq (name_order k q) ≡ b → cond b false (contains name_order m q) ≡ is_in ks (key_of q)
  go true e = sym new ∙ is_in-same ks (key_of k) (key_of q) (sym (name_ties k q) ∙ e)
  go false e = has q ∙ ap (λ b. b || is_in ks (key_of q)) (same_key_sym (key_of q) (key_of k) ∙ sym (name_ties k q) ∙ e)

-- a name that hid another is known without it
has_hidden : (ks : List Key) (m : BTreeSet Name) (k : Name) → Has m (key_of k ∷ ks) → is_in ks (key_of k) ≡ true → Has m ks
has_hidden ks m k has old q = has q ∙ go (same_key (key_of q) (key_of k)) refl where
  go : (b : Bool) → same_key (key_of q) (key_of k) ≡ b → (b || is_in ks (key_of q)) ≡ is_in ks (key_of q)
  go true e = sym (is_in-same ks (key_of q) (key_of k) e ∙ old)
  go false e = refl

marked-append : (ks : List Key) (es : List Entered) (e : Entered) → IsMarked ks es → e.hides ≡ is_in (keys ks es) (key_of e.name) → IsMarked ks (es ++ e ∷ [])
marked-append ks [] e marked is = (is, tt)
marked-append ks (d ∷ es) e marked is = (marked.0, marked-append (key_of d.name ∷ ks) es e marked.1 is)

marked_front : (ks : List Key) (es : List Entered) (e : Entered) → IsMarked ks (es ++ e ∷ []) → IsMarked ks es × (e.hides ≡ is_in (keys ks es) (key_of e.name))
marked_front ks [] e marked = (tt, marked.0)
marked_front ks (d ∷ es) e marked = let h = marked_front (key_of d.name ∷ ks) es e marked.1 in ((marked.0, h.0), h.1)

not-is : (a b : Bool) → a ≡ not b → b ≡ not a
not-is true true e = e
not-is true false e = refl
not-is false true e = refl
not-is false false e = e

-- whether a name was known before is whether it hides one
pub hides_is : (es : List Entered) (m : BTreeSet Name) (k : Name) (new : Bool) → IsKnown es m → new ≡ not (contains name_order m k) → not new ≡ is_in (keys [] es) (key_of k)
hides_is es m k new known is = sym (not-is new (contains name_order m k) is) ∙ known.0 k

-- once a name was entered
pub entered_known : (es : List Entered) (m n : BTreeSet Name) (k : Name) (new : Bool) → IsKnown es m → new ≡ not (contains name_order m k) → Updates name_order m n k true →
    IsKnown (es ++ record { name = k; hides = not new } ∷ []) n
entered_known es m n k new known is updates =
    let e : Entered = record { name = k; hides = not new } in (
      (λ q. has_entered (keys [] es) m n k known.0 updates q ∙ ap (λ ks. is_in ks (key_of q)) (sym (keys-append [] es e))),
      marked-append [] es e known.1 (hides_is es m k new known is),
    )

-- where there was no memory for it, a name that was known before is known still
pub kept_known : (es : List Entered) (m n : BTreeSet Name) (k : Name) → IsKnown es m → false ≡ not (contains name_order m k) → Updates name_order m n k true → IsKnown es n
kept_known es m n k known is updates =
    (has_hidden (keys [] es) n k (has_entered (keys [] es) m n k known.0 updates) (sym (hides_is es m k false known is)), known.1)

-- and one that is taken out again is not
pub restored_known : (es : List Entered) (m n o : BTreeSet Name) (k : Name) → IsKnown es m → true ≡ not (contains name_order m k) → Updates name_order m n k true → Updates name_order n o k false →
    IsKnown es o
restored_known es m n o k known is updates removed =
    (has_left (keys [] es) n o k (has_entered (keys [] es) m n k known.0 updates) (sym (hides_is es m k true known is)) removed, known.1)

-- once a name was left that hid none
pub left_known : (es : List Entered) (m n : BTreeSet Name) (e : Entered) → IsKnown (es ++ e ∷ []) m → e.hides ≡ false → Updates name_order m n e.name false → IsKnown es n
left_known es m n e known none updates =
    let h = marked_front [] es e known.1 in
    (has_left (keys [] es) m n e.name (λ q. known.0 q ∙ ap (λ ks. is_in ks (key_of q)) (keys-append [] es e)) (sym h.1 ∙ none) updates, h.0)

-- and one that hid another
pub shown_known : (es : List Entered) (m : BTreeSet Name) (e : Entered) → IsKnown (es ++ e ∷ []) m → e.hides ≡ true → IsKnown es m
shown_known es m e known some =
    let h = marked_front [] es e known.1 in
    (has_hidden (keys [] es) m e.name (λ q. known.0 q ∙ ap (λ ks. is_in ks (key_of q)) (keys-append [] es e)) (sym h.1 ∙ some), h.0)

-- what a list has where there was memory for one more
pub where_pushed : {T E X : Type 0} (r : Result T E) (xs ys : List X) {items : List X} → false ≡ is_err r → items ≡ cond (is_ok r) xs ys → items ≡ xs
where_pushed (Ok x) xs ys e h = h
where_pushed (Err x) xs ys e h = absurd (cc)
