-- What stands between quotes is read as it is spelled.
use Rattle.std.proofs.Common.{◌≡◌, ℕ, zero, suc, ◌+◌, ◌-◌, ◌<◌, Bool, true, false, cond, nat_eq, List, [], ◌∷◌, ◌++◌, length, take, drop, Option, Some, None, Ok, Err, refl, ap, sym, ◌∙◌, subst, append_assoc, length-append, arith}
use Rattle.std.specs.Prelude.{slice_index}
use Rattle.std.proofs.lemmas.Bool.Decides.{nat_tests}
use Rattle.std.proofs.lemmas.List.{append-nil, take_at, drop_at}
use Rattle.core_text.specs.declared.quoted.Quoted.{Quoted}
use Rattle.core_text.specs.declared.code_point.CodePoint.{CodePoint}
use Rattle.core_text.specs.Bytes.{begins}
use Rattle.core_text.specs.Walks.{walk, go_on}
use Rattle.core_text.specs.CodePoints.{code_point_at, value_step_by, value_step, value_end, values_between}
use Rattle.core_text.specs.Quotes.{no_quote, longer, quoted_step_by, quoted_step, nothing, quoted_at}
use Rattle.core_text.specs.Prefixes.{BeginsWith}
use Rattle.core_text.specs.Characters.{IsCodePoint, IsQuoted, closing, code_point}
use Rattle.core_text.specs.Laws.{HasQuoted}
use Rattle.core_text.proofs.Walks.{walk_prefix, walk_halt}
use Rattle.core_text.proofs.Points.{point_there, point_read, point_cut, point_some, first_of}

-- what stands up to the closing quote, behind what is known
pub record Found (quote : ℕ) (s : List ℕ) (b r : Quoted) : Type 0 where
  pub values : List ℕ
  pub size : ℕ
  pub bytes : r.length ≡ b.length + size
  pub count : r.code_points ≡ b.code_points + length values
  pub there : BeginsWith (IsQuoted quote values) s size

abbrev pub Gives : ℕ → List ℕ → Quoted → Option Quoted → Type 0
Gives quote s b None = Unit {0}
Gives quote s b (Some r) = Found quote s b r

is_equal : (a b : ℕ) → nat_eq a b ≡ true → a ≡ b
is_equal a b h = grind (arith, nat_tests)

at_quote : (quote c : ℕ) (t : List ℕ) (b : Quoted) → nat_eq c quote ≡ true → Found quote (c ∷ t) b (longer b 1 0)
at_quote quote c t b is = record {
  values = [];
  size = 1;
  bytes = refl;
  count = refl;
  there = record { prefix = quote ∷ []; rest = t; is = ap (λ d. d ∷ t) (is_equal c quote is); size = refl; holds = closing };
}

more : (quote : ℕ) (s : List ℕ) (b : Quoted) (p : CodePoint) (r : Option Quoted) → (v : BeginsWith (IsCodePoint p.value) s p.length) → begins (λ c. nat_eq c quote) v.prefix ≡ false
    → Gives quote v.rest (longer b p.length 1) r → Gives quote s b r
more quote s b p None v other g = tt
more quote s b p (Some r) v other g =
    let q = g.there in
    record {
      values = p.value ∷ g.values;
      size = p.length + g.size;
      bytes = omega (arith, g.bytes);
      count = omega (arith, g.count);
      there = record {
        prefix = v.prefix ++ q.prefix;
        rest = q.rest;
        is = v.is ∙ ap (λ t. v.prefix ++ t) q.is ∙ sym (append_assoc v.prefix q.prefix q.rest);
        size = omega (arith, length-append v.prefix q.prefix, v.size, q.size);
        holds = code_point (subst (IsCodePoint p.value v.prefix) q.is v.holds) other q.holds;
      };
    }

positive : (s : List ℕ) (p : CodePoint) → BeginsWith (IsCodePoint p.value) s p.length → 0 < p.length
positive s p v = omega (arith, v.size, point_some p.value v.prefix v.rest v.holds)

behind : (c : ℕ) (t : List ℕ) (n : ℕ) → 0 < n → drop (n - 1) t ≡ drop n (c ∷ t)
behind c t zero some = absurd (omega (arith, some))
behind c t (suc n) some = ap (λ k. drop k t) (omega arith)

step_by : (quote c : ℕ) (t : List ℕ) (b : Quoted) (p : Option CodePoint) → nat_eq c quote ≡ false → code_point_at (c ∷ t) ≡ p
    → ((n : ℕ) (u : Quoted) → Gives quote (drop (n - 1) t) u (walk (quoted_step quote) no_quote t (n - 1) u))
    → Gives quote (c ∷ t) b (go_on (quoted_step_by p b) (λ q. walk (quoted_step quote) no_quote t (q.0 - 1) q.1))
step_by quote c t b None other is next = tt
step_by quote c t b (Some p) other is next =
    let v = point_there (c ∷ t) p is in
    let rest : drop (p.length - 1) t ≡ v.rest = behind c t p.length (positive _ p v) ∙ ap (drop p.length) v.is ∙ drop_at v.prefix v.rest p.length v.size in
    let u = longer b p.length 1 in
    more quote (c ∷ t) b p _ v (first_of (λ c. nat_eq c quote) v.prefix v.rest c t v.is other)
    (subst (λ s. Gives quote s u (walk (quoted_step quote) no_quote t (p.length - 1) u)) rest (next p.length u))

step_cases : (quote c : ℕ) (t : List ℕ) (b : Quoted) (x : Bool) → nat_eq c quote ≡ x
    → ((n : ℕ) (u : Quoted) → Gives quote (drop (n - 1) t) u (walk (quoted_step quote) no_quote t (n - 1) u))
    → Gives quote (c ∷ t) b (go_on (cond x (Err (Some (longer b 1 0))) (quoted_step_by (code_point_at (c ∷ t)) b)) (λ q. walk (quoted_step quote) no_quote t (q.0 - 1) q.1))
step_cases quote c t b true is next = at_quote quote c t b is
step_cases quote c t b false is next = step_by quote c t b (code_point_at (c ∷ t)) is refl next

gives : (quote : ℕ) (s : List ℕ) (k : ℕ) (b : Quoted) → Gives quote (drop k s) b (walk (quoted_step quote) no_quote s k b)
gives quote [] zero b = tt
gives quote [] (suc k) b = tt
gives quote (c ∷ t) (suc k) b = gives quote t k b
gives quote (c ∷ t) zero b = step_cases quote c t b (nat_eq c quote) refl (λ n u. gives quote t (n - 1) u)

quoted_there : (quote : ℕ) (s : List ℕ) (r : Quoted) → quoted_at quote s ≡ Some r → Found quote s nothing r
unfolding quoted_at
quoted_there quote s r is = subst (Gives quote s nothing) is (gives quote s 0 nothing)

pub quoted_has : (quote : ℕ) (s : List ℕ) (r : Quoted) → quoted_at quote s ≡ Some r → HasQuoted quote s r
quoted_has quote s r is =
    let f = quoted_there quote s r is in
    let bytes : f.size ≡ r.length = omega (arith, f.bytes) in
    record { values = f.values; count = omega (arith, f.count); there = subst (BeginsWith (IsQuoted quote f.values) s) bytes f.there }

-- and what is there is read
not_quote : (quote : ℕ) (cs us : List ℕ) → begins (λ c. nat_eq c quote) cs ≡ false → 0 < length cs → nat_eq (slice_index (cs ++ us) 0) quote ≡ false
not_quote quote [] us other some = absurd (omega (arith, some))
not_quote quote (c ∷ cs) us other some = other

abbrev quoted : ℕ → ℕ → Option Quoted
quoted m n = Some (record { length = m; code_points = n })

pair_same : (m n k l : ℕ) → m ≡ k → n ≡ l → quoted m n ≡ quoted k l
pair_same m n k l f g = ap (λ m. quoted m n) f ∙ ap (λ n. quoted k n) g

step_read : (quote v : ℕ) (cs us : List ℕ) (b : Quoted) → IsCodePoint v cs us → begins (λ c. nat_eq c quote) cs ≡ false → quoted_step quote (cs ++ us) b ≡ Ok (length cs, longer b (length cs) 1)
step_read quote v cs us b is other =
    ap (λ x. cond x (Err (Some (longer b 1 0))) (quoted_step_by (code_point_at (cs ++ us)) b)) (not_quote quote cs us other (point_some v cs us is))
    ∙ ap (λ p. quoted_step_by p b) (point_read v cs us is)

quote_same : (quote : ℕ) → nat_eq quote quote ≡ true
quote_same quote = grind (arith, nat_tests)

reads : (quote : ℕ) (vs cs us : List ℕ) → IsQuoted quote vs cs us → (b : Quoted) → walk (quoted_step quote) no_quote (cs ++ us) 0 b ≡ Some (longer b (length cs) (length vs))
reads quote vs cs us closing b =
    walk_halt (quoted_step quote) no_quote (quote ∷ []) us b (Some (longer b 1 0)) (omega arith)
    (ap (λ x. cond x (Err (Some (longer b 1 0))) (quoted_step_by (code_point_at (quote ∷ us)) b)) (quote_same quote))
reads quote vs cs us (code_point {v = v} {vs = ws} {cs = ds} {ds = es} is other rest) b =
    let u = longer b (length ds) 1 in
    ap (λ t. walk (quoted_step quote) no_quote t 0 b) (append_assoc ds es us)
    ∙ walk_prefix (quoted_step quote) no_quote ds (es ++ us) (length ds) b u refl (point_some v ds (es ++ us) is) (step_read quote v ds (es ++ us) b is other)
    ∙ reads quote ws es us rest u ∙ pair_same _ _ _ _ (omega (arith, length-append ds es)) (omega arith)

pub quoted_read : (quote : ℕ) (vs cs us : List ℕ) → IsQuoted quote vs cs us → quoted_at quote (cs ++ us) ≡ Some (record { length = length cs; code_points = length vs })
unfolding quoted_at
quoted_read quote vs cs us is = reads quote vs cs us is nothing ∙ pair_same _ _ _ _ (omega arith) (omega arith)

-- the code points before the closing quote
pub record Values (quote : ℕ) (vs cs : List ℕ) : Type 0 where
  pub body : List ℕ
  pub is : cs ≡ body ++ quote ∷ []
  pub values : (ws : List ℕ) → walk value_step value_end body 0 ws ≡ ws ++ vs

values_in : (quote : ℕ) (vs cs us : List ℕ) → IsQuoted quote vs cs us → Values quote vs cs
values_in quote vs cs us closing = record { body = []; is = refl; values = λ ws. sym (append-nil ws) }
values_in quote vs cs us (code_point {v = v} {vs = xs} {cs = ds} {ds = es} is other rest) =
    let w = values_in quote xs es us rest in
    let cut : IsCodePoint v ds w.body = point_cut v ds (es ++ us) w.body (quote ∷ us) is (ap (λ t. t ++ us) w.is ∙ append_assoc w.body (quote ∷ []) us) in
    record {
      body = ds ++ w.body;
      is = ap (λ t. ds ++ t) w.is ∙ sym (append_assoc ds w.body (quote ∷ []));
      values = λ ws.
          walk_prefix value_step value_end ds w.body (length ds) ws (ws ++ v ∷ []) refl (point_some v ds w.body cut) (ap (λ p. value_step_by p ws) (point_read v ds w.body cut))
          ∙ w.values (ws ++ v ∷ []) ∙ append_assoc ws (v ∷ []) xs;
    }

pub values_read : (quote : ℕ) (vs cs us : List ℕ) → IsQuoted quote vs cs us → values_between (take (length cs - 1) cs) ≡ vs
unfolding values_between
values_read quote vs cs us is =
    let w = values_in quote vs cs us is in
    let size : length w.body ≡ length cs - 1 = omega (arith, ap length w.is, length-append w.body (quote ∷ [])) in
    ap (λ t. walk value_step value_end t 0 []) (ap (take (length cs - 1)) w.is ∙ take_at w.body (quote ∷ []) (length cs - 1) size) ∙ w.values []

pub quoted_some : (quote : ℕ) (vs cs us : List ℕ) → IsQuoted quote vs cs us → 0 < length cs
quoted_some quote vs cs us closing = omega arith
quoted_some quote vs cs us (code_point {v = v} {cs = ds} {ds = es} is other rest) = omega (arith, length-append ds es, point_some v ds _ is)
