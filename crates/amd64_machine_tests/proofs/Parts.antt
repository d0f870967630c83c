-- Parts without calls can be linked.
use Rattle.std.proofs.Common.{◌≡◌, ◌<◌, ℕ, [], ◌∷◌, length, ap, sym, subst, arith}
use Rattle.std.specs.Prelude.{List, All}
use Rattle.std.proofs.lemmas.List.Elements.{All-nil, All-cons}
use Rattle.image_link.specs.declared.code.Code.{Code}
use Rattle.image_link.specs.Code.{IsPart, IsCallIn}

pub no_calls : (n : ℕ) (c : Code) → 0 < length c.bytes → c.calls ≡ [] → c.closure_entry ≡ 0 → IsPart n c
no_calls n c some none zero =
    let empty : length c.calls ≡ 0 = ap length none in
    record {
      entry = omega (arith, some, zero);
      calls = subst (All (IsCallIn (length c.bytes) n)) (sym none) (All-nil (IsCallIn (length c.bytes) n));
      apart = λ i j d below lower. absurd (omega (arith, empty));
    }

pub both_fit : (n : ℕ) (a b : Code) {parts : List Code} → parts ≡ a ∷ b ∷ [] → IsPart n a → IsPart n b → All (IsPart n) parts
both_fit n a b is x y = subst (All (IsPart n)) (sym is) (All-cons (IsPart n) a (b ∷ []) x (All-cons (IsPart n) b [] y (All-nil (IsPart n))))
