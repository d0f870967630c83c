-- Prefixes of texts.
use Rattle.std.proofs.Common.{◌≡◌, ℕ, zero, suc, ◌+◌, ◌≤◌, ◌<◌, Bool, true, false, cond, List, [], ◌∷◌, ◌++◌, length, min, refl, ap, sym, ◌∙◌, one-add, arith}
use Rattle.std.specs.List.{prefix_len}
use Rattle.core_text.specs.Bytes.{begins}
use Rattle.core_text.specs.Prefixes.{AreAll, BeginsWith, ArePassing}

-- what passes a test at the beginning
prefix_step : (test : ℕ → Bool) (c : ℕ) (s : List ℕ) (b : Bool) → test c ≡ b → BeginsWith (ArePassing test) s (prefix_len test s) → BeginsWith (ArePassing test) (c ∷ s) (cond b (1 + prefix_len test s) 0)
prefix_step test c s true is f = record { prefix = c ∷ f.prefix; rest = f.rest; is = ap (λ t. c ∷ t) f.is; size = ap suc f.size ∙ sym (one-add (prefix_len test s)); holds = ((is, f.holds.0), f.holds.1) }
prefix_step test c s false is f = record { prefix = []; rest = c ∷ s; is = refl; size = refl; holds = (tt, is) }

pub passing : (test : ℕ → Bool) (s : List ℕ) → BeginsWith (ArePassing test) s (prefix_len test s)
passing test [] = record { prefix = []; rest = []; is = refl; size = refl; holds = (tt, refl) }
passing test (c ∷ s) = prefix_step test c s (test c) refl (passing test s)

pub stops : (test : ℕ → Bool) (us : List ℕ) → begins test us ≡ false → prefix_len test us ≡ 0
stops test [] out = refl
stops test (u ∷ us) out = ap (λ b. cond b (1 + prefix_len test us) 0) out

-- and how many there are
pub count : (test : ℕ → Bool) (cs us : List ℕ) → AreAll test cs → begins test us ≡ false → prefix_len test (cs ++ us) ≡ length cs
count test [] us all out = stops test us out
count test (c ∷ cs) us all out = ap (λ b. cond b (1 + prefix_len test (cs ++ us)) 0) all.0 ∙ one-add _ ∙ ap suc (count test cs us all.1 out)

pub count_some : (test : ℕ → Bool) (cs us : List ℕ) → AreAll test cs → length cs ≤ prefix_len test (cs ++ us)
count_some test [] us all = omega arith
count_some test (c ∷ cs) us all =
    let e : prefix_len test (c ∷ cs ++ us) ≡ 1 + prefix_len test (cs ++ us) = ap (λ b. cond b (1 + prefix_len test (cs ++ us)) 0) all.0 in
    omega (arith, e, count_some test cs us all.1)

-- what passes at the beginning, up to m bytes
abbrev pub AreUpTo : ℕ → (ℕ → Bool) → List ℕ → List ℕ → Type 0
AreUpTo m test cs us = AreAll test cs × (length cs ≤ m) × (length cs < m → begins test us ≡ false)

up_to_step : (m : ℕ) (test : ℕ → Bool) (c : ℕ) (s : List ℕ) (b : Bool) → test c ≡ b → BeginsWith (AreUpTo m test) s (min m (prefix_len test s))
    → BeginsWith (AreUpTo (suc m) test) (c ∷ s) (min (suc m) (cond b (1 + prefix_len test s) 0))
up_to_step m test c s true is f =
    record {
      prefix = c ∷ f.prefix;
      rest = f.rest;
      is = ap (λ t. c ∷ t) f.is;
      size = omega (arith, f.size);
      holds = ((is, f.holds.0), omega (arith, f.holds.1), λ lt. f.holds.2 (omega (arith, lt)));
    }
up_to_step m test c s false is f = record { prefix = []; rest = c ∷ s; is = refl; size = omega arith; holds = (tt, omega arith, λ lt. is) }

pub up_to : (m : ℕ) (test : ℕ → Bool) (s : List ℕ) → BeginsWith (AreUpTo m test) s (min m (prefix_len test s))
up_to zero test s = record { prefix = []; rest = s; is = refl; size = omega arith; holds = (tt, omega arith, λ lt. absurd (omega (arith, lt))) }
up_to (suc m) test [] = record { prefix = []; rest = []; is = refl; size = omega arith; holds = (tt, omega arith, λ lt. refl) }
up_to (suc m) test (c ∷ s) = up_to_step m test c s (test c) refl (up_to m test s)

-- what doesn't begin a text doesn't begin a prefix of it
pub begins_less : (test : ℕ → Bool) (us ws : List ℕ) → begins test (us ++ ws) ≡ false → begins test us ≡ false
begins_less test [] ws out = refl
begins_less test (u ∷ us) ws out = out

-- a byte more at the beginning
pub behind_byte : (R T : List ℕ → List ℕ → Type 0) (c n : ℕ) (s : List ℕ) → ((cs us : List ℕ) → R cs us → T (c ∷ cs) us) → BeginsWith R s n → BeginsWith T (c ∷ s) (n + 1)
behind_byte R T c n s f b = record { prefix = c ∷ b.prefix; rest = b.rest; is = ap (λ t. c ∷ t) b.is; size = omega (arith, b.size); holds = f b.prefix b.rest b.holds }
