-- Atoms by the bytes of their texts.
use Rattle.std.proofs.Common.{◌≡◌, ℕ, ◌<◌, Bool, true, false, ◌&&◌, nat_lt, List, [], ◌∷◌, ◌++◌, arith, refl, ap, sym, ◌∙◌, bytes_eq}
use Rattle.std.specs.Prelude.{encode_utf8_all}
use Rattle.std.specs.List.{list_all}
use Rattle.std.proofs.lemmas.Bool.Decides.{nat_tests}
use Rattle.std.proofs.lemmas.Slice.Eq.{bytes_eq-Decides}
use Rattle.std.proofs.lemmas.Str.{encodes_same, encode_ascii}

-- two texts have the same bytes if and only if they are the same
pub bytes_eq-encode : (a b : List ℕ) → bytes_eq (encode_utf8_all a) (encode_utf8_all b) ≡ bytes_eq a b
bytes_eq-encode a b = go (bytes_eq (encode_utf8_all a) (encode_utf8_all b)) (bytes_eq a b) refl refl where
  go : (x y : Bool) → bytes_eq (encode_utf8_all a) (encode_utf8_all b) ≡ x → bytes_eq a b ≡ y → x ≡ y
  go true true e f = refl
  go false false e f = refl
  go true false e f =
      let same : a ≡ b = encodes_same a b ((bytes_eq-Decides (encode_utf8_all a) (encode_utf8_all b)).0 e) in
      let h : bytes_eq a b ≡ true = (bytes_eq-Decides a b).1 same in
      absurd (cc)
  go false true e f =
      let same : a ≡ b = (bytes_eq-Decides a b).0 f in
      let h : bytes_eq (encode_utf8_all a) (encode_utf8_all b) ≡ true = (bytes_eq-Decides (encode_utf8_all a) (encode_utf8_all b)).1 (ap encode_utf8_all same) in
      absurd (cc)

both : (a b : Bool) → (a && b) ≡ true → (a ≡ true) × (b ≡ true)
both true b e = (refl, e)
both false b e = absurd (cc)

-- a text of ASCII is its own bytes
pub encode-ascii : (w : List ℕ) → list_all (λ b. nat_lt b 128) w ≡ true → encode_utf8_all w ≡ w
encode-ascii [] h = refl
encode-ascii (b ∷ bs) h =
    let parts = both (nat_lt b 128) (list_all (λ c. nat_lt c 128) bs) h in
    let small : b < 128 = grind (arith, nat_tests, parts.0) in
    ap (λ xs. xs ++ encode_utf8_all bs) (encode_ascii b small) ∙ ap (λ xs. b ∷ xs) (encode-ascii bs parts.1)

-- an atom is a text of ASCII if and only if its bytes are
pub bytes_eq-ascii : (a w : List ℕ) → list_all (λ b. nat_lt b 128) w ≡ true → bytes_eq (encode_utf8_all a) w ≡ bytes_eq a w
bytes_eq-ascii a w h = ap (λ x. bytes_eq (encode_utf8_all a) x) (sym (encode-ascii w h)) ∙ bytes_eq-encode a w
