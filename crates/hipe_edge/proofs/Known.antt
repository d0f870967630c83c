-- What reads and writes in a row do to known bytes.
use Rattle.std.proofs.Common.{◌≡◌, ℕ, List, [], ◌++◌, Option, refl, sym, ap, subst, ◌∙◌, append_assoc, append-nil, length, take, drop, ◌+◌, ◌-◌, ◌≤◌, arith, length-take-le, take_all, length-drop, take-append-drop}
use Rattle.std.proofs.Math.Seq.{take-append_seam}
use Rattle.std.proofs.lemmas.List.{drop-drop}
use Rattle.std.specs.Io.KnownBytes.{Appends, Keeps}
use Rattle.std.proofs.KnownBytes.{Appends-nil, Appends-trans, Appends-kept}
use Rattle.hipe_edge.specs.Bytes.{AppendsPrefix}

-- a prefix of bytes was appended, and rest is what is left of them
abbrev pub AppendsUpTo : Option (List ℕ) → Option (List ℕ) → List ℕ → List ℕ → Type 0
AppendsUpTo old new bytes rest = (prefix : List ℕ) × (bytes ≡ prefix ++ rest) × Appends old new prefix

pub AppendsUpTo-nil : (old : Option (List ℕ)) (bytes : List ℕ) → AppendsUpTo old old bytes bytes
AppendsUpTo-nil old bytes = ([], refl, Appends-nil old)

-- the next write took a prefix of the rest
pub AppendsUpTo-more : (a b c : Option (List ℕ)) (bytes rest piece others : List ℕ) → AppendsUpTo a b bytes rest
    → rest ≡ piece ++ others → Appends b c piece → AppendsUpTo a c bytes others
AppendsUpTo-more a b c bytes rest piece others p split next =
    (p.0 ++ piece, p.1 ∙ ap (λ (l : List ℕ). p.0 ++ l) split ∙ sym (append_assoc p.0 piece others), Appends-trans a b c p.0 piece p.2 next)

-- nothing is left
pub AppendsUpTo-all : (a b : Option (List ℕ)) (bytes rest : List ℕ) → AppendsUpTo a b bytes rest → rest ≡ [] → Appends a b bytes
AppendsUpTo-all a b bytes rest p none =
    subst (Appends a b) (sym (p.1 ∙ ap (λ (l : List ℕ). p.0 ++ l) none ∙ append-nil p.0)) p.2

-- the next write took some prefix of a piece of the rest
pub AppendsUpTo-prefix : (a b c : Option (List ℕ)) (bytes rest piece others : List ℕ) → AppendsUpTo a b bytes rest
    → rest ≡ piece ++ others → AppendsPrefix b c piece → AppendsPrefix a c bytes
AppendsUpTo-prefix a b c bytes rest piece others p split next =
    let part = take next.0 piece in
    let after : List ℕ = drop next.0 piece ++ others in
    let cut : rest ≡ part ++ after =
    split ∙ ap (λ (l : List ℕ). l ++ others) (sym (take-append-drop next.0 piece)) ∙ append_assoc part (drop next.0 piece) others in
    let more = AppendsUpTo-more a b c bytes rest part after p cut next.1 in
    (length more.0, subst (Appends a c) (sym (ap (take (length more.0)) more.1 ∙ take-append_seam more.0 after)) more.2)

-- the next write took nothing
pub AppendsUpTo-kept : (a b c : Option (List ℕ)) (bytes rest : List ℕ) → AppendsUpTo a b bytes rest → Keeps b c → AppendsPrefix a c bytes
AppendsUpTo-kept a b c bytes rest p kept =
    (length p.0, subst (Appends a c) (sym (ap (take (length p.0)) p.1 ∙ take-append_seam p.0 rest)) (Appends-kept a b c p.0 p.2 kept))

-- a list is its first n elements, and the rest as a slice from n on
pub take-append-from : (n : ℕ) (xs : List ℕ) → xs ≡ take n xs ++ take (length xs - n) (drop n xs)
take-append-from n xs =
    sym (take-append-drop n xs) ∙ ap (λ (l : List ℕ). take n xs ++ l) (sym (take_all (length xs - n) (drop n xs) (omega (arith, length-drop n xs))))

-- what a read copied out of the bytes from at on is a prefix of them
pub read_prefix : (n at : ℕ) (bytes all copied rest : List ℕ) → all ≡ bytes → copied ≡ take n (take (length all - at) (drop at all))
    → n ≤ length (take (length all - at) (drop at all)) → drop at bytes ≡ take n (copied ++ rest) ++ drop (at + n) bytes
read_prefix n at bytes all copied rest same e fits =
    let left : take (length all - at) (drop at all) ≡ drop at bytes =
    take_all (length all - at) (drop at all) (omega (arith, length-drop at all)) ∙ ap (drop at) same in
    let copy : copied ≡ take n (drop at bytes) = e ∙ ap (take n) left in
    let size : length copied ≡ n =
    ap length copy ∙ length-take-le n (drop at bytes) (subst (λ (l : List ℕ). n ≤ length l) left fits) in
    let prefix : take n (copied ++ rest) ≡ take n (drop at bytes) =
    ap (λ (k : ℕ). take k (copied ++ rest)) (sym size) ∙ take-append_seam copied rest ∙ copy in
    sym (ap (λ (l : List ℕ). l ++ drop (at + n) bytes) prefix ∙ ap (λ (l : List ℕ). take n (drop at bytes) ++ l) (sym (drop-drop n at bytes)) ∙ take-append-drop n (drop at bytes))
