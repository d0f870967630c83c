-- The line of a call that isn't exported.
use Rattle.std.proofs.Common.{◌≡◌, ◌∷◌, ◌++◌, [], codes, lit<, refl}
use Rattle.std.specs.Prelude.{encode_utf8}
use Rattle.std.proofs.lemmas.Str.{encode_ascii}
use Rattle.hipe_terms.specs.Shown.{Names}
use Rattle.amd64_machine.specs.Seen.{undefined_line}

pub undefined_text : (names : Names) → codes "error 'undef'" ++ 10 ∷ [] ≡ undefined_line names
undefined_text names =
    let u : encode_utf8 117 ≡ 117 ∷ [] = encode_ascii 117 (lit< tt) in
    let n : encode_utf8 110 ≡ 110 ∷ [] = encode_ascii 110 (lit< tt) in
    let d : encode_utf8 100 ≡ 100 ∷ [] = encode_ascii 100 (lit< tt) in
    let e : encode_utf8 101 ≡ 101 ∷ [] = encode_ascii 101 (lit< tt) in
    let f : encode_utf8 102 ≡ 102 ∷ [] = encode_ascii 102 (lit< tt) in
    rw (u, n, d, e, f) refl
