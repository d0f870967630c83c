-- The bytes of a sum's code, as they are appended one part after the other.
use Rattle.std.proofs.Common.{◌≡◌, ℕ, List, [], ◌∷◌, ◌++◌, Result, Ok, Err, sym, ap, ◌∙◌, append_assoc}
use Rattle.std.specs.Prelude.{OnOk}
use Rattle.std.proofs.lemmas.Grind.{flat_map-append}
use Rattle.amd64_form.specs.declared.inst.Inst.TheVariants.{Push}
use Rattle.amd64_form.specs.declared.reg.Reg.TheVariants.{Rax}
use Rattle.amd64_form.specs.Encoding.{encoding}
use Rattle.core_sum.specs.declared.sum.Sum.{Sum}
use Rattle.core_sum.specs.declared.sum.Sum.TheVariants.{Plus}
use Rattle.core_sum.proofs.Levels.{plus_made}
use Rattle.sum_code.specs.Code.{Code, addition, ending, evaluation, bytes_of, code_for}
use Rattle.sum_code.proofs.Levels.{evaluation-plus}

pub bytes-append : (a b : Code) → bytes_of (a ++ b) ≡ bytes_of a ++ bytes_of b
bytes-append a b = flat_map-append encoding a b

pub on_ok : {E : Type 0} {P Q : Type 0} (r : Result (Unit {0}) E) → OnOk r P → (P → Q) → OnOk r Q
on_ok (Ok x) p f = f p
on_ok (Err e) p f = tt

parts : (a b : Code) → bytes_of (a ++ (Push Rax ∷ []) ++ b ++ addition) ≡ bytes_of a ++ (80 ∷ []) ++ bytes_of b ++ bytes_of addition
parts a b =
    bytes-append (a ++ (Push Rax ∷ []) ++ b) addition
    ∙ ap (λ s. s ++ bytes_of addition) (bytes-append (a ++ (Push Rax ∷ [])) b ∙ ap (λ s. s ++ bytes_of b) (bytes-append a (Push Rax ∷ [])))

joined : (old a p b d : List ℕ) → old ++ a ++ p ++ b ++ d ≡ old ++ (a ++ p ++ b ++ d)
joined old a p b d =
    ap (λ s. s ++ b ++ d) (append_assoc old a p) ∙ ap (λ s. s ++ d) (append_assoc old (a ++ p) b) ∙ append_assoc old (a ++ p ++ b) d

-- the code of a sum of two, where each part was appended behind the one before
pub plus_appended : (e a b : Sum) (old first pushed second all : List ℕ) → e ≡ Plus a b
    → first ≡ old ++ bytes_of (evaluation a) → pushed ≡ first ++ 80 ∷ [] → second ≡ pushed ++ bytes_of (evaluation b) → all ≡ second ++ bytes_of addition
    → all ≡ old ++ bytes_of (evaluation e)
plus_appended e a b old first pushed second all is f p s r =
    r ∙ ap (λ x. x ++ bytes_of addition) (s ∙ ap (λ x. x ++ bytes_of (evaluation b)) (p ∙ ap (λ x. x ++ 80 ∷ []) f))
    ∙ joined old (bytes_of (evaluation a)) (80 ∷ []) (bytes_of (evaluation b)) (bytes_of addition)
    ∙ ap (λ x. old ++ x) (sym (parts (evaluation a) (evaluation b)) ∙ ap bytes_of (sym (evaluation-plus a b) ∙ ap evaluation (sym (is ∙ plus_made a b))))

-- the code of a whole sum
pub whole_appended : (e : Sum) (none value all : List ℕ) → none ≡ [] → value ≡ none ++ bytes_of (evaluation e) → all ≡ value ++ bytes_of ending → all ≡ code_for e
whole_appended e none value all n v a = a ∙ ap (λ s. s ++ bytes_of ending) (v ∙ ap (λ s. s ++ bytes_of (evaluation e)) n) ∙ sym (bytes-append (evaluation e) ending)
