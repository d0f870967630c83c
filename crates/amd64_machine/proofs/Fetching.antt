-- What is fetched.
use Rattle.std.proofs.Common.{◌≡◌, ℕ, ◌+◌, ◌-◌, ◌<◌, ◌≤◌, List, ◌++◌, length, drop, refl, sym, ap, ◌∙◌, subst, arith, length-append, length-drop, take}
use Rattle.std.proofs.Math.Seq.{take-length}
use Rattle.std.specs.Prelude.{◌↔◌, true, false, ◌&&◌, Result, Ok, Err, IfOk, nat_le, nat_lt}
use Rattle.std.proofs.Common.{inl, inr}
use Rattle.std.proofs.lemmas.Bool.{cases_lt}
use Rattle.std.proofs.lemmas.Bool.Decides.{nat_tests}
use Rattle.amd64_form.specs.declared.inst.Inst.{Inst}
use Rattle.amd64_form.specs.declared.form.TheConstants.{FORMS}
use Rattle.amd64_form.specs.declared.decoding.DecodeFault.{DecodeFault}
use Rattle.amd64_form.specs.declared.decoding.DecodeFault.TheVariants.{Short, Unknown}
use Rattle.amd64_form.specs.Inst.{IsInst}
use Rattle.amd64_form.specs.Encoding.{encoding, BeginsWithInst, IsPartOfInst}
use Rattle.amd64_form.specs.Form.{reading}
use Rattle.amd64_form.proofs.Sizes.{some_bytes}
use Rattle.amd64_form.proofs.Laws.{is_found, is_short, is_unknown, standing_is_read}
use Rattle.region_memory.specs.declared.layout.TheConstants.{CODE_BEGIN}
use Rattle.amd64_machine.specs.Fetch.{Fetched, Nothing, Here, here, fetch, StandsAt, FetchesCode}

-- what `decode` answers is what the table reads
pub record Decodes (bytes : List ℕ) (answer : Result (Inst × ℕ) DecodeFault) : Type 0 where
  pub found : IfOk answer (λ x. bytes ≡ encoding x.0 ++ drop x.1 bytes)
  pub length : IfOk answer (λ x. x.1 ≡ length (encoding x.0))
  pub ranges : IfOk answer (λ x. IsInst x.0)
  pub short : (answer ≡ Err Short) ↔ IsPartOfInst bytes
  pub unknown : (answer ≡ Err Unknown) ↔ (¬ BeginsWithInst bytes × ¬ IsPartOfInst bytes)

pub decoded_is_read : (bytes : List ℕ) (answer : Result (Inst × ℕ) DecodeFault) → Decodes bytes answer → answer ≡ reading FORMS bytes
decoded_is_read bytes (Ok x) d =
    let standing = standing_is_read x.0 (drop x.1 bytes) d.ranges in
    ap (λ n. Ok (x.0, n)) d.length ∙ sym (subst (λ b. reading FORMS b ≡ Ok (x.0, length (encoding x.0))) (sym d.found) standing)
decoded_is_read bytes (Err Short) d = sym ((is_short bytes (reading FORMS bytes) refl).1 (d.short.0 refl))
decoded_is_read bytes (Err Unknown) d = sym ((is_unknown bytes (reading FORMS bytes) refl).1 (d.unknown.0 refl))

within : (at size : ℕ) → CODE_BEGIN ≤ at → at - CODE_BEGIN < size → (nat_le CODE_BEGIN at && nat_lt at (CODE_BEGIN + size)) ≡ true
within at size ge lt = grind (arith, nat_tests)

below : (at size : ℕ) → at < CODE_BEGIN → (nat_le CODE_BEGIN at && nat_lt at (CODE_BEGIN + size)) ≡ false
below at size lt = grind (arith, nat_tests)

behind : (at size : ℕ) → CODE_BEGIN + size ≤ at → (nat_le CODE_BEGIN at && nat_lt at (CODE_BEGIN + size)) ≡ false
behind at size ge = grind (arith, nat_tests)

pub fetch_within : (code : List ℕ) (at : ℕ) → CODE_BEGIN ≤ at → at - CODE_BEGIN < length code → fetch code at ≡ here at (reading FORMS (drop (at - CODE_BEGIN) code))
unfolding fetch
fetch_within code at ge lt = rw (within at (length code) ge lt) refl

pub fetch_below : (code : List ℕ) (at : ℕ) → at < CODE_BEGIN → fetch code at ≡ Nothing
unfolding fetch
fetch_below code at lt = rw (below at (length code) lt) refl

pub fetch_behind : (code : List ℕ) (at : ℕ) → CODE_BEGIN + length code ≤ at → fetch code at ≡ Nothing
unfolding fetch
fetch_behind code at ge = rw (behind at (length code) ge) refl

tail_is : (code : List ℕ) (n : ℕ) → take (length code - n) (drop n code) ≡ drop n code
tail_is code n = ap (λ k. take k (drop n code)) (sym (length-drop n code)) ∙ take-length (drop n code)

-- what `decode` answers on the code's bytes from the address on is fetched
pub decoded_is_fetched : (code : List ℕ) (at : ℕ) (answer : Result (Inst × ℕ) DecodeFault) → CODE_BEGIN ≤ at → at - CODE_BEGIN < length code → Decodes (take (length code - (at - CODE_BEGIN)) (drop (at - CODE_BEGIN) code)) answer → here at answer ≡ fetch code at
decoded_is_fetched code at answer ge lt d =
    ap (here at) (decoded_is_read _ answer (subst (λ b. Decodes b answer) (tail_is code (at - CODE_BEGIN)) d)) ∙ sym (fetch_within code at ge lt)

-- ---- the law

standing_is_within : (code : List ℕ) (at : ℕ) (i : Inst) (s : StandsAt code at i) → at - CODE_BEGIN < length code
standing_is_within code at i (ge, rest, valid, e) =
    let l : length (drop (at - CODE_BEGIN) code) ≡ length (encoding i ++ rest) = ap length e in
    let some = some_bytes i in
    omega (arith, l, length-drop (at - CODE_BEGIN) code, length-append (encoding i) rest, some)

standing_is_fetched : (code : List ℕ) (at : ℕ) (i : Inst) → StandsAt code at i → fetch code at ≡ Here i (at + length (encoding i))
standing_is_fetched code at i s =
    fetch_within code at s.0 (standing_is_within code at i s) ∙ ap (here at) (ap (reading FORMS) s.3 ∙ standing_is_read i s.1 s.2)

-- what was read where an instruction is fetched
from_here : (at : ℕ) (r : Result (Inst × ℕ) DecodeFault) (i : Inst) (next : ℕ) → here at r ≡ Here i next → (n : ℕ) × (r ≡ Ok (i, n)) × (next ≡ at + n)
from_here at (Err f) i next e = absurd (cc)
from_here at (Ok x) i next e =
    let same : x.0 ≡ i = cc in
    let far : at + x.1 ≡ next = cc in
    (x.1, ap (λ j. Ok (j, x.1)) same, sym far)

read_at_place : (code : List ℕ) (at : ℕ) (i : Inst) (next : ℕ) → CODE_BEGIN ≤ at → fetch code at ≡ Here i next → at - CODE_BEGIN < length code → StandsAt code at i × (next ≡ at + length (encoding i))
read_at_place code at i next ge e lt =
    let r = from_here at (reading FORMS (drop (at - CODE_BEGIN) code)) i next (sym (fetch_within code at ge lt) ∙ e) in
    let s = is_found (drop (at - CODE_BEGIN) code) (Ok (i, r.0)) (sym r.1) in
    ((ge, drop r.0 (drop (at - CODE_BEGIN) code), s.ranges, s.bytes), r.2 ∙ ap (λ n. at + n) s.all)

nothing_is_no_inst : {X : Type 0} (f : Fetched) (i : Inst) (next : ℕ) → f ≡ Nothing → f ≡ Here i next → X
nothing_is_no_inst f i next e h = absurd (cc)

fetched_stands : (code : List ℕ) (at : ℕ) (i : Inst) (next : ℕ) → fetch code at ≡ Here i next → StandsAt code at i × (next ≡ at + length (encoding i))
fetched_stands code at i next e =
    elim (cases_lt at CODE_BEGIN) [
      | inl lt ↦ nothing_is_no_inst (fetch code at) i next (fetch_below code at lt) e
      | inr ge ↦ elim (cases_lt (at - CODE_BEGIN) (length code)) [
        | inl lt ↦ read_at_place code at i next ge e lt
        | inr behind ↦ nothing_is_no_inst (fetch code at) i next (fetch_behind code at (omega arith)) e
      ]
    ]

pub fetches : (code : List ℕ) → FetchesCode code
fetches code = record { found = standing_is_fetched code; only = fetched_stands code }
