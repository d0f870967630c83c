-- What the table of forms reads, in the words of encodings.
use Rattle.std.proofs.Common.{◌≡◌, ◌≢◌, ℕ, ◌+◌, ◌<◌, List, [], ◌∷◌, ◌++◌, length, drop, Result, Ok, Err, refl, sym, ap, subst, ◌∙◌, arith}
use Rattle.std.specs.Prelude.{IfOk, ◌↔◌}
use Rattle.std.proofs.lemmas.List.{append-nil, length-append, drop_all, drop_at}
use Rattle.amd64_form.specs.declared.inst.Inst.{Inst}
use Rattle.amd64_form.specs.declared.decoding.DecodeFault.{DecodeFault}
use Rattle.amd64_form.specs.declared.decoding.DecodeFault.TheVariants.{Short, Unknown}
use Rattle.amd64_form.specs.declared.form.Fit.TheVariants.{Whole, Prefix}
use Rattle.amd64_form.specs.declared.form.Form.{Form}
use Rattle.amd64_form.specs.declared.form.TheConstants.{FORMS}
use Rattle.amd64_form.specs.Inst.{IsInst}
use Rattle.amd64_form.specs.Encoding.{encoding, BeginsWithInst, IsPartOfInst}
use Rattle.amd64_form.specs.Form.{parts_of, inst_of, reading}
use Rattle.amd64_form.proofs.Fit.{fit_part, completed}
use Rattle.amd64_form.proofs.Table.{fits, IsReadBy, read_is_whole, short_is_prefix, whole_is_read, prefix_is_short}
use Rattle.amd64_form.proofs.Rows.{IsEncoding, is_encoding, IsReadAgain, is_read_again}

-- the instruction stands at the beginning of the bytes
pub record StandsAt (bs : List ℕ) (i : Inst) (n : ℕ) : Type 0 where
  pub bytes : bs ≡ encoding i ++ drop n bs
  pub all : n ≡ length (encoding i)
  pub ranges : IsInst i

read_stands : (bs : List ℕ) (i : Inst) (n : ℕ) → reading FORMS bs ≡ Ok (i, n) → StandsAt bs i n
read_stands bs i n e =
    let r : IsReadBy bs i n = read_is_whole FORMS bs i n e in
    let s : IsEncoding r.0 bs = is_encoding r.0 bs r.1 in
    let here : StandsAt bs (inst_of r.0 bs) (length (parts_of r.0)) = record { bytes = s.bytes; all = sym s.all; ranges = s.ranges } in
    subst (λ m. StandsAt bs i m) r.3 (subst (λ j. StandsAt bs j (length (parts_of r.0))) r.2 here)

pub standing_is_read : (i : Inst) (rest : List ℕ) → IsInst i → reading FORMS (encoding i ++ rest) ≡ Ok (i, length (encoding i))
standing_is_read i rest h =
    let a : IsReadAgain i rest = is_read_again i rest h in
    let known : reading FORMS (encoding i ++ rest) ≡ Ok (inst_of a.form (encoding i ++ rest), length (parts_of a.form)) = whole_is_read a.form (encoding i ++ rest) a.known a.whole in
    known ∙ ap (λ j. Ok (j, length (parts_of a.form))) a.is ∙ ap (λ n. Ok (i, n)) (sym a.all)

short_is_part : (bs : List ℕ) → reading FORMS bs ≡ Err Short → IsPartOfInst bs
short_is_part bs e =
    let r : (f : Form) × (fits f bs ≡ Prefix) = short_is_prefix FORMS bs e in
    let c = completed (parts_of r.0) bs r.1 in
    let s : IsEncoding r.0 (bs ++ c.0) = is_encoding r.0 (bs ++ c.0) c.1.whole in
    let none : drop (length (parts_of r.0)) (bs ++ c.0) ≡ [] = drop_all (length (parts_of r.0)) (bs ++ c.0) (omega (arith, c.1.all)) in
    let is : bs ++ c.0 ≡ encoding (inst_of r.0 (bs ++ c.0)) = s.bytes ∙ ap (λ (x : List ℕ). encoding (inst_of r.0 (bs ++ c.0)) ++ x) none ∙ append-nil (encoding (inst_of r.0 (bs ++ c.0))) in
    (inst_of r.0 (bs ++ c.0), c.0, s.ranges, c.1.some, sym is)

some_length : (xs : List ℕ) → xs ≢ [] → 0 < length xs
some_length [] h = absurd (h refl)
some_length (x ∷ xs) h = omega arith

part_is_short : (bs : List ℕ) → IsPartOfInst bs → reading FORMS bs ≡ Err Short
part_is_short bs p =
    let i : Inst = p.0 in
    let more : List ℕ = p.1 in
    let a : IsReadAgain i [] = is_read_again i [] p.2 in
    let bytes : encoding i ++ [] ≡ bs ++ more = append-nil (encoding i) ∙ p.4 in
    let whole : fits a.form (bs ++ more) ≡ Whole = subst (λ (s : List ℕ). fits a.form s ≡ Whole) bytes a.whole in
    let size : length (encoding i) ≡ length bs + length more = ap length p.4 ∙ length-append bs more in
    let lt : length bs < length (parts_of a.form) = omega (arith, some_length more p.3, size, a.all) in
    prefix_is_short a.form bs a.known (fit_part (parts_of a.form) bs more whole lt)

-- ---- the answers of a reader

abbrev pub Answer : Type 0
Answer = Result (Inst × ℕ) DecodeFault

pub is_found : (bs : List ℕ) (r : Answer) → r ≡ reading FORMS bs → IfOk r (λ x. StandsAt bs x.0 x.1)
is_found bs (Ok x) e = read_stands bs x.0 x.1 (sym e)
is_found bs (Err f) e = tt

pub if_ok : {P Q : Inst × ℕ → Type 0} (r : Answer) → IfOk r P → ((x : Inst × ℕ) → P x → Q x) → IfOk r Q
if_ok (Ok x) p f = f x p
if_ok (Err e) p f = tt

pub is_short : (bs : List ℕ) (r : Answer) → r ≡ reading FORMS bs → (r ≡ Err Short) ↔ IsPartOfInst bs
is_short bs r e = (λ short. short_is_part bs (sym e ∙ short), λ part. e ∙ part_is_short bs part)

begins_is_read : (bs : List ℕ) (r : Answer) → r ≡ reading FORMS bs → (b : BeginsWithInst bs) → r ≡ Ok (b.0, length (encoding b.0))
begins_is_read bs r e b = e ∙ ap (reading FORMS) b.3 ∙ standing_is_read b.0 b.1 b.2

unknown_from : (bs : List ℕ) (r : Answer) → r ≡ reading FORMS bs → (¬ BeginsWithInst bs) → (¬ IsPartOfInst bs) → r ≡ Err Unknown
unknown_from bs (Ok x) e no_inst no_part =
    let s : StandsAt bs x.0 x.1 = read_stands bs x.0 x.1 (sym e) in
    absurd (no_inst (x.0, drop x.1 bs, s.ranges, s.bytes))
unknown_from bs (Err Short) e no_inst no_part = absurd (no_part (short_is_part bs (sym e)))
unknown_from bs (Err Unknown) e no_inst no_part = refl

pub is_unknown : (bs : List ℕ) (r : Answer) → r ≡ reading FORMS bs → (r ≡ Err Unknown) ↔ (¬ BeginsWithInst bs × ¬ IsPartOfInst bs)
is_unknown bs r e = (
  λ unknown. (
    λ b. let read : r ≡ Ok (b.0, length (encoding b.0)) = begins_is_read bs r e b in cc,
    λ part. let short : r ≡ Err Short = e ∙ part_is_short bs part in cc,
  ),
  λ none. unknown_from bs r e none.0 none.1,
)

-- no encoding is a prefix of another
pub one_prefix : (i j : Inst) (x y : List ℕ) → IsInst i → IsInst j → encoding i ++ x ≡ encoding j ++ y → (i ≡ j) × (x ≡ y)
one_prefix i j x y a b e =
    let first : reading FORMS (encoding i ++ x) ≡ Ok (i, length (encoding i)) = standing_is_read i x a in
    let second : reading FORMS (encoding j ++ y) ≡ Ok (j, length (encoding j)) = standing_is_read j y b in
    let both : (i, length (encoding i)) ≡ (j, length (encoding j)) = cc (first, second, ap (reading FORMS) e) in
    let same : i ≡ j = ap (λ (p : Inst × ℕ). p.0) both in
    let rest : x ≡ y =
    sym (drop_at (encoding i) x (length (encoding i)) refl) ∙ ap (drop (length (encoding i))) e ∙ ap (λ n. drop n (encoding j ++ y)) (ap (λ (p : Inst × ℕ). p.1) both)
    ∙ drop_at (encoding j) y (length (encoding j)) refl in
    (same, rest)
