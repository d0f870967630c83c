-- Bytes at the beginning of a text that were passed: they are UTF-8, and the place behind them is known.
use Rattle.std.proofs.Common.{◌≡◌, ℕ, ◌+◌, ◌<◌, Bool, true, false, cond, nat_eq, List, [], ◌∷◌, ◌++◌, length, take, drop, Some, None, refl, ap, sym, ◌∙◌, subst, length-append, length-drop, arith}
use Rattle.std.specs.Prelude.{slice_index}
use Rattle.std.specs.List.{prefix_len}
use Rattle.std.specs.Str.{IsUtf8}
use Rattle.std.proofs.Math.Seq.{take-add}
use Rattle.std.proofs.lemmas.Bool.Decides.{nat_tests}
use Rattle.std.proofs.lemmas.List.{take-append-drop, take_at, drop_at}
use Rattle.std.proofs.lemmas.Str.{IsUtf8-append, IsUtf8-nil}
use Rattle.hipe_terms.specs.declared.place.Place.{Place}
use Rattle.core_text.specs.Bytes.{is_continuation, is_before_line_end, begins}
use Rattle.core_text.specs.Places.{moved, place_after}
use Rattle.core_text.specs.Utf8.{character_length, ill_formed_from, ArePassed}
use Rattle.core_text.specs.Prefixes.{AreAll, BeginsWith}
use Rattle.core_text.specs.Characters.{IsCharacter}
use Rattle.core_text.proofs.Encodings.{decoded_there, continues_all}
use Rattle.core_text.proofs.Prefixes.{stops}
use Rattle.core_text.proofs.IllFormed.{moved_over, places, utf8_passed, stuck_at}
use Rattle.core_text.proofs.Plain.{all_as, character_utf8}

pub nothing_passed : (s : List ℕ) (p : Place) → ArePassed s p 0 p
nothing_passed s p = record { within = omega arith; utf8 = IsUtf8-nil; place = refl }

-- the text behind is UTF-8 as far as the whole is
pub passed_on : (s : List ℕ) (p : Place) (n : ℕ) (q : Place) → ArePassed s p n q → ill_formed_from p s ≡ ill_formed_from q (drop n s)
passed_on s p n q h =
    ap (ill_formed_from p) (sym (take-append-drop n s)) ∙ utf8_passed (take n s) (drop n s) p h.utf8 ∙ ap (λ q. ill_formed_from q (drop n s)) (sym h.place)

-- and where no character follows, the first byte that isn't UTF-8 stands there
pub passed_stuck : (s : List ℕ) (p : Place) (n : ℕ) (q : Place) → ArePassed s p n q → n < length s → character_length (drop n s) ≡ None → ill_formed_from p s ≡ Some q
passed_stuck s p n q h lt is =
    ap (ill_formed_from p) (sym (take-append-drop n s)) ∙ stuck_at (take n s) (drop n s) p h.utf8 (omega (arith, length-drop n s, lt)) is ∙ ap Some (sym h.place)

-- a character more
abbrev pub Character : ℕ → List ℕ → List ℕ → Type 0
Character v cs us = IsCharacter v cs

character_there : (s : List ℕ) (n : ℕ) → character_length s ≡ Some n → (v : ℕ) × BeginsWith (Character v) s n
unfolding character_length
character_there [] n is = absurd (cc)
character_there (c ∷ t) n is = let b = decoded_there c t n is in (_, record { prefix = b.prefix; rest = b.rest; is = b.is; size = b.size; holds = b.holds })

pub character_passed : (s : List ℕ) (p : Place) (i : ℕ) (q : Place) (n : ℕ) → ArePassed s p i q → character_length (drop i s) ≡ Some n → ArePassed s p (i + n) (moved q (slice_index (drop i s) 0))
character_passed s p i q n h is =
    let f = character_there (drop i s) n is in
    let b = f.1 in
    let more : take n (drop i s) ≡ b.prefix = ap (take n) b.is ∙ take_at b.prefix b.rest n b.size in
    let prefix : take (i + n) s ≡ take i s ++ b.prefix = take-add i n s ∙ ap (λ t. take i s ++ t) more in
    let size : length (drop i s) ≡ n + length b.rest = ap length b.is ∙ length-append b.prefix b.rest ∙ ap (λ k. k + length b.rest) b.size in
    record {
      within = omega (arith, size, length-drop i s, h.within);
      utf8 = subst IsUtf8 (sym prefix) (IsUtf8-append (take i s) b.prefix h.utf8 (character_utf8 f.0 b.prefix b.holds));
      place = ap (λ s. moved q (slice_index s 0)) b.is ∙ moved_over f.0 b.prefix b.rest q b.holds ∙ ap (λ q. place_after q b.prefix) h.place
          ∙ sym (places (take i s) b.prefix p) ∙ ap (place_after p) (sym prefix);
    }

-- the bytes of a line
pub prefix_both : (test : ℕ → Bool) (cs us : List ℕ) → AreAll test cs → prefix_len test (cs ++ us) ≡ length cs + prefix_len test us
prefix_both test [] us h = omega arith
prefix_both test (c ∷ cs) us h = ap (λ b. cond b (1 + prefix_len test (cs ++ us)) 0) h.0 ∙ omega (arith, prefix_both test cs us h.1)

high_in_line : (c : ℕ) → is_continuation c ≡ true → is_before_line_end c ≡ true
high_in_line c is = grind (arith, nat_tests)

in_line : (c : ℕ) → nat_eq c 10 ≡ false → is_before_line_end c ≡ true
in_line c is = ap (λ b. cond b false true) is

first_in_line : (v : ℕ) (cs us : List ℕ) → IsCharacter v cs → nat_eq (slice_index (cs ++ us) 0) 10 ≡ false → AreAll is_before_line_end cs
first_in_line v [] us is other = tt
first_in_line v (c ∷ cs) us is other = (in_line c other, all_as is_continuation is_before_line_end high_in_line cs (continues_all v c cs is))

pub line_goes_on : (s : List ℕ) (n : ℕ) → character_length s ≡ Some n → nat_eq (slice_index s 0) 10 ≡ false → prefix_len is_before_line_end s ≡ n + prefix_len is_before_line_end (drop n s)
line_goes_on s n is other =
    let f = character_there s n is in
    let b = f.1 in
    let all = first_in_line f.0 b.prefix b.rest b.holds (ap (λ s. nat_eq (slice_index s 0) 10) (sym b.is) ∙ other) in
    let rest : b.rest ≡ drop n s = sym (ap (drop n) b.is ∙ drop_at b.prefix b.rest n b.size) in
    ap (prefix_len is_before_line_end) b.is ∙ prefix_both is_before_line_end b.prefix b.rest all ∙ ap (λ k. k + prefix_len is_before_line_end b.rest) b.size
    ∙ ap (λ us. n + prefix_len is_before_line_end us) rest

line_ends : (s : List ℕ) → (0 < length s → slice_index s 0 ≡ 10) → begins is_before_line_end s ≡ false
line_ends [] h = refl
line_ends (c ∷ s) h = ap is_before_line_end (h (omega arith))

pub line_over : (s : List ℕ) → (0 < length s → slice_index s 0 ≡ 10) → prefix_len is_before_line_end s ≡ 0
line_over s h = stops is_before_line_end s (line_ends s h)
