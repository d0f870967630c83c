-- Texts as atoms: what a set of texts says of the list of its atoms.
use Rattle.std.proofs.Common.{◌≡◌, ◌∙◌, ◌+◌, ◌<◌, ◌≤◌, ◌++◌, ℕ, Bool, true, false, cond, not, List, [], ◌∷◌, Some, None, refl, sym, ap, All, IsUtf8, bytes_eq, length, map, string_bytes, arith, ◌^◌, slice_get, option_map, Bor, lit<}
use Rattle.std.specs.Prelude.{position, fold, nat_le, nat_lt, ◌||◌, if◌then◌else◌, encode_utf8_all}
use Rattle.std.specs.Str.{chars}
use Rattle.std.specs.Bool.{one_answer}
use Rattle.std.specs.List.{AllByRecursion, IsDistinct, list_any, position_or_len}
use Rattle.std.specs.declared.string.String.{String}
use Rattle.std.proofs.lemmas.List.{length-map, map-append}
use Rattle.std.proofs.lemmas.Bool.{and_parts, leb-true}
use Rattle.std.proofs.lemmas.Slice.Eq.{bytes_eq-Decides}
use Rattle.std.proofs.lemmas.Str.{chars_from_encodes, encodes-chars, scalars-chars, IsUtf8-string_bytes}
use Rattle.std.proofs.Math.Utf8.{scalar, scalars}
use Rattle.std.specs.Char.{IsScalar}
use Rattle.std.proofs.lemmas.List.Elements.{All-append, All-nil, All-cons}
use Rattle.std.proofs.lemmas.List.Folds.{fold-map}
use Rattle.std.proofs.lemmas.List.Sums.{AllPass-from_list_all}
use Rattle.std.proofs.lemmas.Option.{slice_get-map}
use Rattle.std.proofs.Common.{append_assoc, length-append}
use Rattle.hipe_base.specs.declared.limits.TheConstants.{ATOM_LIMIT}
use Rattle.image_link.specs.Atoms.{Atoms, IsAtomTable, all_interned, first_atoms, atoms_of, interned, number_in, number_of, points_of}

-- two texts are equal exactly where their code points are
pub same_text : (a b : List ℕ) → IsUtf8 a → IsUtf8 b → bytes_eq a b ≡ bytes_eq (chars a) (chars b)
same_text a b utf8 other = one_answer (bytes_eq a b) (bytes_eq (chars a) (chars b)) (bytes_eq-Decides a b) (
  λ h. sym (encodes-chars a utf8) ∙ ap encode_utf8_all ((bytes_eq-Decides (chars a) (chars b)).0 h) ∙ encodes-chars b other,
  λ e. (bytes_eq-Decides (chars a) (chars b)).1 (ap chars e),
)

-- the same of a text and a stored one
pub same_stored : {A : Type 0} (text : List ℕ) → IsUtf8 text → (key : String A)
    → bytes_eq text (string_bytes key) ≡ bytes_eq (chars text) (points_of key)
same_stored text utf8 key = same_text text (string_bytes key) utf8 (IsUtf8-string_bytes key)

-- a test of the elements, and the same test of what they stand for
pub position_map : {X Y : Type 0} (p : X → Bool) (q : Y → Bool) (f : X → Y) → ((x : X) → p x ≡ q (f x)) → (xs : List X)
    → position_or_len p xs ≡ position_or_len q (map f xs)
position_map p q f same [] = refl
position_map p q f same (x ∷ xs) =
    ap (λ b. cond (not b) (1 + position_or_len p xs) 0) (same x)
    ∙ ap (λ n. cond (not (q (f x))) (1 + n) 0) (position_map p q f same xs)

pub any_map : {X Y : Type 0} (p : X → Bool) (q : Y → Bool) (f : X → Y) → ((x : X) → p x ≡ q (f x)) → (xs : List X)
    → list_any p xs ≡ list_any q (map f xs)
any_map p q f same [] = refl
any_map p q f same (x ∷ xs) = ap (λ b. b || list_any p xs) (same x) ∙ ap (λ b. q (f x) || b) (any_map p q f same xs)

-- where no element passes, the place is the length
pub position_absent : {X : Type 0} (p : X → Bool) (xs : List X) → list_any p xs ≡ false → position_or_len p xs ≡ length xs
position_absent p [] none = refl
position_absent p (x ∷ xs) none = elim (p x) as (λ b. (b || list_any p xs) ≡ false → cond (not b) (1 + position_or_len p xs) 0 ≡ length (x ∷ xs)) [
  | true ↦ λ h. cc
  | false ↦ λ h. grind (arith, position_absent p xs h)
] none

-- the place at which an atom's text stands in a set
pub place_of : {A : Type 0} (atom text : List ℕ) → IsUtf8 text → text ≡ encode_utf8_all atom → (keys : List (String A))
    → position_or_len (λ k. bytes_eq text (string_bytes k)) keys ≡ number_in atom (atoms_of keys)
place_of atom text utf8 is keys =
    position_map (λ k. bytes_eq text (string_bytes k)) (bytes_eq atom) points_of
    (λ k. same_stored text utf8 k ∙ ap (λ points. bytes_eq points (points_of k)) (sym (chars_from_encodes atom text utf8 (sym is)))) keys

-- whether it stands there
pub stands_in : {A : Type 0} (atom text : List ℕ) → IsUtf8 text → text ≡ encode_utf8_all atom → (keys : List (String A))
    → list_any (λ k. bytes_eq text (string_bytes k)) keys ≡ list_any (bytes_eq atom) (atoms_of keys)
stands_in atom text utf8 is keys =
    any_map (λ k. bytes_eq text (string_bytes k)) (bytes_eq atom) points_of
    (λ k. same_stored text utf8 k ∙ ap (λ points. bytes_eq points (points_of k)) (sym (chars_from_encodes atom text utf8 (sym is)))) keys

-- the number at which it stands
pub number_is : {A : Type 0} (atom text : List ℕ) → IsUtf8 text → text ≡ encode_utf8_all atom → (keys : List (String A))
    → position (λ k. bytes_eq text (string_bytes k)) keys ≡ number_of atom (atoms_of keys)
number_is atom text utf8 is keys =
    ap (λ n. cond (nat_lt n (length keys)) (Some n) None) (place_of atom text utf8 is keys)
    ∙ ap (λ n. cond (nat_lt (number_in atom (atoms_of keys)) n) (Some (number_in atom (atoms_of keys))) None) (sym (length-map keys points_of))

-- a text that goes into a set
pub inserted_is : {A : Type 0} (text : String A) (keys : List (String A))
    → atoms_of (if list_any (λ k. bytes_eq (string_bytes text) (string_bytes k)) keys then keys else keys ++ text ∷ [])
    ≡ interned (points_of text) (atoms_of keys)
inserted_is text keys =
    step (list_any (λ k. bytes_eq (string_bytes text) (string_bytes k)) keys)
    ∙ ap (λ b. if b then atoms_of keys else atoms_of keys ++ points_of text ∷ [])
    (any_map (λ k. bytes_eq (string_bytes text) (string_bytes k)) (bytes_eq (points_of text)) points_of
    (same_stored (string_bytes text) (IsUtf8-string_bytes text)) keys)
  where
    step : (b : Bool) → atoms_of (if b then keys else keys ++ text ∷ []) ≡ (if b then atoms_of keys else atoms_of keys ++ points_of text ∷ [])
    step true = refl
    step false = map-append points_of keys (text ∷ [])

all_apart : {A : Type 0} (key : String A) (keys : List (String A))
    → AllByRecursion (λ k. bytes_eq (string_bytes key) (string_bytes k) ≡ false) keys
    → AllByRecursion (λ a. bytes_eq (points_of key) a ≡ false) (atoms_of keys)
all_apart key [] apart = tt
all_apart key (k ∷ ks) apart = (sym (same_stored (string_bytes key) (IsUtf8-string_bytes key) k) ∙ apart.0, all_apart key ks apart.1)

-- the atoms of distinct texts are distinct
pub distinct_atoms : {A : Type 0} (keys : List (String A))
    → IsDistinct (λ x y. bytes_eq (string_bytes x) (string_bytes y)) keys → IsDistinct bytes_eq (atoms_of keys)
unfolding IsDistinct
distinct_atoms [] distinct = tt
distinct_atoms (k ∷ ks) distinct = (all_apart k ks distinct.0, distinct_atoms ks distinct.1)

-- the place that a position gives
pub place_from : {X : Type 0} (p : X → Bool) (xs : List X) (n : ℕ) → Some n ≡ position p xs → n ≡ position_or_len p xs
place_from p xs n = step (nat_lt (position_or_len p xs) (length xs))
  where
    step : (b : Bool) → Some n ≡ cond b (Some (position_or_len p xs)) None → n ≡ position_or_len p xs
    step true is = cc
    step false is = cc

-- an atom that is known stays where it is
pub interned_known : (atom : List ℕ) (atoms : Atoms) → list_any (bytes_eq atom) atoms ≡ true → atoms ≡ interned atom atoms
interned_known atom atoms known = ap (λ b. if b then atoms else atoms ++ atom ∷ []) (sym known)

-- a new atom goes last
pub interned_new : (atom : List ℕ) (atoms : Atoms) → list_any (bytes_eq atom) atoms ≡ false → interned atom atoms ≡ atoms ++ atom ∷ []
interned_new atom atoms new = ap (λ b. if b then atoms else atoms ++ atom ∷ []) new

-- the code points of stored texts are those of characters
character_points : (points : List ℕ) → scalars points ≡ true → All IsScalar points
character_points [] all = All-nil IsScalar
character_points (p ∷ ps) all = let parts = and_parts (scalar p) (scalars ps) all in All-cons IsScalar p ps parts.0 (character_points ps parts.1)

pub characters : {A : Type 0} (keys : List (String A)) → All (All IsScalar) (atoms_of keys)
characters [] = All-nil (All IsScalar)
characters (key ∷ keys) =
    All-cons (All IsScalar) (points_of key) (atoms_of keys)
    (character_points (points_of key) (scalars-chars (string_bytes key) (IsUtf8-string_bytes key))) (characters keys)

-- a table with a new atom
pub table_with : (atom : List ℕ) (atoms : Atoms) → IsAtomTable atoms → length atom ≤ ATOM_LIMIT → length atoms + 1 < 2 ^ 32
    → IsDistinct bytes_eq (atoms ++ atom ∷ []) → All (All IsScalar) (atoms ++ atom ∷ []) → IsAtomTable (atoms ++ atom ∷ [])
table_with atom atoms table short few distinct texts = record {
  first = (table.first.0 ++ atom ∷ [], ap (λ a. a ++ atom ∷ []) table.first.1 ∙ append_assoc first_atoms table.first.0 (atom ∷ []));
  distinct = distinct;
  lengths = All-append (λ a. length a ≤ ATOM_LIMIT) atoms (atom ∷ []) table.lengths (one short);
  characters = texts;
  count = rw (length-append atoms (atom ∷ [])) few;
}
  where
    one : length atom ≤ ATOM_LIMIT → All (λ a. length a ≤ ATOM_LIMIT) (atom ∷ [])
    one short = grind (arith, short)

-- the text of the atom at a number
pub text_at : {A : Type 0} (key : String A) (keys : List (String A)) (number : ℕ) → Some key ≡ slice_get keys number
    → Some (string_bytes key) ≡ option_map encode_utf8_all (slice_get (atoms_of keys) number)
text_at key keys number is =
    ap (λ text. Some text) (sym (encodes-chars (string_bytes key) (IsUtf8-string_bytes key)))
    ∙ ap (λ o. option_map encode_utf8_all (option_map points_of o)) is
    ∙ ap (option_map encode_utf8_all) (sym (slice_get-map points_of keys number))

pub number_from : {A : Type 0} (atom text : List ℕ) → IsUtf8 text → text ≡ encode_utf8_all atom → (keys : List (String A)) (n : ℕ)
    → Some n ≡ position (λ k. bytes_eq text (string_bytes k)) keys → n ≡ number_in atom (atoms_of keys)
number_from atom text utf8 is keys n at =
    place_from (λ k. bytes_eq text (string_bytes k)) keys n at ∙ place_of atom text utf8 is keys

-- an atom that isn't there goes last, and its number is their count
pub new_last : {A : Type 0} (atom text : List ℕ) → IsUtf8 text → text ≡ encode_utf8_all atom → (keys : List (String A))
    → false ≡ list_any (λ k. bytes_eq text (string_bytes k)) keys → interned atom (atoms_of keys) ≡ atoms_of keys ++ atom ∷ []
new_last atom text utf8 is keys new = interned_new atom (atoms_of keys) (sym (stands_in atom text utf8 is keys) ∙ sym new)

pub new_number : {A : Type 0} (atom text : List ℕ) → IsUtf8 text → text ≡ encode_utf8_all atom → (keys : List (String A))
    → false ≡ list_any (λ k. bytes_eq text (string_bytes k)) keys → number_in atom (atoms_of keys) ≡ length (atoms_of keys)
new_number atom text utf8 is keys new =
    position_absent (bytes_eq atom) (atoms_of keys) (sym (stands_in atom text utf8 is keys) ∙ sym new)

-- the atoms of every program, put in one after the other
first_in_order : fold (λ atoms text. interned (chars text) atoms) [] first_atoms ≡ first_atoms
unfolding chars
first_in_order = refl

pub first_is : (made : Atoms) (list : List (Bor (List ℕ))) (atoms : Atoms) → atoms ≡ [] → map (λ text. text.now) list ≡ first_atoms
    → made ≡ all_interned list atoms → made ≡ first_atoms
unfolding all_interned
first_is made list atoms none texts is =
    is
    ∙ ap (λ a. fold (λ atoms text. interned (chars text.now) atoms) a list) none
    ∙ sym (fold-map (λ atoms text. interned (chars text) atoms) (λ text. text.now) [] list)
    ∙ ap (fold (λ atoms text. interned (chars text) atoms) []) texts
    ∙ first_in_order

first_lengths : All (λ a. nat_le (length a) ATOM_LIMIT ≡ true) first_atoms
first_lengths = AllPass-from_list_all (λ a. nat_le (length a) ATOM_LIMIT) first_atoms refl

pub first_table : IsDistinct bytes_eq first_atoms → All (All IsScalar) first_atoms → IsAtomTable first_atoms
first_table distinct texts = record {
  first = ([], refl);
  distinct = distinct;
  lengths = λ k d below. leb-true _ _ (first_lengths k d below);
  characters = texts;
  count = lit< tt;
}
