-- The parts of an image's bytes: their lengths, and that the numbers in the header fit.
use Rattle.std.proofs.Common.{◌≡◌, ◌∙◌, ◌+◌, ◌*◌, ◌<◌, ◌≤◌, ◌^◌, ◌++◌, ℕ, List, [], ◌∷◌, All, refl, sym, ap, subst, arith, length, length-append, map, string_bytes, get_or, suc, drop, append-nil}
use Rattle.std.specs.Prelude.{encode_utf8, encode_utf8_all, fold, flat_map, slice_get, IsSomeAnd, sum_by}
use Rattle.std.specs.declared.string.String.{String}
use Rattle.std.proofs.lemmas.List.{drop_all, length-map, get_or-map}
use Rattle.std.proofs.lemmas.List.Elements.{All-head, All-tail}
use Rattle.std.proofs.lemmas.List.Folds.{flat_map-map}
use Rattle.std.proofs.lemmas.List.Concat.{length-flat_map}
use Rattle.std.proofs.lemmas.Option.{slice_get_within}
use Rattle.std.proofs.lemmas.Str.{encodes-chars, length-encode, len_utf8_bounds, IsUtf8-string_bytes}
use Rattle.std.specs.Prelude.{Option, None, Some}
use Rattle.hipe_base.specs.declared.limits.TheConstants.{ATOM_LIMIT}
use Rattle.image_link.specs.declared.names.FunctionEntry.{FunctionEntry}
use Rattle.image_link.specs.declared.image.Function.{Function}
use Rattle.image_link.specs.Atoms.{atoms_of, points_of}
use Rattle.image_link.specs.Format.{atom_bytes, four, function_bytes, two, whole_length}
use Rattle.image_link.specs.Image.{ProgramImage, IsImage, entry_of}
use Rattle.image_link.specs.Names.{Ascends, IsDefinition, NamesDefinition}
use Rattle.image_link.proofs.Rules.{all_of}

-- UTF-8 has at most four bytes a code point
pub utf8_length : (points : List ℕ) → length (encode_utf8_all points) ≤ 4 * length points
utf8_length [] = omega arith
utf8_length (p ∷ ps) =
    omega (arith, length-append (encode_utf8 p) (encode_utf8_all ps), length-encode p, (len_utf8_bounds p).1, utf8_length ps)

-- the texts of atoms are short
pub short_texts : {A : Type 0} (texts : List (String A)) → All (λ a. length a ≤ ATOM_LIMIT) (atoms_of texts)
    → All (λ text. length (string_bytes text) ≤ 4 * ATOM_LIMIT) texts
short_texts texts all = λ k d below.
    let points : length (points_of (get_or texts k d)) ≤ ATOM_LIMIT =
    subst (λ a. length a ≤ ATOM_LIMIT) (get_or-map points_of texts k d (points_of d) below)
    (all k (points_of d) (rw (length-map texts points_of) below)) in
    let bytes : length (encode_utf8_all (points_of (get_or texts k d))) ≤ 4 * length (points_of (get_or texts k d)) =
    utf8_length (points_of (get_or texts k d)) in
    let same : length (encode_utf8_all (points_of (get_or texts k d))) ≡ length (string_bytes (get_or texts k d)) =
    ap length (encodes-chars (string_bytes (get_or texts k d)) (IsUtf8-string_bytes (get_or texts k d))) in
    omega (arith, points, bytes, same)

-- an ascending list of numbers from `low` on and below `high` is no longer than their distance
ascends_short : (low high : ℕ) (ns : List ℕ) → low ≤ high → Ascends ns → All (λ n. low ≤ n) ns → All (λ n. n < high) ns → low + length ns ≤ high
ascends_short low high [] le ascends above below = omega (arith, le)
ascends_short low high (n ∷ ns) le ascends above below =
    let rest : suc n + length ns ≤ high = ascends_short (suc n) high ns (All-head (λ n. n < high) n ns below) ascends.1 ascends.0 (All-tail (λ n. n < high) n ns below) in
    omega (arith, rest, All-head (λ m. low ≤ m) n ns above)

named_below : (fs : List FunctionEntry) (k : ℕ) → NamesDefinition fs k → k < length fs
named_below fs k = step (slice_get fs k) refl
  where
    step : (o : Option FunctionEntry) → slice_get fs k ≡ o → IsSomeAnd o IsDefinition → k < length fs
    step None is definition = absurd definition
    step (Some f) is definition = slice_get_within fs k f is

-- the numbers of functions and exports, and the code's length, fit four bytes
pub functions_fit : (i : ProgramImage) → IsImage i → length i.functions < 2 ^ 32
functions_fit i rules = rw (length-map i.functions entry_of) at rules.names.count

pub exports_fit : (i : ProgramImage) → IsImage i → length i.exports < 2 ^ 32
exports_fit i rules =
    let most : 0 + length i.exports ≤ length (map entry_of i.functions) =
    ascends_short 0 (length (map entry_of i.functions)) i.exports (omega arith) rules.names.ascending (λ k d below. omega arith)
    (all_of i.exports (named_below (map entry_of i.functions)) rules.names.exports) in
    omega (arith, most, rules.names.count)

pub code_fits : (i : ProgramImage) → IsImage i → length i.code < 2 ^ 32
code_fits i rules = omega (arith, rules.size)

-- how many bytes the tables have
pub four_length : (n : ℕ) → length (four n) ≡ 4
unfolding four
four_length n = refl

pub table_of_fours : (ns : List ℕ) → length (flat_map four ns) ≡ 4 * length ns
table_of_fours [] = refl
table_of_fours (n ∷ ns) = omega (arith, length-append (four n) (flat_map four ns), four_length n, table_of_fours ns)

function_length : (f : Function) → length (function_bytes f) ≡ 16
unfolding four
function_length f = refl

pub table_of_functions : (fs : List Function) → length (flat_map function_bytes fs) ≡ 16 * length fs
table_of_functions [] = refl
table_of_functions (f ∷ fs) =
    omega (arith, length-append (function_bytes f) (flat_map function_bytes fs), function_length f, table_of_functions fs)

-- an atom's bytes by its text
abbrev pub text_bytes : {A : Type 0} → String A → List ℕ
text_bytes text = two (length (string_bytes text)) ++ string_bytes text

same_bytes : {X : Type 0} (f g : X → List ℕ) → ((x : X) → f x ≡ g x) → (xs : List X) → flat_map f xs ≡ flat_map g xs
same_bytes f g same [] = refl
same_bytes f g same (x ∷ xs) = ap (λ b. b ++ flat_map f xs) (same x) ∙ ap (λ b. g x ++ b) (same_bytes f g same xs)

-- the table of atoms by their texts
pub atoms_are : {A : Type 0} (texts : List (String A)) → flat_map atom_bytes (atoms_of texts) ≡ flat_map text_bytes texts
atoms_are texts =
    flat_map-map atom_bytes points_of texts
    ∙ same_bytes (λ text. atom_bytes (points_of text)) text_bytes
    (λ text. ap (λ bytes. two (length bytes) ++ bytes) (encodes-chars (string_bytes text) (IsUtf8-string_bytes text))) texts

text_length : {A : Type 0} (text : String A) → length (text_bytes text) ≡ 2 + length (string_bytes text)
unfolding two
text_length text = omega arith

same_sum : {X : Type 0} (f g : X → ℕ) → ((x : X) → f x ≡ g x) → (a : ℕ) (xs : List X)
    → fold (λ n x. n + f x) a xs ≡ fold (λ n x. n + g x) a xs
same_sum f g same a [] = refl
same_sum f g same a (x ∷ xs) = ap (λ n. fold (λ m y. m + f y) (a + n) xs) (same x) ∙ same_sum f g same (a + g x) xs

-- how long it is
pub table_of_atoms : {A : Type 0} (texts : List (String A))
    → length (flat_map atom_bytes (atoms_of texts)) ≡ sum_by (λ text. 2 + length (string_bytes text)) texts
table_of_atoms texts =
    ap length (atoms_are texts) ∙ length-flat_map text_bytes texts
    ∙ same_sum (λ text. length (text_bytes text)) (λ text. 2 + length (string_bytes text)) text_length 0 texts

-- a loop that has put all items
pub all_put : {X : Type 0} (f : X → List ℕ) (now before : List ℕ) (xs : List X) (i : ℕ)
    → now ++ flat_map f (drop i xs) ≡ before ++ flat_map f xs → length xs ≤ i → now ≡ before ++ flat_map f xs
all_put f now before xs i is past =
    sym (append-nil now) ∙ ap (λ rest. now ++ flat_map f rest) (sym (drop_all i xs past)) ∙ is

-- how many bytes an image has
pub length_is : {A : Type 0} (texts : List (String A)) (i : ProgramImage) → atoms_of texts ≡ i.atoms
    → 72 + length i.code + sum_by (λ text. 2 + length (string_bytes text)) texts + 16 * length i.functions + 4 * length i.exports
    ≡ whole_length i
length_is texts i are = omega (
  arith,
  length-append (flat_map atom_bytes i.atoms ++ flat_map function_bytes i.functions) (flat_map four i.exports),
  length-append (flat_map atom_bytes i.atoms) (flat_map function_bytes i.functions),
  ap (λ atoms. length (flat_map atom_bytes atoms)) are,
  table_of_atoms texts,
  table_of_functions i.functions,
  table_of_fours i.exports,
)
