-- The order, the text and the words of terms, on a table by hand. Each line is checked by computing its left side.
use Rattle.std.proofs.Common.{◌≡◌, pos, negsuc, [], ◌∷◌, refl, codes}
use Rattle.std.specs.Fmt.{digits}
use lib.Utf8.{encode}
use Rattle.std.specs.declared.cmp.Ordering.TheVariants.{Less, Greater}
use Rattle.hipe_terms.specs.declared.constant.Constant.TheOpen.{Constant-F}
use Rattle.hipe_terms.specs.Terms.{integer, atom, nil, tuple, fun, terms, cells}
use Rattle.hipe_terms.specs.Order.{order}
use Rattle.hipe_terms.specs.Shown.{Names, shown, escaped}
use Rattle.hipe_terms.specs.Words.{words_at}

-- ---- order, each before the next

less-1 : order (integer (negsuc 1)) (integer (negsuc 0)) ≡ Less
less-1 = refl

greater-1 : order (integer (negsuc 0)) (integer (negsuc 1)) ≡ Greater
greater-1 = refl

less-2 : order (integer (negsuc 0)) (integer (pos 1)) ≡ Less
less-2 = refl

greater-2 : order (integer (pos 1)) (integer (negsuc 0)) ≡ Greater
greater-2 = refl

less-3 : order (integer (pos 1)) (atom (codes "")) ≡ Less
less-3 = refl

greater-3 : order (atom (codes "")) (integer (pos 1)) ≡ Greater
greater-3 = refl

less-4 : order (atom (codes "")) (atom (65535 ∷ [])) ≡ Less
less-4 = refl

greater-4 : order (atom (65535 ∷ [])) (atom (codes "")) ≡ Greater
greater-4 = refl

less-5 : order (atom (65535 ∷ [])) (atom (65536 ∷ [])) ≡ Less
less-5 = refl

greater-5 : order (atom (65536 ∷ [])) (atom (65535 ∷ [])) ≡ Greater
greater-5 = refl

less-6 : order (atom (65536 ∷ [])) (fun 0 (terms ([]))) ≡ Less
less-6 = refl

greater-6 : order (fun 0 (terms ([]))) (atom (65536 ∷ [])) ≡ Greater
greater-6 = refl

less-7 : order (fun 0 (terms ([]))) (fun 0 (terms ((integer (pos 1)) ∷ []))) ≡ Less
less-7 = refl

greater-7 : order (fun 0 (terms ((integer (pos 1)) ∷ []))) (fun 0 (terms ([]))) ≡ Greater
greater-7 = refl

less-8 : order (fun 0 (terms ((integer (pos 1)) ∷ []))) (fun 1 (terms ([]))) ≡ Less
less-8 = refl

greater-8 : order (fun 1 (terms ([]))) (fun 0 (terms ((integer (pos 1)) ∷ []))) ≡ Greater
greater-8 = refl

less-9 : order (fun 1 (terms ([]))) (tuple (terms ([]))) ≡ Less
less-9 = refl

greater-9 : order (tuple (terms ([]))) (fun 1 (terms ([]))) ≡ Greater
greater-9 = refl

less-10 : order (tuple (terms ([]))) (tuple (terms ((integer (pos 9)) ∷ []))) ≡ Less
less-10 = refl

greater-10 : order (tuple (terms ((integer (pos 9)) ∷ []))) (tuple (terms ([]))) ≡ Greater
greater-10 = refl

less-11 : order (tuple (terms ((integer (pos 9)) ∷ []))) (tuple (terms ((integer (pos 1)) ∷ (integer (pos 2)) ∷ []))) ≡ Less
less-11 = refl

greater-11 : order (tuple (terms ((integer (pos 1)) ∷ (integer (pos 2)) ∷ []))) (tuple (terms ((integer (pos 9)) ∷ []))) ≡ Greater
greater-11 = refl

less-12 : order (tuple (terms ((integer (pos 1)) ∷ (integer (pos 2)) ∷ []))) (tuple (terms ((integer (pos 2)) ∷ (integer (pos 1)) ∷ []))) ≡ Less
less-12 = refl

greater-12 : order (tuple (terms ((integer (pos 2)) ∷ (integer (pos 1)) ∷ []))) (tuple (terms ((integer (pos 1)) ∷ (integer (pos 2)) ∷ []))) ≡ Greater
greater-12 = refl

less-13 : order (tuple (terms ((integer (pos 2)) ∷ (integer (pos 1)) ∷ []))) nil ≡ Less
less-13 = refl

greater-13 : order nil (tuple (terms ((integer (pos 2)) ∷ (integer (pos 1)) ∷ []))) ≡ Greater
greater-13 = refl

less-14 : order nil (cells ((integer (pos 1)) ∷ []) (atom (codes "z"))) ≡ Less
less-14 = refl

greater-14 : order (cells ((integer (pos 1)) ∷ []) (atom (codes "z"))) nil ≡ Greater
greater-14 = refl

less-15 : order (cells ((integer (pos 1)) ∷ []) (atom (codes "z"))) (cells ((integer (pos 1)) ∷ []) nil) ≡ Less
less-15 = refl

greater-15 : order (cells ((integer (pos 1)) ∷ []) nil) (cells ((integer (pos 1)) ∷ []) (atom (codes "z"))) ≡ Greater
greater-15 = refl

less-16 : order (cells ((integer (pos 1)) ∷ []) nil) (cells ((integer (pos 1)) ∷ (integer (pos 0)) ∷ []) nil) ≡ Less
less-16 = refl

greater-16 : order (cells ((integer (pos 1)) ∷ (integer (pos 0)) ∷ []) nil) (cells ((integer (pos 1)) ∷ []) nil) ≡ Greater
greater-16 = refl

less-17 : order (cells ((integer (pos 1)) ∷ (integer (pos 0)) ∷ []) nil) (cells ((integer (pos 2)) ∷ []) nil) ≡ Less
less-17 = refl

greater-17 : order (cells ((integer (pos 2)) ∷ []) nil) (cells ((integer (pos 1)) ∷ (integer (pos 0)) ∷ []) nil) ≡ Greater
greater-17 = refl

-- ---- text

-- a module with two definitions
names : Names
names = (codes "main", 0) ∷ (codes "f", 1) ∷ []

escaped-7 : escaped 7 ≡ codes "\\x{7}"
unfolding digits encode
escaped-7 = refl

escaped-8 : escaped 8 ≡ codes "\\b"
unfolding digits encode
escaped-8 = refl

escaped-9 : escaped 9 ≡ codes "\\t"
unfolding digits encode
escaped-9 = refl

escaped-10 : escaped 10 ≡ codes "\\n"
unfolding digits encode
escaped-10 = refl

escaped-11 : escaped 11 ≡ codes "\\v"
unfolding digits encode
escaped-11 = refl

escaped-12 : escaped 12 ≡ codes "\\f"
unfolding digits encode
escaped-12 = refl

escaped-13 : escaped 13 ≡ codes "\\r"
unfolding digits encode
escaped-13 = refl

escaped-14 : escaped 14 ≡ codes "\\x{e}"
unfolding digits encode
escaped-14 = refl

escaped-0 : escaped 0 ≡ codes "\\x{0}"
unfolding digits encode
escaped-0 = refl

escaped-27 : escaped 27 ≡ codes "\\e"
unfolding digits encode
escaped-27 = refl

escaped-31 : escaped 31 ≡ codes "\\x{1f}"
unfolding digits encode
escaped-31 = refl

escaped-32 : escaped 32 ≡ codes " "
unfolding digits encode
escaped-32 = refl

escaped-39 : escaped 39 ≡ codes "\\'"
unfolding digits encode
escaped-39 = refl

escaped-92 : escaped 92 ≡ codes "\\\\"
unfolding digits encode
escaped-92 = refl

escaped-126 : escaped 126 ≡ codes "~"
unfolding digits encode
escaped-126 = refl

escaped-127 : escaped 127 ≡ codes "\\d"
unfolding digits encode
escaped-127 = refl

escaped-128 : escaped 128 ≡ codes "\\x{80}"
unfolding digits encode
escaped-128 = refl

escaped-159 : escaped 159 ≡ codes "\\x{9f}"
unfolding digits encode
escaped-159 = refl

escaped-160 : escaped 160 ≡ 194 ∷ 160 ∷ []
unfolding digits encode
escaped-160 = refl

escaped-233 : escaped 233 ≡ 195 ∷ 169 ∷ []
unfolding digits encode
escaped-233 = refl

escaped-8364 : escaped 8364 ≡ 226 ∷ 130 ∷ 172 ∷ []
unfolding digits encode
escaped-8364 = refl

escaped-128512 : escaped 128512 ≡ 240 ∷ 159 ∷ 152 ∷ 128 ∷ []
unfolding digits encode
escaped-128512 = refl

shown-1 : shown names (integer (negsuc 4)) ≡ codes "-5"
unfolding names digits encode
shown-1 = refl

shown-2 : shown names (atom (codes "ok")) ≡ codes "'ok'"
unfolding names digits encode
shown-2 = refl

shown-3 : shown names nil ≡ codes "[]"
unfolding names digits encode
shown-3 = refl

shown-4 : shown names (tuple (terms ([]))) ≡ codes "{}"
unfolding names digits encode
shown-4 = refl

shown-5 : shown names (tuple (terms ((integer (pos 1)) ∷ (integer (pos 2)) ∷ []))) ≡ codes "{1,2}"
unfolding names digits encode
shown-5 = refl

shown-6 : shown names (cells ((integer (pos 1)) ∷ (integer (pos 2)) ∷ []) nil) ≡ codes "[1,2]"
unfolding names digits encode
shown-6 = refl

shown-7 : shown names (cells ((integer (pos 1)) ∷ (integer (pos 2)) ∷ []) (integer (pos 3))) ≡ codes "[1,2|3]"
unfolding names digits encode
shown-7 = refl

shown-8 : shown names (cells ((tuple (terms ((atom (codes "a")) ∷ []))) ∷ []) (fun 1 (terms ((integer (pos 1)) ∷ [])))) ≡ codes "[{'a'}|#Fun<'f'/1>]"
unfolding names digits encode
shown-8 = refl

shown-9 : shown names (fun 0 (terms ([]))) ≡ codes "#Fun<'main'/0>"
unfolding names digits encode
shown-9 = refl

shown-10 : shown names (fun 2 (terms ((integer (pos 7)) ∷ []))) ≡ codes "#Fun<0>"
unfolding names digits encode
shown-10 = refl

shown-11 : shown names (fun 3 (terms ([]))) ≡ codes "#Fun<1>"
unfolding names digits encode
shown-11 = refl

-- ---- words

words-integer : words_at (Constant-F.Int (pos 7)) ≡ 0
words-integer = refl

words-list : words_at (Constant-F.List (0 ∷ 3 ∷ 0 ∷ []) 2) ≡ 11
words-list = refl

words-tuple : words_at (Constant-F.Tuple (0 ∷ 4 ∷ [])) ≡ 7
words-tuple = refl

words-empty_tuple : words_at (Constant-F.Tuple []) ≡ 1
words-empty_tuple = refl
