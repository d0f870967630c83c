-- Folds of constants, by what a constant is made of.
use Rattle.std.proofs.Common.{◌≡◌, ℕ, ◌+◌, map, sum, length, refl, ◌∙◌, ap}
use Rattle.std.proofs.lemmas.List.{length-map}
use Rattle.hipe_terms.specs.declared.constant.Constant.{Constant, out-Constant}
use Rattle.hipe_terms.specs.declared.constant.Constant.TheOpen.{Constant-F}
use Rattle.hipe_terms.specs.declared.constant.Constant.TheFolds.{fold_out-Constant, fold-Constant, map-Constant}
use Rattle.hipe_terms.specs.declared.constant.Constant.TheViews.{the_lemmas}
use Rattle.hipe_terms.specs.Terms.{Term, integer, atom, nil, tuple, terms, cells, term_at, term_of}
use Rattle.hipe_terms.specs.Words.{words_at, words_of, list_words, tuple_words}

abbrev pub level_words : Constant-F Constant → ℕ
level_words (Constant-F.Int n) = 0
level_words (Constant-F.Atom a) = 0
level_words Constant-F.Nil = 0
level_words (Constant-F.List cs c) = sum (map words_of cs) + words_of c + list_words (length cs)
level_words (Constant-F.Tuple cs) = sum (map words_of cs) + tuple_words (length cs)

words_level : (l : Constant-F Constant) → words_at (map-Constant Constant ℕ (fold-Constant ℕ words_at) l) ≡ level_words l
unfolding words_of
words_level (Constant-F.Int n) = refl
words_level (Constant-F.Atom a) = refl
words_level Constant-F.Nil = refl
words_level (Constant-F.List cs c) = ap (λ n. sum (map words_of cs) + words_of c + list_words n) (length-map cs words_of)
words_level (Constant-F.Tuple cs) = ap (λ n. sum (map words_of cs) + tuple_words n) (length-map cs words_of)

pub words_is : (c : Constant) → words_of c ≡ level_words (out-Constant c)
unfolding words_of
words_is c = fold_out-Constant ℕ words_at c ∙ words_level (out-Constant c)

abbrev pub level_term : Constant-F Constant → Term
level_term (Constant-F.Int n) = integer n
level_term (Constant-F.Atom a) = atom a
level_term Constant-F.Nil = nil
level_term (Constant-F.List cs c) = cells (map term_of cs) (term_of c)
level_term (Constant-F.Tuple cs) = tuple (terms (map term_of cs))

term_level : (l : Constant-F Constant) → term_at (map-Constant Constant Term (fold-Constant Term term_at) l) ≡ level_term l
unfolding term_of
term_level (Constant-F.Int n) = refl
term_level (Constant-F.Atom a) = refl
term_level Constant-F.Nil = refl
term_level (Constant-F.List cs c) = refl
term_level (Constant-F.Tuple cs) = refl

pub term_is : (c : Constant) → term_of c ≡ level_term (out-Constant c)
unfolding term_of
term_is c = fold_out-Constant Term term_at c ∙ term_level (out-Constant c)

pub ruleset levels = (the_lemmas, words_is)

pub ruleset term_levels = (the_lemmas, term_is)
