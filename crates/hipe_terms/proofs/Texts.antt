-- The texts of lists.
use Rattle.std.proofs.Common.{◌≡◌, ℕ, true, false, List, [], ◌∷◌, ◌++◌, map, refl, sym, ap, ◌∙◌, append_assoc, codes}
use Rattle.hipe_terms.specs.declared.constant.Constant.{Constant, out-Constant}
use Rattle.hipe_terms.specs.declared.constant.Constant.TheOpen.{Constant-F}
use Rattle.hipe_terms.specs.Constants.{IsConstant, has_parts, form_of, is_nil, is_nil_at}
use Rattle.hipe_terms.specs.Terms.{Term, terms, cells, term_of}
use Rattle.hipe_terms.specs.Shown.{shown, shown_tail, shown_all, shown_more, after_bar}
use Rattle.hipe_terms.proofs.Levels.{level_term, term_is}
use Rattle.hipe_terms.proofs.Parts.{level_form, list_is, some_parts, tail_ends}

more_shown : (ts : List Term) (t : Term) → shown_tail [] (cells ts t) ≡ shown_more [] (terms ts) ++ shown_tail [] t
more_shown [] t = refl
more_shown (u ∷ ts) t = ap (λ w. codes "," ++ shown [] u ++ w) (more_shown ts t) ∙ sym (append_assoc (codes "," ++ shown [] u) (shown_more [] (terms ts)) (shown_tail [] t))

parts_shown : (cs : List Constant) (t : Term) → has_parts (map form_of cs) ≡ true → shown [] (cells (map term_of cs) t) ≡ codes "[" ++ (shown_all [] (terms (map term_of cs)) ++ shown_tail [] t)
parts_shown [] t e = cc
parts_shown (c ∷ cs) t e =
    ap (λ w. codes "[" ++ shown [] (term_of c) ++ w) (more_shown (map term_of cs) t)
    ∙ append_assoc (codes "[") (shown [] (term_of c)) (shown_more [] (terms (map term_of cs)) ++ shown_tail [] t)
    ∙ ap (λ w. codes "[" ++ w) (sym (append_assoc (shown [] (term_of c)) (shown_more [] (terms (map term_of cs))) (shown_tail [] t)))

tail_at : (l : Constant-F Constant) → (level_form l).list ≡ false → is_nil_at l ≡ false → shown_tail [] (level_term l) ≡ after_bar (shown [] (level_term l))
tail_at (Constant-F.Int n) e f = refl
tail_at (Constant-F.Atom a) e f = refl
tail_at Constant-F.Nil e f = cc
tail_at (Constant-F.List cs c) e f = cc
tail_at (Constant-F.Tuple cs) e f = refl

nil_at : (l : Constant-F Constant) → is_nil_at l ≡ true → shown_tail [] (level_term l) ≡ codes "]"
nil_at (Constant-F.Int n) f = cc
nil_at (Constant-F.Atom a) f = cc
nil_at Constant-F.Nil f = refl
nil_at (Constant-F.List cs c) f = cc
nil_at (Constant-F.Tuple cs) f = cc

list_shown : (c : Constant) (cs : List Constant) (d : Constant) → out-Constant c ≡ Constant-F.List cs d → IsConstant c → shown [] (term_of c) ≡ codes "[" ++ (shown_all [] (terms (map term_of cs)) ++ shown_tail [] (term_of d))
list_shown c cs d e g = ap (shown []) (term_is c ∙ ap level_term e) ∙ parts_shown cs (term_of d) (some_parts c cs d e g)

pub list_text : (c : Constant) (cs : List Constant) (d : Constant) → out-Constant c ≡ Constant-F.List cs d → IsConstant c → is_nil d ≡ true
    → shown [] (term_of c) ≡ codes "[" ++ (shown_all [] (terms (map term_of cs)) ++ codes "]")
list_text c cs d e g n = list_shown c cs d e g ∙ ap (λ w. codes "[" ++ (shown_all [] (terms (map term_of cs)) ++ w)) (ap (shown_tail []) (term_is d) ∙ nil_at (out-Constant d) n)

pub list_text_with_tail : (c : Constant) (cs : List Constant) (d : Constant) → out-Constant c ≡ Constant-F.List cs d → IsConstant c → is_nil d ≡ false
    → shown [] (term_of c) ≡ codes "[" ++ (shown_all [] (terms (map term_of cs)) ++ (codes "|" ++ (shown [] (term_of d) ++ codes "]")))
list_text_with_tail c cs d e g n =
    list_shown c cs d e g
    ∙ ap (λ w. codes "[" ++ (shown_all [] (terms (map term_of cs)) ++ w))
    (ap (shown_tail []) (term_is d)
    ∙ tail_at (out-Constant d) (sym (list_is d (out-Constant d) refl) ∙ tail_ends c cs d e g) n
    ∙ append_assoc (codes "|") (shown [] (level_term (out-Constant d))) (codes "]")
    ∙ ap (λ t. codes "|" ++ (shown [] t ++ codes "]")) (sym (term_is d)))

-- ---- texts that pieces were appended to

pub after_three : (s a b d : List ℕ) {p q r w : List ℕ} → p ≡ s ++ a → q ≡ p ++ b → r ≡ q ++ d → w ≡ a ++ (b ++ d) → r ≡ s ++ w
after_three s a b d e f g h = g ∙ ap (λ x. x ++ d) (f ∙ ap (λ x. x ++ b) e) ∙ append_assoc (s ++ a) b d ∙ append_assoc s a (b ++ d) ∙ ap (λ x. s ++ x) (sym h)

pub after_five : (s a b d e f : List ℕ) {p q r t u w : List ℕ} → p ≡ s ++ a → q ≡ p ++ b → r ≡ q ++ d → t ≡ r ++ e → u ≡ t ++ f → w ≡ a ++ (b ++ (d ++ (e ++ f))) → u ≡ s ++ w
after_five s a b d e f {q = q} i j k l m h = after_three s a b (d ++ (e ++ f)) i j (after_three q d e f k l m refl) h
