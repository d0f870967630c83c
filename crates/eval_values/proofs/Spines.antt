-- Lists of values.
use Rattle.std.proofs.Common.{◌≡◌, ℕ, ◌+◌, ◌<◌, List, [], ◌∷◌, ◌++◌, Option, Some, None, option_map, take, length, refl, sym, ap, ◌∙◌, append_assoc, append-nil, Bor}
use Rattle.std.specs.Prelude.{get_or}
use Rattle.std.proofs.lemmas.List.{take_more, map-append}
use Rattle.hipe_terms.specs.Outcome.{elements}
use Rattle.hipe_terms.specs.Terms.{Term, cons, cells}
use Rattle.eval_values.specs.declared.value.Cell.{Cell}
use Rattle.eval_values.specs.declared.value.Value.{Value}
use Rattle.eval_values.specs.declared.value.Value.TheVariants as Made
use Rattle.eval_values.specs.Values.{term_in, terms_in}
use Rattle.eval_values.proofs.Made.{cons_is, nil_is}

pub cells_append : (ts us : List Term) (t : Term) → cells (ts ++ us) t ≡ cells ts (cells us t)
cells_append [] us t = refl
cells_append (x ∷ ts) us t = ap (cons x) (cells_append ts us t)

-- a list up to an element is one up to the element before, with the element before the tail
pub cells_more : (vs : List Value) (i : ℕ) (d : Value) (t : Term) → i < length vs → cells (terms_in (take (i + 1) vs)) t ≡ cells (terms_in (take i vs)) (cons (term_in (get_or vs i d)) t)
cells_more vs i d t h =
    ap (λ l. cells (terms_in l) t) (take_more vs i d h)
    ∙ ap (λ l. cells l t) (map-append term_in (take i vs) (get_or vs i d ∷ []))
    ∙ cells_append (terms_in (take i vs)) (term_in (get_or vs i d) ∷ []) t

elements_pushed : (fs : List Value) (h : Value) (o : Option (List Term)) → option_map (λ ts. terms_in (fs ++ h ∷ []) ++ ts) o ≡ option_map (λ ts. terms_in fs ++ ts) (option_map (λ ts. term_in h ∷ ts) o)
elements_pushed fs h None = refl
elements_pushed fs h (Some ts) = ap (λ l. Some (l ++ ts)) (map-append term_in fs (h ∷ [])) ∙ ap Some (append_assoc (terms_in fs) (term_in h ∷ []) ts)

-- the elements of a list are those that were found and those of the rest
pub elements_more : (rest : Value) (x : Bor Cell) (found : List Value) (all : Option (List Term)) → rest ≡ Made.Cons x → option_map (λ ts. terms_in found ++ ts) (elements (term_in rest)) ≡ all → option_map (λ ts. terms_in (found ++ (x.now).head ∷ []) ++ ts) (elements (term_in (x.now).tail)) ≡ all
elements_more rest x found all e is =
    elements_pushed found (x.now).head (elements (term_in (x.now).tail))
    ∙ ap (λ t. option_map (λ ts. terms_in found ++ ts) (elements t)) (sym (cons_is rest x e))
    ∙ is

pub elements_done : (rest : Value) (found : List Value) (all : Option (List Term)) → rest ≡ Made.Nil → option_map (λ ts. terms_in found ++ ts) (elements (term_in rest)) ≡ all → Some (terms_in found) ≡ all
elements_done rest found all e is =
    ap Some (sym (append-nil (terms_in found)))
    ∙ ap (λ t. option_map (λ ts. terms_in found ++ ts) (elements t)) (sym (nil_is rest e))
    ∙ is
