-- What patterns bind, one after another.
use Rattle.std.proofs.Common.{◌≡◌, ℕ, suc, ◌+◌, ◌<◌, ◌≤◌, List, [], ◌∷◌, ◌++◌, Option, Some, None, option_map, map, drop, get_or, length, true, false, refl, sym, ap, ◌∙◌, append_assoc, append-nil, arith}
use Rattle.std.specs.Prelude.{Bool}
use Rattle.std.proofs.lemmas.List.{map-append, at_drop_more, at_drop_all}
use Rattle.hipe_terms.specs.Terms.{Term, none, terms}
use Rattle.core_ast.specs.Trees.{Pattern, Patterns, no_pattern, and_pattern, pattern_of, patterns}
use Rattle.core_ast.specs.declared.pattern.Pattern as RustPattern
use Rattle.core_ast.specs.declared.pattern.PatNode.{out-PatNode}
use Rattle.core_ast.specs.declared.pattern.Var.{Var}
use Rattle.core_ast.specs.declared.pattern.PatNode.TheVariants as PatNodes
use Rattle.core_ast.proofs.Levels as Levels
use Rattle.core_meaning.specs.Matching.{Match, nothing_bound, together, parts_of, matched, matched_all, matched_cells}
use Rattle.eval_values.specs.declared.value.Value.{Value}
use Rattle.eval_values.specs.Values.{term_in, terms_in}
use Rattle.eval_contexts.specs.Matches.{after, where_matched}

pub nothing_more : (b c : Bool) (ts : List Term) → b ≡ c → where_matched b ts ≡ after ts (nothing_bound c)
unfolding after where_matched
nothing_more true c ts e = ap Some (sym (append-nil ts)) ∙ ap (λ d. option_map (λ us. ts ++ us) (nothing_bound d)) e
nothing_more false c ts e = ap (λ d. option_map (λ us. ts ++ us) (nothing_bound d)) e

pub nothing_matched : (ts us : List Term) → where_matched false ts ≡ after us None
unfolding after where_matched
nothing_matched ts us = refl

pub variable_matched : (vs ws : List Value) (v : Value) → ws ≡ vs ++ v ∷ [] → where_matched true (terms_in ws) ≡ after (terms_in vs) (Some (term_in v ∷ []))
unfolding after where_matched
variable_matched vs ws v e = ap (λ l. Some (terms_in l)) e ∙ ap Some (map-append term_in vs (v ∷ []))

alias_more : (ts : List Term) (t : Term) (m : Match) → option_map (λ us. (ts ++ t ∷ []) ++ us) m ≡ option_map (λ us. ts ++ us) (option_map (λ us. t ∷ us) m)
alias_more ts t None = refl
alias_more ts t (Some us) = ap Some (append_assoc ts (t ∷ []) us)

pub alias_matched : (vs ws : List Value) (v : Value) (m : Match) → ws ≡ vs ++ v ∷ [] → after (terms_in ws) m ≡ after (terms_in vs) (option_map (λ us. term_in v ∷ us) m)
unfolding after
alias_matched vs ws v m e = ap (λ l. option_map (λ us. terms_in l ++ us) m) e ∙ ap (λ l. option_map (λ us. l ++ us) m) (map-append term_in vs (v ∷ [])) ∙ alias_more (terms_in vs) (term_in v) m

together_none : (m : Match) → together m None ≡ None
together_none None = refl
together_none (Some ts) = refl

-- both match where the first does, and it adds what it binds
pub both_more : (ts us : List Term) (m n : Match) → where_matched true us ≡ after ts m → after ts (together m n) ≡ after us n
unfolding after where_matched
both_more ts us None n e = absurd (cc)
both_more ts us (Some xs) None e = refl
both_more ts us (Some xs) (Some ys) e = let d : us ≡ ts ++ xs = cc in ap Some (sym (append_assoc ts xs ys) ∙ ap (λ l. l ++ ys) (sym d))

pub both_lost : (ts us vs : List Term) (m n : Match) → where_matched false us ≡ after ts m → where_matched false vs ≡ after ts (together m n)
unfolding after where_matched
both_lost ts us vs None n e = refl
both_lost ts us vs (Some xs) n e = absurd (cc)

-- where there are not as many patterns as values
unequal : (ps : List RustPattern.Pattern) (vs : List Value) → (length ps ≡ length vs → ⊥) → matched_all (patterns (map pattern_of ps)) (terms (terms_in vs)) ≡ None
unequal [] [] h = absurd (h refl)
unequal [] (v ∷ vs) h = refl
unequal (p ∷ ps) [] h = refl
unequal (p ∷ ps) (v ∷ vs) h = ap (together (matched (pattern_of p) (term_in v))) (unequal ps vs (λ e. h (ap suc e))) ∙ together_none (matched (pattern_of p) (term_in v))

pub unequal_lost : (ps : List RustPattern.Pattern) (vs : List Value) (ts us : List Term) → (length ps ≡ length vs → ⊥) → where_matched false us ≡ after ts (matched_all (patterns (map pattern_of ps)) (terms (terms_in vs)))
unequal_lost ps vs ts us h = nothing_matched us ts ∙ ap (after ts) (sym (unequal ps vs h))

pub all_matched : (ts : List Term) → where_matched true ts ≡ after ts (matched_all no_pattern none)
unfolding after where_matched
all_matched ts = ap Some (sym (append-nil ts))

-- the cells of a list
abbrev cells_at : Patterns → Pattern → (Term → Match) → Option (Term × Term) → Match
cells_at ps p tail o = elim o [ None ↦ None | Some parts ↦ together (matched p parts.0) (matched_cells ps tail parts.1) ]

cells_are : (ps : Patterns) (p : Pattern) (tail : Term → Match) (t : Term) → matched_cells (and_pattern p ps) tail t ≡ cells_at ps p tail (parts_of t)
cells_are ps p tail t = refl

pub cells_more : (ps : Patterns) (p : Pattern) (tail : Term → Match) (t h r : Term) (ts us : List Term) → parts_of t ≡ Some (h, r) → where_matched true us ≡ after ts (matched p h) → after ts (matched_cells (and_pattern p ps) tail t) ≡ after us (matched_cells ps tail r)
cells_more ps p tail t h r ts us e m = ap (after ts) (cells_are ps p tail t ∙ ap (cells_at ps p tail) e) ∙ both_more ts us (matched p h) (matched_cells ps tail r) m

lost : (ts : List Term) → None ≡ where_matched false ts
unfolding where_matched
lost ts = refl

pub cells_lost : (ps : Patterns) (p : Pattern) (tail : Term → Match) (t h r : Term) (ts us : List Term) → parts_of t ≡ Some (h, r) → where_matched false us ≡ after ts (matched p h) → None ≡ after ts (matched_cells (and_pattern p ps) tail t)
cells_lost ps p tail t h r ts us e m = lost us ∙ both_lost ts us us (matched p h) (matched_cells ps tail r) m ∙ ap (after ts) (sym (cells_are ps p tail t ∙ ap (cells_at ps p tail) e))

pub cells_none : (ps : Patterns) (p : Pattern) (tail : Term → Match) (t : Term) (ts : List Term) → parts_of t ≡ None → None ≡ after ts (matched_cells (and_pattern p ps) tail t)
cells_none ps p tail t ts e = lost ts ∙ nothing_matched ts ts ∙ ap (after ts) (sym (cells_are ps p tail t ∙ ap (cells_at ps p tail) e))

-- ---- the patterns that are left

abbrev each_left : List Term → List RustPattern.Pattern → List Value → Match
each_left ts ps vs = after ts (matched_all (patterns (map pattern_of ps)) (terms (terms_in vs)))

pub each_unroll : (ts : List Term) (ps : List RustPattern.Pattern) (vs : List Value) (i : ℕ) (p : RustPattern.Pattern) (v : Value) → i < length ps → length ps ≡ length vs → p ≡ get_or ps i p → v ≡ get_or vs i v →
    each_left ts (drop i ps) (drop i vs) ≡ after ts (together (matched (pattern_of p) (term_in v)) (matched_all (patterns (map pattern_of (drop (i + 1) ps))) (terms (terms_in (drop (i + 1) vs)))))
each_unroll ts ps vs i p v h s e f =
    let k : i < length vs = omega arith in
    at_drop_more (λ l. each_left ts l (drop i vs)) ps i p h
    ∙ ap (λ q. each_left ts (q ∷ drop (i + 1) ps) (drop i vs)) (sym e)
    ∙ at_drop_more (λ l. each_left ts (p ∷ drop (i + 1) ps) l) vs i v k
    ∙ ap (λ w. each_left ts (p ∷ drop (i + 1) ps) (w ∷ drop (i + 1) vs)) (sym f)

pub each_end : (ts : List Term) (ps : List RustPattern.Pattern) (vs : List Value) (i : ℕ) → length ps ≤ i → length ps ≡ length vs → where_matched true ts ≡ each_left ts (drop i ps) (drop i vs)
each_end ts ps vs i h s =
    let k : length vs ≤ i = omega arith in
    all_matched ts ∙ sym (at_drop_all (λ l. each_left ts l (drop i vs)) ps i h ∙ at_drop_all (λ l. each_left ts [] l) vs i k)

pub cells_unroll : (ts : List Term) (ps : List RustPattern.Pattern) (i : ℕ) (p : RustPattern.Pattern) (tail : Term → Match) (t : Term) → i < length ps → p ≡ get_or ps i p →
    after ts (matched_cells (patterns (map pattern_of (drop i ps))) tail t) ≡ after ts (matched_cells (and_pattern (pattern_of p) (patterns (map pattern_of (drop (i + 1) ps)))) tail t)
cells_unroll ts ps i p tail t h e =
    at_drop_more (λ l. after ts (matched_cells (patterns (map pattern_of l)) tail t)) ps i p h
    ∙ ap (λ q. after ts (matched_cells (patterns (map pattern_of (q ∷ drop (i + 1) ps))) tail t)) (sym e)

pub list_nowhere : (q : RustPattern.Pattern) (parts : List RustPattern.Pattern) (tail : RustPattern.Pattern) (v : Term) (ts us : List Term) → q.node ≡ PatNodes.List parts tail →
    ((k : Term → Match) → None ≡ after ts (matched_cells (patterns (map pattern_of parts)) k v)) → where_matched false us ≡ after ts (matched (pattern_of q) v)
list_nowhere q parts tail v ts us e h =
    sym (lost us)
    ∙ h (matched (pattern_of tail))
    ∙ ap (λ x. after ts (matched x v)) (sym (Levels.pattern_is q ∙ ap (λ n. Levels.level_pattern (out-PatNode n) q.at) e ∙ ap (λ l. Levels.level_pattern l q.at) (PatNodes.outs-List parts tail)))

pub alias_here : (q : RustPattern.Pattern) (x : Var) (part : RustPattern.Pattern) (v : Value) (vs ws : List Value) (us : List Term) (b : Bool) → q.node ≡ PatNodes.Alias x part → ws ≡ vs ++ v ∷ [] →
    where_matched b us ≡ after (terms_in ws) (matched (pattern_of part) (term_in v)) → where_matched b us ≡ after (terms_in vs) (matched (pattern_of q) (term_in v))
alias_here q x part v vs ws us b e f m =
    m
    ∙ alias_matched vs ws v (matched (pattern_of part) (term_in v)) f
    ∙ ap (λ y. after (terms_in vs) (matched y (term_in v))) (sym (Levels.pattern_is q ∙ ap (λ n. Levels.level_pattern (out-PatNode n) q.at) e ∙ ap (λ l. Levels.level_pattern l q.at) (PatNodes.outs-Alias x part)))

-- all that patterns bind
same_match : (m : Match) → option_map (λ us. [] ++ us) m ≡ m
same_match None = refl
same_match (Some us) = refl

pub matched_whole : (ts us : List Term) (m : Match) → ts ≡ [] → where_matched true us ≡ after ts m → Some us ≡ m
unfolding after where_matched
matched_whole ts us m t e = e ∙ ap (λ l. option_map (λ us. l ++ us) m) t ∙ same_match m

pub matched_nowhere : (ts us : List Term) (m : Match) → ts ≡ [] → where_matched false us ≡ after ts m → None ≡ m
unfolding after where_matched
matched_nowhere ts us m t e = e ∙ ap (λ l. option_map (λ us. l ++ us) m) t ∙ same_match m

pub ruleset whole = (matched_whole, matched_nowhere)

pub ruleset levels = (Levels.pattern_levels, nothing_more, nothing_matched, variable_matched, alias_matched)
