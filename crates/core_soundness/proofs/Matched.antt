-- A pattern that matches a good term binds as many variables as it has, each to a good term.
use Rattle.std.proofs.Common.{◌≡◌, ℕ, suc, ◌+◌, List, ◌∷◌, ◌++◌, Some, None, refl, sym, ap, subst, arith}
use Rattle.std.specs.Prelude.{Bool, true, false, option_map, length}
use Rattle.std.proofs.lemmas.List.{length-append, length-map}
use Rattle.hipe_terms.specs.Terms.{Term, integer, atom, nil, cons, tuple, fun, Terms, none, more, terms}
use Rattle.core_ast.specs.Trees.{Pattern, Patterns, no_pattern, and_pattern}
use Rattle.core_ast.specs.Names.{variables_of, variables_of_all}
use Rattle.core_meaning.specs.Procedures.{Program}
use Rattle.core_meaning.specs.Scopes.{bound_by}
use Rattle.core_meaning.specs.Matching.{Match, nothing_bound, together, is_this_integer, is_this_atom, is_nil, elements_of, parts_of, matched, matched_all, matched_cells}
use Rattle.core_soundness.proofs.Terms.{GoodTerm, GoodTerms, AllGood, append_good, terms_good}

module _ (program : Program) where
  -- what is bound, if the pattern matches: so many good terms
  abbrev pub Binds : ℕ → Match → Type 0
  Binds n None = Unit {0}
  Binds n (Some ts) = AllGood program ts × (length ts ≡ n)

  nothing_binds : (b : Bool) → Binds 0 (nothing_bound b)
  nothing_binds true = (tt, refl)
  nothing_binds false = tt

  together_binds : (m n : ℕ) (a b : Match) → Binds m a → Binds n b → Binds (m + n) (together a b)
  together_binds m n None b g h = tt
  together_binds m n (Some ts) None g h = tt
  together_binds m n (Some ts) (Some us) g h = (append_good program ts us g.0 h.0, omega (arith, length-append ts us, g.1, h.1))

  alias_binds : (n : ℕ) (t : Term) (m : Match) → GoodTerm program t → Binds n m → Binds (suc n) (option_map (λ ts. t ∷ ts) m)
  alias_binds n t None g h = tt
  alias_binds n t (Some ts) g h = ((g, h.0), ap suc h.1)

  elements_binds : (n : ℕ) (f : Terms → Match) (t : Term) → GoodTerm program t → ((ts : Terms) → GoodTerms program ts → Binds n (f ts)) → Binds n (elim (elements_of t) [ None ↦ None | Some ts ↦ f ts ])
  elements_binds n f (tuple ts) g h = h ts g
  elements_binds n f (integer i) g h = tt
  elements_binds n f (atom a) g h = tt
  elements_binds n f nil g h = tt
  elements_binds n f (cons a b) g h = tt
  elements_binds n f (fun i ts) g h = tt

  parts_binds : (n : ℕ) (f : Term × Term → Match) (t : Term) → GoodTerm program t → ((a b : Term) → GoodTerm program a → GoodTerm program b → Binds n (f (a, b))) → Binds n (elim (parts_of t) [ None ↦ None | Some parts ↦ f parts ])
  parts_binds n f (cons a b) g h = h a b g.0 g.1
  parts_binds n f (integer i) g h = tt
  parts_binds n f (atom a) g h = tt
  parts_binds n f nil g h = tt
  parts_binds n f (tuple ts) g h = tt
  parts_binds n f (fun i ts) g h = tt

  mutual
    matched_binds : (p : Pattern) (t : Term) → GoodTerm program t → Binds (length (variables_of p)) (matched p t)
    matched_binds (Pattern.Variable p x) t g = ((g, tt), refl)
    matched_binds (Pattern.Int p n) t g = nothing_binds (is_this_integer n t)
    matched_binds (Pattern.Atom p a) t g = nothing_binds (is_this_atom a t)
    matched_binds (Pattern.Nil p) t g = nothing_binds (is_nil t)
    matched_binds (Pattern.Tuple p ps) t g = elements_binds (length (variables_of_all ps)) (λ ts. matched_all ps ts) t g (λ ts g. all_bind ps ts g)
    matched_binds (Pattern.Cons p ps tail) t g =
        subst (λ n. Binds n (matched_cells ps (λ u. matched tail u) t)) (sym (length-append (variables_of_all ps) (variables_of tail)))
        (cells_bind ps (length (variables_of tail)) (λ u. matched tail u) (λ u g. matched_binds tail u g) t g)
    matched_binds (Pattern.Alias p x part) t g = alias_binds (length (variables_of part)) t (matched part t) g (matched_binds part t g)

    all_bind : (ps : Patterns) (ts : Terms) → GoodTerms program ts → Binds (length (variables_of_all ps)) (matched_all ps ts)
    all_bind no_pattern none g = (tt, refl)
    all_bind no_pattern (more t ts) g = tt
    all_bind (and_pattern p ps) none g = tt
    all_bind (and_pattern p ps) (more t ts) g =
        subst (λ n. Binds n (together (matched p t) (matched_all ps ts))) (sym (length-append (variables_of p) (variables_of_all ps)))
        (together_binds (length (variables_of p)) (length (variables_of_all ps)) (matched p t) (matched_all ps ts) (matched_binds p t g.0) (all_bind ps ts g.1))

    cells_bind : (ps : Patterns) (n : ℕ) (tail : Term → Match) → ((u : Term) → GoodTerm program u → Binds n (tail u)) → (t : Term) → GoodTerm program t → Binds (length (variables_of_all ps) + n) (matched_cells ps tail t)
    cells_bind no_pattern n tail h t g = subst (λ m. Binds m (tail t)) (omega arith) (h t g)
    cells_bind (and_pattern p ps) n tail h t g =
        parts_binds (length (variables_of p ++ variables_of_all ps) + n) (λ parts. together (matched p parts.0) (matched_cells ps tail parts.1)) t g
        (λ a b g g'. subst (λ m. Binds m (together (matched p a) (matched_cells ps tail b))) (omega (arith, length-append (variables_of p) (variables_of_all ps)))
        (together_binds (length (variables_of p)) (length (variables_of_all ps) + n) (matched p a) (matched_cells ps tail b) (matched_binds p a g) (cells_bind ps n tail h b g')))

  pub patterns_bind : (ps : Patterns) (ts : List Term) → AllGood program ts → Binds (length (bound_by ps)) (matched_all ps (terms ts))
  patterns_bind ps ts g = subst (λ n. Binds n (matched_all ps (terms ts))) (sym (length-map (variables_of_all ps) (λ x. x.name))) (all_bind ps (terms ts) (terms_good program ts g))
