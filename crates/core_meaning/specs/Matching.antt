-- Whether a pattern matches a term, and what its variables are then bound to.
use Rattle.std.specs.Prelude.{ℕ, ℤ, Bool, true, false, if◌then◌else◌, List, [], ◌∷◌, ◌++◌, Option, Some, None, option_map, bytes_eq}
use Rattle.std.specs.Ordering.{int_eq}
use Rattle.hipe_terms.specs.Terms.{Term, integer, atom, nil, cons, tuple, Terms, none, more}
use Rattle.core_ast.specs.Trees.{Pattern, Patterns, no_pattern, and_pattern}

-- what the variables are bound to, in the order of the text, where the pattern matches
abbrev pub Match : Type 0
Match = Option (List Term)

abbrev pub nothing_bound : Bool → Match
nothing_bound b = if b then Some [] else None

-- both match
abbrev pub together : Match → Match → Match
together (Some ts) (Some us) = Some (ts ++ us)
together m n = None

abbrev pub is_this_integer : ℤ → Term → Bool
is_this_integer n (integer m) = int_eq m n
is_this_integer n t = false

abbrev pub is_this_atom : List ℕ → Term → Bool
is_this_atom a (atom b) = bytes_eq a b
is_this_atom a t = false

abbrev pub is_nil : Term → Bool
is_nil nil = true
is_nil t = false

-- the elements of a tuple
abbrev pub elements_of : Term → Option Terms
elements_of (tuple ts) = Some ts
elements_of t = None

-- the head and the tail of a list
abbrev pub parts_of : Term → Option (Term × Term)
parts_of (cons a b) = Some (a, b)
parts_of t = None

abbrev mutual
  pub matched : Pattern → Term → Match
  matched (Pattern.Variable p x) t = Some (t ∷ [])
  matched (Pattern.Int p n) t = nothing_bound (is_this_integer n t)
  matched (Pattern.Atom p a) t = nothing_bound (is_this_atom a t)
  matched (Pattern.Nil p) t = nothing_bound (is_nil t)
  matched (Pattern.Tuple p parts) t = elim (elements_of t) [ None ↦ None | Some ts ↦ matched_all parts ts ]
  matched (Pattern.Cons p parts tail) t = matched_cells parts (λ u. matched tail u) t
  matched (Pattern.Alias p x part) t = option_map (λ ts. t ∷ ts) (matched part t)

  -- as many patterns as terms, each its own
  pub matched_all : Patterns → Terms → Match
  matched_all no_pattern none = Some []
  matched_all no_pattern (more t ts) = None
  matched_all (and_pattern p ps) none = None
  matched_all (and_pattern p ps) (more t ts) = together (matched p t) (matched_all ps ts)

  -- the first elements of a list, and its tail
  pub matched_cells : Patterns → (Term → Match) → Term → Match
  matched_cells no_pattern tail t = tail t
  matched_cells (and_pattern p ps) tail t = elim (parts_of t) [ None ↦ None | Some parts ↦ together (matched p parts.0) (matched_cells ps tail parts.1) ]
