-- The term for which a word stands.
use Rattle.std.specs.Prelude.{◌≡◌, ℕ, List, [], ◌∷◌, ◌++◌, Bool, true, false, Option, Some, None}
use Rattle.hipe_terms.specs.Shown.{Names, shown}
use Rattle.hipe_terms.specs.Terms.{Term, integer, atom, nil, cons, tuple, fun, Terms, none, more}
use Rattle.heap_terms.specs.Shapes.{Symbols, Reference, Shape, Integer, Atom, Nil, Cons, Tuple, Fun, made_of, from_outside}

abbrev pub both : Option Term → Option Term → Option Term
both (Some t) (Some u) = Some (cons t u)
both (Some t) None = None
both None u = None

abbrev pub joined : Option Term → Option Terms → Option Terms
joined (Some t) (Some ts) = Some (more t ts)
joined (Some t) None = None
joined None ts = None

-- all of them, if each is a term
abbrev pub all_terms : List (Option Term) → Option Terms
all_terms [] = Some none
all_terms (t ∷ ts) = joined t (all_terms ts)

abbrev pub tuple_term : Option Terms → Option Term
tuple_term None = None
tuple_term (Some ts) = Some (tuple ts)

abbrev pub fun_term : ℕ → Option Terms → Option Term
fun_term number None = None
fun_term number (Some ts) = Some (fun number ts)

abbrev pub term_step : Reference → Option (Shape (Option Term)) → Option Term
term_step at None = None
term_step at (Some (Integer value)) = Some (integer value)
term_step at (Some (Atom name)) = Some (atom name)
term_step at (Some Nil) = Some nil
term_step at (Some (Cons head tail)) = both head tail
term_step at (Some (Tuple elements)) = tuple_term (all_terms elements)
term_step at (Some (Fun number captured)) = fun_term number (all_terms captured)

-- the term for which a reference stands, if it stands for one
unfoldable pub term_below : Symbols → List ℕ → Reference → Option Term
term_below symbols heap at = made_of (Option Term) term_step symbols heap at

-- the term for which a word outside the heap stands
abbrev pub term_at : Symbols → List ℕ → ℕ → Option Term
term_at symbols heap w = term_below symbols heap (from_outside heap w)

abbrev pub is_some : Option Term → Bool
is_some None = false
is_some (Some t) = true

-- whether there is a term, and then its text stands behind what was there before
abbrev pub HasShown : Names → List ℕ → Option Term → Bool → List ℕ → Type 0
HasShown names before None found after = found ≡ false
HasShown names before (Some t) found after = (found ≡ true) × (after ≡ before ++ shown names t)
