-- Terminals of the kinds that a pattern is printed as are derived as a pattern that differs in places alone.
use Rattle.std.proofs.Common.{◌≡◌, ℕ, ◌+◌, List, [], ◌∷◌, Bool, true, false, refl, ap, ap₂, sym, ◌∙◌}
use Rattle.hipe_terms.specs.declared.place.Place.{Place}
use Rattle.core_ast.specs.declared.pattern.Pattern.{Pattern}
use Rattle.core_ast.specs.declared.pattern.PatNode.TheOpen.{PatNode-F}
use Rattle.core_ast.specs.Trees as T
use Rattle.core_ast.specs.SameTree.{start, placeless_variable, placeless_pattern, placeless_patterns}
use Rattle.core_ast.specs.WellFormed.{is_list_pattern}
use Rattle.core_grammar.specs.declared.terminal.Kind.{Kind}
use Rattle.core_grammar.specs.declared.terminal.Mark.{Mark}
use Rattle.core_grammar.specs.declared.terminal.Terminal.{Terminal}
use Rattle.core_grammar.specs.Leave.{Leave, mark}
use Rattle.core_grammar.specs.Trees.{variable_at, pattern_at, pattern_cells, pattern_nil}
use Rattle.core_grammar.specs.Language.{limit}
use Rattle.core_grammar.specs.Grammar as G
use Rattle.core_print.specs.Printed.{is_nil_pattern}
use Rattle.core_round_trip.proofs.TreeKinds.{Kinds, next, list_end, pattern_kinds, patterns_kinds, patterns_behind}
use Rattle.core_round_trip.specs.Fits.{At, HasPattern, PatternFits, PatternsFit}
use Rattle.core_round_trip.proofs.Made.{pattern_made, plain_patterns, pattern_cells_made, same_list_pattern}
use Rattle.core_round_trip.proofs.Readings.{Reading, ReadingTo, up_to, integer_is}

abbrev pub SamePattern : T.Pattern → Pattern → Type 0
SamePattern q f = placeless_pattern (T.pattern_of f) ≡ placeless_pattern q

abbrev pub SamePatterns : T.Patterns → List Pattern → Type 0
SamePatterns qs fs = placeless_patterns (plain_patterns fs) ≡ placeless_patterns qs

nil_is : (q : T.Pattern) → is_nil_pattern q ≡ true → placeless_pattern q ≡ T.Pattern.Nil start
nil_is (T.Pattern.Nil p) e = refl
nil_is _ e = cc

module _ (n : ℕ) where
  abbrev ok : Leave
  ok = limit n

  abbrev pub PatternReading : ℕ → T.Pattern → List Kind → List Terminal → Type 0
  PatternReading k q ks ts = Reading Pattern (G.PatternOf ok k) (SamePattern q) ks ts

  abbrev SomeReading : ℕ → T.Patterns → List Kind → List Terminal → Type 0
  SomeReading k qs ks ts = Reading (List Pattern) (G.SomePatterns ok k) (SamePatterns qs) ks ts

  abbrev pub PatternsReading : ℕ → T.Patterns → List Kind → List Terminal → Type 0
  PatternsReading k qs ks ts = Reading (List Pattern) (G.PatternsOf ok k) (SamePatterns qs) ks ts

  -- a list whose tail is the empty list
  nil_list : (k : ℕ) (p : Place) (qs : T.Patterns) (tail : T.Pattern) (ks : List Kind) (o : Place) (ts : List Terminal) → At n k → is_nil_pattern tail ≡ true
      → ReadingTo (List Pattern) (G.SomePatterns ok (k + 1)) (SamePatterns qs) (Kind.Mark Mark.CloseSquare) ks ts
      → PatternReading k (T.Pattern.Cons p qs tail) ks (mark Mark.OpenSquare o ∷ ts)
  nil_list k p qs tail ks o ts l e r =
      record {
        tree = pattern_at o (PatNode-F.List r.tree (pattern_nil o));
        rest = r.rest;
        derived = G.pattern_bare (G.pattern_list o r.at l r.derived);
        same =
            ap placeless_pattern (pattern_made o (PatNode-F.List r.tree (pattern_nil o)))
            ∙ ap₂ (T.Pattern.Cons start) r.same (ap placeless_pattern (pattern_made o PatNode-F.Nil) ∙ sym (nil_is tail e));
        behind = r.behind;
      }

  -- a list with another tail
  list_with : (k : ℕ) (p : Place) (qs : T.Patterns) (tail : T.Pattern) (ks : List Kind) (o : Place) (ts : List Terminal) (fs : List Pattern) (m : Place) (us : List Terminal)
      → At n k → is_list_pattern tail ≡ false → G.SomePatterns ok (k + 1) fs ts (mark Mark.Bar m ∷ us) → SamePatterns qs fs
      → ReadingTo Pattern (G.PatternOf ok k) (SamePattern tail) (Kind.Mark Mark.CloseSquare) ks us
      → PatternReading k (T.Pattern.Cons p qs tail) ks (mark Mark.OpenSquare o ∷ ts)
  list_with k p qs tail ks o ts fs m us l e d s r =
      record {
        tree = pattern_cells o fs r.tree;
        rest = r.rest;
        derived = G.pattern_bare (G.pattern_list_before o m r.at l d r.derived);
        same =
            ap placeless_pattern (pattern_cells_made o fs r.tree (same_list_pattern (T.pattern_of r.tree) tail r.same e))
            ∙ ap₂ (T.Pattern.Cons start) s r.same;
        behind = r.behind;
      }

  -- a list, by whether its tail is the empty list
  list_reading : (k : ℕ) (p : Place) (qs : T.Patterns) (tail : T.Pattern) (ks : List Kind) (o : Place) (ts : List Terminal) → At n k → is_list_pattern tail ≡ false
      → ((us : List Terminal) → Kinds (pattern_kinds tail (Kind.Mark Mark.CloseSquare ∷ ks)) us → PatternReading k tail (Kind.Mark Mark.CloseSquare ∷ ks) us)
      → (b : Bool) → is_nil_pattern tail ≡ b
      → SomeReading (k + 1) qs (list_end b (pattern_kinds tail (Kind.Mark Mark.CloseSquare ∷ ks)) ks) ts
      → PatternReading k (T.Pattern.Cons p qs tail) ks (mark Mark.OpenSquare o ∷ ts)
  list_reading k p qs tail ks o ts l e back true i x = nil_list k p qs tail ks o ts l i (up_to x)
  list_reading k p qs tail ks o ts l e back false i x =
      let y = up_to x in
      list_with k p qs tail ks o ts y.tree y.at y.rest l e y.derived y.same (up_to (back y.rest y.behind))

  mutual
    pub pattern_reading : (k : ℕ) (q : T.Pattern) (ks : List Kind) (ts : List Terminal) → PatternFits n k q → Kinds (pattern_kinds q ks) ts → PatternReading k q ks ts
    pattern_reading k (T.Pattern.Variable p x) ks ts f (next {ts = us} o h) =
        record { tree = pattern_at o (PatNode-F.Var x); rest = us; derived = G.pattern_bare (G.pattern_variable x o f.0); same = ap placeless_pattern (pattern_made o (PatNode-F.Var x)); behind = h }
    pattern_reading k (T.Pattern.Int p i) ks ts f (next {ts = us} o h) =
        record { tree = pattern_at o (PatNode-F.Int i); rest = us; derived = G.pattern_bare (G.pattern_integer o (integer_is i) f.0); same = ap placeless_pattern (pattern_made o (PatNode-F.Int i)); behind = h }
    pattern_reading k (T.Pattern.Atom p a) ks ts f (next {ts = us} o h) =
        record { tree = pattern_at o (PatNode-F.Atom a); rest = us; derived = G.pattern_bare (G.pattern_atom a o f.0); same = ap placeless_pattern (pattern_made o (PatNode-F.Atom a)); behind = h }
    pattern_reading k (T.Pattern.Nil p) ks ts f (next o (next {ts = us} c h)) =
        record { tree = pattern_nil o; rest = us; derived = G.pattern_bare (G.pattern_empty o c f); same = ap placeless_pattern (pattern_made o PatNode-F.Nil); behind = h }
    pattern_reading k (T.Pattern.Tuple p qs) ks ts f (next {ts = us} o h) =
        let r = up_to (patterns_reading (k + 1) qs (Kind.Mark Mark.CloseBrace ∷ ks) us f.1 h) in
        record { tree = pattern_at o (PatNode-F.Tuple r.tree); rest = r.rest; derived = G.pattern_bare (G.pattern_tuple o r.at f.0 r.derived); same = ap placeless_pattern (pattern_made o (PatNode-F.Tuple r.tree)) ∙ ap (T.Pattern.Tuple start) r.same; behind = r.behind }
    pattern_reading k (T.Pattern.Cons p qs tail) ks ts f (next {ts = us} o h) =
        let after = list_end (is_nil_pattern tail) (pattern_kinds tail (Kind.Mark Mark.CloseSquare ∷ ks)) ks in
        list_reading k p qs tail ks o us f.0 f.4 (λ vs i. pattern_reading k tail (Kind.Mark Mark.CloseSquare ∷ ks) vs f.3 i) (is_nil_pattern tail) refl (some_reading (k + 1) qs after us f.1 f.2 h)
    pattern_reading k (T.Pattern.Alias p x q) ks ts f (next a (next {ts = us} o h)) =
        let r = pattern_reading (k + 1) q ks us f.2 h in
        record {
          tree = pattern_at a (PatNode-F.Alias (variable_at a x.name) r.tree);
          rest = r.rest;
          derived = G.pattern_bare (G.pattern_alias o f.0 (G.bare G.variable) r.derived);
          same = ap placeless_pattern (pattern_made a (PatNode-F.Alias (variable_at a x.name) r.tree)) ∙ ap (T.Pattern.Alias start (placeless_variable x)) r.same;
          behind = r.behind;
        }

    -- a pattern, and those behind it
    with_more : (k : ℕ) (q : T.Pattern) (qs : T.Patterns) (ks : List Kind) (ts : List Terminal) → PatternsFit n k qs → PatternReading k q (patterns_behind qs ks) ts → SomeReading k (T.and_pattern q qs) ks ts
    with_more k q T.no_pattern ks ts f x = record { tree = x.tree ∷ []; rest = x.rest; derived = G.last_pattern x.derived; same = ap (λ g. T.and_pattern g T.no_pattern) x.same; behind = x.behind }
    with_more k q (T.and_pattern g gs) ks ts f x =
        let y = up_to x in
        let r = with_more k g gs ks y.rest f.1 (pattern_reading k g (patterns_behind gs ks) y.rest f.0 y.behind) in
        record { tree = y.tree ∷ r.tree; rest = r.rest; derived = G.more_patterns y.at y.derived r.derived; same = ap₂ T.and_pattern y.same r.same; behind = r.behind }

    some_reading : (k : ℕ) (qs : T.Patterns) (ks : List Kind) (ts : List Terminal) → HasPattern qs → PatternsFit n k qs → Kinds (patterns_kinds qs ks) ts → SomeReading k qs ks ts
    some_reading k T.no_pattern ks ts s f h = absurd s
    some_reading k (T.and_pattern q qs) ks ts s f h = with_more k q qs ks ts f.1 (pattern_reading k q (patterns_behind qs ks) ts f.0 h)

    pub patterns_reading : (k : ℕ) (qs : T.Patterns) (ks : List Kind) (ts : List Terminal) → PatternsFit n k qs → Kinds (patterns_kinds qs ks) ts → PatternsReading k qs ks ts
    patterns_reading k T.no_pattern ks ts f h = record { tree = []; rest = ts; derived = G.no_patterns; same = refl; behind = h }
    patterns_reading k (T.and_pattern q qs) ks ts f h =
        let r = with_more k q qs ks ts f.1 (pattern_reading k q (patterns_behind qs ks) ts f.0 h) in
        record { tree = r.tree; rest = r.rest; derived = G.some_patterns r.derived; same = r.same; behind = r.behind }
