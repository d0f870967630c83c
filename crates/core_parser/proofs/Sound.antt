-- Where a move leads, the grammar leads: clauses, definitions, calls, and every symbol.
use Rattle.std.proofs.Common.{◌≡◌, ℕ, ◌+◌, List, [], ◌∷◌, Bool, true, false, if◌then◌else◌, refl, sym, subst}
use denote.Enum.Bare.{same_true}
use Rattle.hipe_terms.specs.declared.place.Place.{Place}
use Rattle.core_ast.specs.declared.pattern.Var.{Var}
use Rattle.core_ast.specs.declared.pattern.Pattern.{Pattern}
use Rattle.core_ast.specs.declared.pattern.PatNode.TheOpen.{PatNode-F}
use Rattle.core_ast.specs.declared.tree.Clause.{Clause}
use Rattle.core_grammar.specs.declared.terminal.Kind.{Kind}
use Rattle.core_grammar.specs.contracts.terminal.Mark.{the_type}
use Rattle.core_grammar.specs.declared.terminal.Mark.{Mark}
use Rattle.core_grammar.specs.declared.terminal.Terminal.{Terminal}
use Rattle.core_grammar.specs.Trees.{variable_at, pattern_at, name_of, clause_at}
use Rattle.core_grammar.specs.Leave.{Need, part, argument, Leave, token, mark}
use Rattle.core_grammar.specs.Marks.{same_mark}
use Rattle.core_grammar.specs.Grammar as G
use Rattle.core_parser.specs.declared.moved.Wanted.{Wanted}
use Rattle.core_parser.specs.declared.symbol.Closer.{Closer}
use Rattle.core_parser.specs.declared.symbol.Element.{Element}
use Rattle.core_parser.specs.declared.symbol.Maker.{Maker}
use Rattle.core_parser.specs.declared.symbol.Part.{Part}
use Rattle.core_parser.specs.declared.symbol.Symbol.{Symbol}
use Rattle.core_parser.specs.declared.symbol.Term.{Term}
use Rattle.core_parser.specs.Values.{Values, literal, variable_pattern, made}
use Rattle.core_parser.specs.Machine.{Symbols, Move, Go, No, move, all_ok, also, annotation, annotation_list, guarded, when_guarded, one_when_guarded, alias_of, argument_pushed, defined}
use Rattle.core_parser.specs.Machine as M
use Rattle.core_parser.proofs.Meaning.{wants, make, bare_name, bare_constant, fun, arity, pattern', alias_name, no_alias, equals, clause, clause_inside, clause_inside_variable, clause_twice_inside, clause_twice_inside_variable, clause_twice_inside_annotated, clause_middle, clauses_none, clauses_some, definitions, arguments_first, argument', arguments_none, arguments_some, Holds, on, of_variable, patterns_of, all_patterns, annotation_list_of, annotation_of, held_annotation, guarded_of, held_guarded}
use Rattle.core_parser.proofs.Backs.{Backs, widen, alone, and_parts, after_atom_back, arity_back, constant_back, module_end_back, bare_back, annotated_back, HeldPattern, held_pattern, plain_back, bare_pattern_back, pattern_back, pattern_inside_back, alias_name_back, pattern_inside_variable_back, after_variable_back, item_back, first_back, rest_back, cells_first_back, cells_rest_back, tail_back, tail_first_back, expression_tail_inside_back, pattern_tail_inside_back, variables_back}

module _ (ok : Leave) where
  -- `when`, a guard and a body make a clause with the patterns before them
  data HeldWhen : ℕ → Symbols → List Terminal → Type 0 where
    held_when : {k : ℕ} {ss : Symbols} {ts us : List Terminal} (c : Place → List Pattern → Clause) → ((p : Place) (fs : List Pattern) (ws : List Terminal) → G.ClausePatterns ok k p fs ws ts → G.BareClause ok k (c p fs) ws us) → Holds ok ss us → HeldWhen k ss ts

  when_of : (k : ℕ) (ss : Symbols) (ts : List Terminal) → Holds ok (when_guarded k ss) ts → HeldWhen k ss ts
  when_of k ss ts (on {us = us} (wants _ w) h) = elim (guarded_of ok k ss us h) [ held_guarded {g = g} {e = e} r d f i ↦ held_when (λ p fs. clause_at p fs g e) (λ p fs ws c. G.clause w r c d f) i ]

  guard_of : (k : ℕ) (w : Place) (ss : Symbols) (ts : List Terminal) → Holds ok (guarded k ss) ts → HeldWhen k ss (mark Mark.When w ∷ ts)
  guard_of k w ss ts h = when_of k ss (mark Mark.When w ∷ ts) (on (wants Mark.When w) h)

  -- .. and one pattern
  data HeldOne : ℕ → Symbols → List Terminal → Type 0 where
    held_one : {k : ℕ} {ss : Symbols} {ts us : List Terminal} (c : Pattern → Clause) → ((f : Pattern) (ws : List Terminal) → G.PatternOf ok (k + 1) f ws ts → G.BareClause ok k (c f) ws us) → Holds ok ss us → HeldOne k ss ts

  one_of_when : (k : ℕ) (ss : Symbols) (ts : List Terminal) → HeldWhen k ss ts → HeldOne k ss ts
  one_of_when k ss ts (held_when c g h) = held_one (λ f. c f.at (f ∷ [])) (λ f ws d. g f.at (f ∷ []) ws (G.one_pattern d)) h

  one_of : (k : ℕ) (ss : Symbols) (ts : List Terminal) → Holds ok (one_when_guarded k ss) ts → HeldOne k ss ts
  one_of k ss ts (on make h) = one_of_when k ss ts (when_of k ss ts h)

  one_guard_of : (k : ℕ) (w : Place) (ss : Symbols) (ts : List Terminal) → Holds ok (guarded k ss) ts → HeldOne k ss (mark Mark.When w ∷ ts)
  one_guard_of k w ss ts h = one_of_when k ss (mark Mark.When w ∷ ts) (guard_of k w ss ts h)

  -- one pattern of a clause that is annotated
  one_annotated : (k : ℕ) (ss : Symbols) (ts : List Terminal) → HeldOne k (annotation ss) ts → Holds ok (Symbol.ClauseMiddle k ∷ ss) ts
  one_annotated k ss ts (held_one {us = us} c g h) = elim (annotation_of ok ss us h) [ held_annotation n i ↦ on (clause_middle c (λ f o ws d. G.clause_annotated o (g f ws (G.pattern_bare d)) n)) i ]

  middle_when : (k : ℕ) (p : Place) (ss : Symbols) (ts : List Terminal) → Holds ok (guarded k (annotation ss)) ts → Holds ok (Symbol.ClauseMiddle k ∷ ss) (mark Mark.When p ∷ ts)
  middle_when k p ss ts h = one_annotated k ss (mark Mark.When p ∷ ts) (one_guard_of k p (annotation ss) ts h)

  middle_dash : (k : ℕ) (p : Place) (ss : Symbols) (ts : List Terminal) → Holds ok (annotation_list (one_when_guarded k ss)) ts → Holds ok (Symbol.ClauseMiddle k ∷ ss) (mark Mark.Dash p ∷ ts)
  middle_dash k p ss ts h = elim (annotation_list_of ok p (one_when_guarded k ss) ts h) [ held_annotation {us = us} n i ↦ elim (one_of k ss us i) [ held_one c g j ↦ on (clause_middle c (λ f o ws d. G.clause_bare (g f (mark Mark.OpenRound o ∷ ws) (G.pattern_annotated o d n)))) j ] ]

  clause_middle_back : (k : ℕ) (t : Kind) (p : Place) (ss : Symbols) (vs : Values) (ts : List Terminal) → Backs ok (M.clause_middle k t ss vs) (token t p) ts (Holds ok (Symbol.ClauseMiddle k ∷ ss) (token t p ∷ ts))
  clause_middle_back k (Kind.Mark Mark.When) p ss vs ts = λ o h. middle_when k p ss ts h
  clause_middle_back k (Kind.Mark Mark.Dash) p ss vs ts = λ o h. middle_dash k p ss ts h
  clause_middle_back k _ p ss vs ts = tt

  -- a clause

  clause_open : (k : ℕ) (p : Place) (ss : Symbols) (ts : List Terminal) → Holds ok (Symbol.ClauseInside k ∷ ss) ts → Holds ok (Symbol.Clause k ∷ ss) (mark Mark.OpenRound p ∷ ts)
  clause_open k p ss ts (on (clause_inside g) h) = on (clause (g p)) h

  clause_less : (k : ℕ) (p : Place) (ss : Symbols) (ts : List Terminal) → Holds ok (Symbol.First (Element.Term (Term.Pattern (k + 1))) Closer.Angle ∷ when_guarded k ss) ts → ok (part k) (mark Mark.Less p ∷ ts) ≡ true → Holds ok (Symbol.Clause k ∷ ss) (mark Mark.Less p ∷ ts)
  clause_less k p ss ts (on {us = us} d h) o = elim (patterns_of ok (k + 1) Closer.Angle ts us d) [ all_patterns {fs = fs} q ps ↦ elim (when_of k ss us h) [ held_when c g i ↦ on (clause (G.clause_bare (g p fs (mark Mark.Less p ∷ ts) (G.value_patterns p q o ps)))) i ] ]

  clause_one : (k : ℕ) (ss : Symbols) (ts : List Terminal) → HeldPattern ok (k + 1) (one_when_guarded k ss) ts → Holds ok (Symbol.Clause k ∷ ss) ts
  clause_one k ss ts (held_pattern {f = f} {us = us} d h) = elim (one_of k ss us h) [ held_one c g i ↦ on (clause (G.clause_bare (g f ts (G.pattern_bare d)))) i ]

  clause_back : (k : ℕ) (t : Kind) (p : Place) (ss : Symbols) (vs : Values) (ts : List Terminal) → Backs ok (M.clause k t p ss vs) (token t p) ts (Holds ok (Symbol.Clause k ∷ ss) (token t p ∷ ts))
  clause_back k (Kind.Mark Mark.OpenRound) p ss vs ts = λ o h. clause_open k p ss ts h
  clause_back k (Kind.Mark Mark.Less) p ss vs ts = λ o h. clause_less k p ss ts h (alone ok _ o)
  clause_back k t p ss vs ts = widen ok (M.bare_pattern (k + 1) t p (one_when_guarded k ss) vs) (token t p) ts (clause_one k ss (token t p ∷ ts)) (bare_pattern_back ok (k + 1) t p (one_when_guarded k ss) vs ts)

  -- behind its `(`

  inside_variable : (k : ℕ) (x : Var) (ss : Symbols) (ts : List Terminal) → Holds ok (Symbol.ClauseInsideVariable k ∷ ss) ts → ok (part (k + 1)) (of_variable x ∷ ts) ≡ true → Holds ok (Symbol.ClauseInside k ∷ ss) (of_variable x ∷ ts)
  inside_variable k x ss ts (on (clause_inside_variable c g) h) o = on (clause_inside (λ q. g q x o)) h

  inside_open : (k : ℕ) (p : Place) (ss : Symbols) (ts : List Terminal) → Holds ok (Symbol.ClauseTwiceInside k ∷ ss) ts → Holds ok (Symbol.ClauseInside k ∷ ss) (mark Mark.OpenRound p ∷ ts)
  inside_open k p ss ts (on (clause_twice_inside g) h) = on (clause_inside (λ o. g o p)) h

  inside_less : (k : ℕ) (p : Place) (ss : Symbols) (ts : List Terminal) → Holds ok (Symbol.First (Element.Term (Term.Pattern (k + 1))) Closer.Angle ∷ when_guarded k (annotation ss)) ts → ok (part k) (mark Mark.Less p ∷ ts) ≡ true → Holds ok (Symbol.ClauseInside k ∷ ss) (mark Mark.Less p ∷ ts)
  inside_less k p ss ts (on {us = us} d h) o = elim (patterns_of ok (k + 1) Closer.Angle ts us d) [ all_patterns {fs = fs} q ps ↦ elim (when_of k (annotation ss) us h) [ held_when {us = ws} c g i ↦ elim (annotation_of ok ss ws i) [ held_annotation n j ↦ on (clause_inside (λ a. G.clause_annotated a (g p fs (mark Mark.Less p ∷ ts) (G.value_patterns p q o ps)) n)) j ] ] ]

  inside_plain : (k : ℕ) (ss : Symbols) (ts : List Terminal) → HeldPattern ok (k + 1) (Symbol.ClauseMiddle k ∷ ss) ts → Holds ok (Symbol.ClauseInside k ∷ ss) ts
  inside_plain k ss ts (held_pattern {f = f} d (on (clause_middle c g) h)) = on (clause_inside (λ q. g f q ts d)) h

  clause_inside_back : (k : ℕ) (t : Kind) (p : Place) (ss : Symbols) (vs : Values) (ts : List Terminal) → Backs ok (M.clause_inside k t p ss vs) (token t p) ts (Holds ok (Symbol.ClauseInside k ∷ ss) (token t p ∷ ts))
  clause_inside_back k (Kind.Variable x) p ss vs ts = λ o h. inside_variable k (variable_at p x) ss ts h (alone ok _ o)
  clause_inside_back k (Kind.Mark Mark.OpenRound) p ss vs ts = λ o h. inside_open k p ss ts h
  clause_inside_back k (Kind.Mark Mark.Less) p ss vs ts = λ o h. inside_less k p ss ts h (alone ok _ o)
  clause_inside_back k t p ss vs ts = widen ok (M.plain_pattern (k + 1) t p (Symbol.ClauseMiddle k ∷ ss) vs) (token t p) ts (inside_plain k ss (token t p ∷ ts)) (plain_back ok (k + 1) t p (Symbol.ClauseMiddle k ∷ ss) vs ts)

  -- behind `(` and a variable

  abbrev of_name : Var → Pattern
  of_name x = pattern_at x.at (PatNode-F.Var x.name)

  abbrev of_alias : Pattern → Var → Pattern
  of_alias f x = pattern_at x.at (PatNode-F.Alias x f)

  variable_equals : (k : ℕ) (p : Place) (ss : Symbols) (ts : List Terminal) → Holds ok (alias_of (k + 1) (Symbol.ClauseMiddle k ∷ ss)) ts → Holds ok (Symbol.ClauseInsideVariable k ∷ ss) (mark Mark.Equals p ∷ ts)
  variable_equals k p ss ts (on (pattern' {f = f} d) (on make (on (clause_middle c g) h))) = on (clause_inside_variable (λ x. c (of_alias f x)) (λ o x a. g (of_alias f x) o (of_variable x ∷ mark Mark.Equals p ∷ ts) (G.pattern_alias {x = x} p a (G.bare G.variable) d))) h

  variable_dash : (k : ℕ) (p : Place) (ss : Symbols) (ts : List Terminal) → Holds ok (annotation_list (Symbol.AfterVariable (k + 1) ∷ one_when_guarded k ss)) ts → Holds ok (Symbol.ClauseInsideVariable k ∷ ss) (mark Mark.Dash p ∷ ts)
  variable_dash k p ss ts h = elim (annotation_list_of ok p (Symbol.AfterVariable (k + 1) ∷ one_when_guarded k ss) ts h) [
    | held_annotation n (on {us = us} no_alias i) ↦ elim (one_of k ss us i) [ held_one c g j ↦ on (clause_inside_variable (λ x. c (of_name x)) (λ o x a. G.clause_bare (g (of_name x) (mark Mark.OpenRound o ∷ of_variable x ∷ mark Mark.Dash p ∷ ts) (G.pattern_annotated o (G.pattern_variable x.name x.at a) n)))) j ]
    | held_annotation n (on {us = us} (equals {f = f} q d) i) ↦ elim (one_of k ss us i) [ held_one c g j ↦ on (clause_inside_variable (λ x. c (of_alias f x)) (λ o x a. G.clause_bare (g (of_alias f x) (mark Mark.OpenRound o ∷ of_variable x ∷ mark Mark.Dash p ∷ ts) (G.pattern_bare (G.pattern_alias {x = x} q a (G.annotated o G.variable n) d))))) j ]
  ]

  variable_when : (k : ℕ) (p : Place) (ss : Symbols) (ts : List Terminal) → Holds ok (guarded k (annotation ss)) ts → Holds ok (Symbol.ClauseInsideVariable k ∷ ss) (mark Mark.When p ∷ ts)
  variable_when k p ss ts h = elim (one_guard_of k p (annotation ss) ts h) [ held_one {us = us} c g i ↦ elim (annotation_of ok ss us i) [ held_annotation n j ↦ on (clause_inside_variable (λ x. c (of_name x)) (λ o x a. G.clause_annotated o (g (of_name x) (of_variable x ∷ mark Mark.When p ∷ ts) (G.pattern_bare (G.pattern_variable x.name x.at a))) n)) j ] ]

  clause_inside_variable_back : (k : ℕ) (t : Kind) (p : Place) (ss : Symbols) (vs : Values) (ts : List Terminal) → Backs ok (M.clause_inside_variable k t ss vs) (token t p) ts (Holds ok (Symbol.ClauseInsideVariable k ∷ ss) (token t p ∷ ts))
  clause_inside_variable_back k (Kind.Mark Mark.Equals) p ss vs ts = λ o h. variable_equals k p ss ts h
  clause_inside_variable_back k (Kind.Mark Mark.Dash) p ss vs ts = λ o h. variable_dash k p ss ts h
  clause_inside_variable_back k (Kind.Mark Mark.When) p ss vs ts = λ o h. variable_when k p ss ts h
  clause_inside_variable_back k _ p ss vs ts = tt

  -- behind `( (`

  data HeldTwice : ℕ → Symbols → List Terminal → Type 0 where
    held_twice : {k : ℕ} {ss : Symbols} {ts us : List Terminal} (c : Pattern → Clause) → ((f : Pattern) (o q : Place) (ws : List Terminal) → G.BarePattern ok (k + 1) f ws ts → G.ClauseOf ok k (c f) (mark Mark.OpenRound o ∷ mark Mark.OpenRound q ∷ ws) us) → Holds ok ss us → HeldTwice k ss ts

  twice_of : (k : ℕ) (ss : Symbols) (ts : List Terminal) → Holds ok (annotation (one_when_guarded k (annotation ss))) ts → HeldTwice k ss ts
  twice_of k ss ts h = elim (annotation_of ok (one_when_guarded k (annotation ss)) ts h) [ held_annotation {us = us} n i ↦ elim (one_of k (annotation ss) us i) [ held_one {us = ws} c g j ↦ elim (annotation_of ok ss ws j) [ held_annotation m l ↦ held_twice c (λ f o q xs d. G.clause_annotated o (g f (mark Mark.OpenRound q ∷ xs) (G.pattern_annotated q d n)) m) l ] ] ]

  twice_variable : (k : ℕ) (x : Var) (ss : Symbols) (ts : List Terminal) → Holds ok (Symbol.ClauseTwiceInsideVariable k ∷ ss) ts → ok (part (k + 1)) (of_variable x ∷ ts) ≡ true → Holds ok (Symbol.ClauseTwiceInside k ∷ ss) (of_variable x ∷ ts)
  twice_variable k x ss ts (on (clause_twice_inside_variable c g) h) o = on (clause_twice_inside (λ a b. g a b x o)) h

  twice_open : (k : ℕ) (p : Place) (ss : Symbols) (ts : List Terminal) → Holds ok (Symbol.AliasName (k + 1) ∷ annotation (Symbol.Wants Mark.Equals ∷ alias_of (k + 1) (annotation (one_when_guarded k (annotation ss))))) ts → Holds ok (Symbol.ClauseTwiceInside k ∷ ss) (mark Mark.OpenRound p ∷ ts)
  twice_open k p ss ts (on {us = us} (alias_name x o) h) = elim (annotation_of ok (Symbol.Wants Mark.Equals ∷ alias_of (k + 1) (annotation (one_when_guarded k (annotation ss)))) us h) [ held_annotation m (on (wants _ q) (on (pattern' {f = f} d) (on {ts = ws} make i))) ↦ elim (twice_of k ss ws i) [ held_twice c g j ↦ on (clause_twice_inside (λ a b. g (of_alias f x) a b (mark Mark.OpenRound p ∷ of_variable x ∷ us) (G.pattern_alias {x = x} q o (G.annotated p G.variable m) d))) j ] ]

  twice_plain : (k : ℕ) (ss : Symbols) (ts : List Terminal) → HeldPattern ok (k + 1) (annotation (one_when_guarded k (annotation ss))) ts → Holds ok (Symbol.ClauseTwiceInside k ∷ ss) ts
  twice_plain k ss ts (held_pattern {f = f} {us = us} d h) = elim (twice_of k ss us h) [ held_twice c g i ↦ on (clause_twice_inside (λ a b. g f a b ts d)) i ]

  clause_twice_inside_back : (k : ℕ) (t : Kind) (p : Place) (ss : Symbols) (vs : Values) (ts : List Terminal) → Backs ok (M.clause_twice_inside k t p ss vs) (token t p) ts (Holds ok (Symbol.ClauseTwiceInside k ∷ ss) (token t p ∷ ts))
  clause_twice_inside_back k (Kind.Variable x) p ss vs ts = λ o h. twice_variable k (variable_at p x) ss ts h (alone ok _ o)
  clause_twice_inside_back k (Kind.Mark Mark.OpenRound) p ss vs ts = λ o h. twice_open k p ss ts h
  clause_twice_inside_back k t p ss vs ts = widen ok (M.plain_pattern (k + 1) t p (annotation (one_when_guarded k (annotation ss))) vs) (token t p) ts (twice_plain k ss (token t p ∷ ts)) (plain_back ok (k + 1) t p (annotation (one_when_guarded k (annotation ss))) vs ts)

  twice_variable_equals : (k : ℕ) (p : Place) (ss : Symbols) (ts : List Terminal) → Holds ok (alias_of (k + 1) (annotation (one_when_guarded k (annotation ss)))) ts → Holds ok (Symbol.ClauseTwiceInsideVariable k ∷ ss) (mark Mark.Equals p ∷ ts)
  twice_variable_equals k p ss ts (on (pattern' {f = f} d) (on {ts = us} make h)) = elim (twice_of k ss us h) [ held_twice c g i ↦ on (clause_twice_inside_variable (λ x. c (of_alias f x)) (λ a b x o. g (of_alias f x) a b (of_variable x ∷ mark Mark.Equals p ∷ ts) (G.pattern_alias {x = x} p o (G.bare G.variable) d))) i ]

  twice_variable_dash : (k : ℕ) (p : Place) (ss : Symbols) (ts : List Terminal) → Holds ok (annotation_list (Symbol.ClauseTwiceInsideAnnotated k ∷ ss)) ts → Holds ok (Symbol.ClauseTwiceInsideVariable k ∷ ss) (mark Mark.Dash p ∷ ts)
  twice_variable_dash k p ss ts h = elim (annotation_list_of ok p (Symbol.ClauseTwiceInsideAnnotated k ∷ ss) ts h) [ held_annotation n (on (clause_twice_inside_annotated c g) i) ↦ on (clause_twice_inside_variable c (λ a b x o. g a b x (mark Mark.Dash p ∷ ts) o n)) i ]

  clause_twice_inside_variable_back : (k : ℕ) (t : Kind) (p : Place) (ss : Symbols) (vs : Values) (ts : List Terminal) → Backs ok (M.clause_twice_inside_variable k t ss vs) (token t p) ts (Holds ok (Symbol.ClauseTwiceInsideVariable k ∷ ss) (token t p ∷ ts))
  clause_twice_inside_variable_back k (Kind.Mark Mark.Equals) p ss vs ts = λ o h. twice_variable_equals k p ss ts h
  clause_twice_inside_variable_back k (Kind.Mark Mark.Dash) p ss vs ts = λ o h. twice_variable_dash k p ss ts h
  clause_twice_inside_variable_back k _ p ss vs ts = tt

  annotated_equals : (k : ℕ) (p : Place) (ss : Symbols) (ts : List Terminal) → Holds ok (alias_of (k + 1) (Symbol.ClauseMiddle k ∷ ss)) ts → Holds ok (Symbol.ClauseTwiceInsideAnnotated k ∷ ss) (mark Mark.Equals p ∷ ts)
  annotated_equals k p ss ts (on (pattern' {f = f} d) (on make (on (clause_middle c g) h))) = on (clause_twice_inside_annotated (λ x. c (of_alias f x)) (λ a b x vs o n. g (of_alias f x) a (mark Mark.OpenRound b ∷ of_variable x ∷ vs) (G.pattern_alias {x = x} p o (G.annotated b G.variable n) d))) h

  annotated_when : (k : ℕ) (p : Place) (ss : Symbols) (ts : List Terminal) → Holds ok (guarded k (annotation ss)) ts → Holds ok (Symbol.ClauseTwiceInsideAnnotated k ∷ ss) (mark Mark.When p ∷ ts)
  annotated_when k p ss ts h = elim (one_guard_of k p (annotation ss) ts h) [ held_one {us = us} c g i ↦ elim (annotation_of ok ss us i) [ held_annotation m j ↦ on (clause_twice_inside_annotated (λ x. c (of_name x)) (λ a b x vs o n. G.clause_annotated a (g (of_name x) (mark Mark.OpenRound b ∷ of_variable x ∷ vs) (G.pattern_annotated b (G.pattern_variable x.name x.at o) n)) m)) j ] ]

  clause_twice_inside_annotated_back : (k : ℕ) (t : Kind) (p : Place) (ss : Symbols) (vs : Values) (ts : List Terminal) → Backs ok (M.clause_twice_inside_annotated k t ss vs) (token t p) ts (Holds ok (Symbol.ClauseTwiceInsideAnnotated k ∷ ss) (token t p ∷ ts))
  clause_twice_inside_annotated_back k (Kind.Mark Mark.Equals) p ss vs ts = λ o h. annotated_equals k p ss ts h
  clause_twice_inside_annotated_back k (Kind.Mark Mark.When) p ss vs ts = λ o h. annotated_when k p ss ts h
  clause_twice_inside_annotated_back k _ p ss vs ts = tt

  -- clauses

  rest_of_clause : (k : ℕ) (ss : Symbols) (ts : List Terminal) → Holds ok (Symbol.Clause k ∷ Symbol.ClausesRest k ∷ ss) ts → Holds ok (Symbol.ClausesRest k ∷ ss) ts
  rest_of_clause k ss ts (on (clause d) (on (clauses_none p) h)) = on (clauses_some p (G.last_clause d)) h
  rest_of_clause k ss ts (on (clause d) (on (clauses_some p e) h)) = on (clauses_some p (G.more_clauses d e)) h

  clauses_rest_back : (k : ℕ) (t : Kind) (p : Place) (ss : Symbols) (vs : Values) (ts : List Terminal) → Backs ok (M.clauses_rest k t p ss vs) (token t p) ts (Holds ok (Symbol.ClausesRest k ∷ ss) (token t p ∷ ts))
  clauses_rest_back k (Kind.Mark Mark.End) p ss vs ts = λ o h. on (clauses_none p) h
  clauses_rest_back k t p ss vs ts = widen ok (M.clause k t p (Symbol.ClausesRest k ∷ ss) vs) (token t p) ts (rest_of_clause k ss (token t p ∷ ts)) (clause_back k t p (Symbol.ClausesRest k ∷ ss) vs ts)

  -- definitions

  definition_atom : (k : ℕ) (a : List ℕ) (p : Place) (ss : Symbols) (ts : List Terminal) → Holds ok (Symbol.Wants Mark.Slash ∷ Symbol.Arity ∷ defined k ss) ts → Holds ok (Symbol.Definitions k ∷ ss) (token (Kind.Atom a) p ∷ ts)
  definition_atom k a p ss ts (on (wants _ q) (on (arity n r) (on (wants _ s) (on (fun f) (on make (on (definitions ds) h)))))) = on (definitions (G.more_definitions (G.definition {f = name_of a n} {p = p} s (G.bare (G.function_name q r)) f) ds)) h

  definition_open : (k : ℕ) (p : Place) (ss : Symbols) (ts : List Terminal) → Holds ok (Symbol.Bare Part.Name ∷ annotation (defined k ss)) ts → Holds ok (Symbol.Definitions k ∷ ss) (mark Mark.OpenRound p ∷ ts)
  definition_open k p ss ts (on {us = us} (bare_name d) h) = elim (annotation_of ok (defined k ss) us h) [ held_annotation n (on (wants _ s) (on (fun f) (on make (on (definitions ds) i)))) ↦ on (definitions (G.more_definitions (G.definition s (G.annotated p d n) f) ds)) i ]

  definitions_back : (k : ℕ) (t : Kind) (p : Place) (ss : Symbols) (vs : Values) (ts : List Terminal) (m : Move) → Backs ok m (token t p) ts (Holds ok ss (token t p ∷ ts)) → Backs ok (M.definitions k t p ss vs m) (token t p) ts (Holds ok (Symbol.Definitions k ∷ ss) (token t p ∷ ts))
  definitions_back k (Kind.Atom a) p ss vs ts m b = λ o h. definition_atom k a p ss ts h
  definitions_back k (Kind.Mark Mark.OpenRound) p ss vs ts m b = λ o h. definition_open k p ss ts h
  definitions_back k t p ss vs ts m b = widen ok m (token t p) ts (λ (h : Holds ok ss (token t p ∷ ts)). on (definitions G.no_definitions) h) b

  -- calls

  also_back : {X Y : Type 0} (need : Need) (m : Move) (t : Terminal) (ts : List Terminal) → (ok need (t ∷ ts) ≡ true → X → Y) → Backs ok m t ts X → Backs ok (also need m) t ts Y
  also_back need (No wanted) t ts f b = tt
  also_back need (Go ss vs needs) t ts f b = λ o h. let p = and_parts ok (ok need (t ∷ ts)) (all_ok ok needs (t ∷ ts)) o in f p.0 (b p.1 h)

  argument_of : (i : ℕ) (ss : Symbols) (ts : List Terminal) → ok (argument i) ts ≡ true → Holds ok (Symbol.Bare (Part.Constant 1) ∷ ss) ts → Holds ok (Symbol.Argument i ∷ ss) ts
  argument_of i ss ts o (on (bare_constant d) h) = on (argument' o d) h

  argument_back : (i : ℕ) (t : Kind) (p : Place) (ss : Symbols) (vs : Values) (ts : List Terminal) → Backs ok (M.call_argument i t p ss vs) (token t p) ts (Holds ok (Symbol.Argument i ∷ ss) (token t p ∷ ts))
  argument_back i t p ss vs ts = also_back (argument i) (M.constant 1 t p ss vs) (token t p) ts (argument_of i ss (token t p ∷ ts)) (constant_back ok 1 t p ss vs ts)

  first_of_argument : (ss : Symbols) (ts : List Terminal) → Holds ok (Symbol.Argument 1 ∷ argument_pushed 2 ss) ts → Holds ok (Symbol.ArgumentsFirst ∷ ss) ts
  first_of_argument ss ts (on (argument' o d) (on make (on (arguments_none p) h))) = on (arguments_first p (G.some_arguments (G.last_argument o d))) h
  first_of_argument ss ts (on (argument' o d) (on make (on (arguments_some p q e) h))) = on (arguments_first q (G.some_arguments (G.more_arguments p o d e))) h

  arguments_first_back : (t : Kind) (p : Place) (ss : Symbols) (vs : Values) (ts : List Terminal) → Backs ok (M.arguments_first t p ss vs) (token t p) ts (Holds ok (Symbol.ArgumentsFirst ∷ ss) (token t p ∷ ts))
  arguments_first_back (Kind.Mark Mark.CloseRound) p ss vs ts = λ o h. on (arguments_first p G.no_arguments) h
  arguments_first_back t p ss vs ts = widen ok (M.call_argument 1 t p (argument_pushed 2 ss) vs) (token t p) ts (first_of_argument ss (token t p ∷ ts)) (argument_back 1 t p (argument_pushed 2 ss) vs ts)

  rest_comma : (i : ℕ) (p : Place) (ss : Symbols) (ts : List Terminal) → Holds ok (Symbol.Argument i ∷ argument_pushed (i + 1) ss) ts → Holds ok (Symbol.ArgumentsRest i ∷ ss) (mark Mark.Comma p ∷ ts)
  rest_comma i p ss ts (on (argument' o d) (on make (on (arguments_none q) h))) = on (arguments_some p q (G.last_argument o d)) h
  rest_comma i p ss ts (on (argument' o d) (on make (on (arguments_some q r e) h))) = on (arguments_some p r (G.more_arguments q o d e)) h

  arguments_rest_back : (i : ℕ) (t : Kind) (p : Place) (ss : Symbols) (vs : Values) (ts : List Terminal) → Backs ok (M.arguments_rest i t ss vs) (token t p) ts (Holds ok (Symbol.ArgumentsRest i ∷ ss) (token t p ∷ ts))
  arguments_rest_back i (Kind.Mark Mark.Comma) p ss vs ts = λ o h. rest_comma i p ss ts h
  arguments_rest_back i (Kind.Mark Mark.CloseRound) p ss vs ts = λ o h. on (arguments_none p) h
  arguments_rest_back i _ p ss vs ts = tt

  -- words and signs

  wants_back : (m : Mark) (t : Kind) (p : Place) (ss : Symbols) (vs : Values) (ts : List Terminal) → Backs ok (M.wants m t ss vs) (token t p) ts (Holds ok (Symbol.Wants m ∷ ss) (token t p ∷ ts))
  wants_back m (Kind.Mark n) p ss vs ts = tested (same_mark m n) (same_true the_type tt m n)
    where
      tested : (b : Bool) → (b ≡ true → m ≡ n) → Backs ok (if b then Go ss vs [] else No Wanted.Other) (mark n p) ts (Holds ok (Symbol.Wants m ∷ ss) (mark n p ∷ ts))
      tested true is = λ o h. subst (λ (x : Mark). Holds ok (Symbol.Wants x ∷ ss) (mark n p ∷ ts)) (sym (is refl)) (on (wants n p) h)
      tested false is = tt
  wants_back m _ p ss vs ts = tt

  skip_back : (maker : Maker) (t : Terminal) (ss : Symbols) (ts : List Terminal) (m : Move) → Backs ok m t ts (Holds ok ss (t ∷ ts)) → Backs ok m t ts (Holds ok (Symbol.Make maker ∷ ss) (t ∷ ts))
  skip_back maker t ss ts m b = widen ok m t ts (λ (h : Holds ok ss (t ∷ ts)). on make h) b

  -- a terminal's move
  pub move_back : (ss : Symbols) (vs : Values) (t : Kind) (p : Place) (ts : List Terminal) → Backs ok (move ss vs t p) (token t p) ts (Holds ok ss (token t p ∷ ts))
  move_back [] vs t p ts = tt
  move_back (Symbol.Wants m ∷ ss) vs t p ts = wants_back m t p ss vs ts
  move_back (Symbol.Annotated x ∷ ss) vs t p ts = annotated_back ok x t p ss vs ts
  move_back (Symbol.Bare x ∷ ss) vs t p ts = bare_back ok x t p ss vs ts
  move_back (Symbol.AfterAtom ∷ ss) vs t p ts = after_atom_back ok t p ss vs ts (move ss (literal vs) t p) (move_back ss (literal vs) t p ts)
  move_back (Symbol.Arity ∷ ss) vs t p ts = arity_back ok t p ss vs ts
  move_back (Symbol.Item x ∷ ss) vs t p ts = item_back ok x t p ss vs ts
  move_back (Symbol.First x c ∷ ss) vs t p ts = first_back ok x c t p ss vs ts
  move_back (Symbol.Rest x c ∷ ss) vs t p ts = rest_back ok x c t p ss vs ts
  move_back (Symbol.CellsFirst x ∷ ss) vs t p ts = cells_first_back ok x t p ss vs ts
  move_back (Symbol.CellsRest x ∷ ss) vs t p ts = cells_rest_back ok x t p ss vs ts
  move_back (Symbol.Tail x ∷ ss) vs t p ts = tail_back ok x t p ss vs ts
  move_back (Symbol.ExpressionTailInside k ∷ ss) vs t p ts = expression_tail_inside_back ok k t p ss vs ts
  move_back (Symbol.PatternTailInside k ∷ ss) vs t p ts = pattern_tail_inside_back ok k t p ss vs ts
  move_back (Symbol.TailFirst x ∷ ss) vs t p ts = tail_first_back ok x t p ss vs ts
  move_back (Symbol.Variables ∷ ss) vs t p ts = variables_back ok t p ss vs ts
  move_back (Symbol.Pattern k ∷ ss) vs t p ts = pattern_back ok k t p ss vs ts
  move_back (Symbol.PatternInside k ∷ ss) vs t p ts = pattern_inside_back ok k t p ss vs ts
  move_back (Symbol.PatternInsideVariable k ∷ ss) vs t p ts = pattern_inside_variable_back ok k t p ss vs ts
  move_back (Symbol.AliasName k ∷ ss) vs t p ts = alias_name_back ok k t p ss vs ts
  move_back (Symbol.AfterVariable k ∷ ss) vs t p ts = after_variable_back ok k t p ss vs ts (move ss (variable_pattern vs) t p) (move_back ss (variable_pattern vs) t p ts)
  move_back (Symbol.Clause k ∷ ss) vs t p ts = clause_back k t p ss vs ts
  move_back (Symbol.ClauseInside k ∷ ss) vs t p ts = clause_inside_back k t p ss vs ts
  move_back (Symbol.ClauseInsideVariable k ∷ ss) vs t p ts = clause_inside_variable_back k t p ss vs ts
  move_back (Symbol.ClauseTwiceInside k ∷ ss) vs t p ts = clause_twice_inside_back k t p ss vs ts
  move_back (Symbol.ClauseTwiceInsideVariable k ∷ ss) vs t p ts = clause_twice_inside_variable_back k t p ss vs ts
  move_back (Symbol.ClauseTwiceInsideAnnotated k ∷ ss) vs t p ts = clause_twice_inside_annotated_back k t p ss vs ts
  move_back (Symbol.ClauseMiddle k ∷ ss) vs t p ts = clause_middle_back k t p ss vs ts
  move_back (Symbol.ClausesRest k ∷ ss) vs t p ts = clauses_rest_back k t p ss vs ts
  move_back (Symbol.Definitions k ∷ ss) vs t p ts = definitions_back k t p ss vs ts (move ss vs t p) (move_back ss vs t p ts)
  move_back (Symbol.ModuleEnd ∷ ss) vs t p ts = module_end_back ok t p ss vs ts
  move_back (Symbol.ArgumentsFirst ∷ ss) vs t p ts = arguments_first_back t p ss vs ts
  move_back (Symbol.Argument i ∷ ss) vs t p ts = argument_back i t p ss vs ts
  move_back (Symbol.ArgumentsRest i ∷ ss) vs t p ts = arguments_rest_back i t p ss vs ts
  move_back (Symbol.Make maker ∷ ss) vs t p ts = skip_back maker (token t p) ss ts (move ss (made maker vs) t p) (move_back ss (made maker vs) t p ts)
