-- The text of each construct has the tokens of its kinds, where that of its parts has.
use Rattle.std.proofs.Common.{ℕ, Bool, true, false, List, [], ◌∷◌, map, codes, refl}
use Rattle.core_ast.specs.declared.pattern.Var.{Var}
use Rattle.core_ast.specs.declared.tree.FunName.{FunName}
use Rattle.core_grammar.specs.declared.terminal.Kind.{Kind}
use Rattle.core_grammar.specs.declared.terminal.Mark.{Mark}
use Rattle.core_print.specs.Printed.{Piece, sign, after_comma, with_commas, opened, enclosed, arrow, equals, tail_pieces, variable_pieces, alias_pieces, binders, spaced_pieces, block_pieces, next_pieces, let_pieces, in_pieces, of_pieces, clause_pieces, fun_pieces, definition_pieces, call_pieces, primop_pieces, branch_pieces}
use Rattle.core_round_trip.proofs.TreeKinds.{name_kinds, variables_behind, variables_kinds, binders_kinds, list_end}
use Rattle.core_round_trip.specs.Fits.{IsAtomName, IsVariableName, IsName, AreVariables}
use Rattle.core_round_trip.proofs.PieceKinds.{Prefix, Closed, Open, Starts, Keeps, as_open, closed_closed, closed_open, open_closed, open_open, none, none_keeps, a_space, space_starts, a_line, line_starts, an_atom, a_variable, a_name, IsKeywordOf, call_keyword, end_keyword, fun_keyword, in_keyword, let_keyword, of_keyword, primop_keyword, when_keyword, open_round, close_round, close_square, less, greater, comma, equals_sign, colon, bar, arrow_sign}

-- ---- lists

pub commas_keep : (xs : List (List Piece)) → Keeps (after_comma xs)
commas_keep [] = none_keeps
commas_keep (x ∷ xs) = record { apart = λ us h. refl }

module _ (o : List ℕ) (parts : List (List Piece)) {f g : Prefix} where
  pub opened_reads : Closed (sign o) f → Open (with_commas parts) g → Open (opened o parts) (λ ks. f (g ks))
  unfolding opened
  opened_reads h k = closed_open h k

module _ (o c : List ℕ) (parts : List (List Piece)) {f g h : Prefix} where
  pub enclosed_ends : Closed (sign o) f → Open (with_commas parts) g → Starts (sign c) → Closed (sign c) h → Closed (enclosed o parts c) (λ ks. f (g (h ks)))
  enclosed_ends i j s k = open_closed (opened_reads o parts i j) s k

module _ (tail : List Piece) {f : Prefix} where
  pub tail_ends : (b : Bool) → Open tail f → Closed (tail_pieces b tail) (λ ks. list_end b (f (Kind.Mark Mark.CloseSquare ∷ ks)) ks)
  unfolding tail_pieces
  tail_ends true h = close_square
  tail_ends false h = open_closed (closed_open bar h) (record { apart = λ us. refl }) close_square

module _ (tail : List Piece) where
  pub tail_starts : (b : Bool) → Starts (tail_pieces b tail)
  unfolding tail_pieces
  tail_starts true = record { apart = λ us. refl }
  tail_starts false = record { apart = λ us. refl }

-- ---- variables

variables_after : (xs : List Var) → AreVariables xs → Open (after_comma (map variable_pieces xs)) (variables_behind xs)
variables_after [] h = as_open none
variables_after (x ∷ xs) h = open_open (closed_open comma (a_variable x.name h.0)) (commas_keep (map variable_pieces xs)) (variables_after xs h.1)

variables_read : (xs : List Var) → AreVariables xs → Open (with_commas (map variable_pieces xs)) (variables_kinds xs)
variables_read [] h = as_open none
variables_read (x ∷ xs) h = open_open (a_variable x.name h.0) (commas_keep (map variable_pieces xs)) (variables_after xs h.1)

pub binders_end : (xs : List Var) → AreVariables xs → Closed (binders xs) (binders_kinds xs)
binders_end xs h = enclosed_ends (codes "<") (codes ">") (map variable_pieces xs) less (variables_read xs h) (record { apart = λ us. refl }) greater

-- ---- arrows and equals signs

an_arrow : (d : ℕ) → Closed (arrow d) (λ ks. Kind.Mark Mark.Arrow ∷ ks)
unfolding arrow
an_arrow d = closed_closed (closed_closed a_space arrow_sign) (a_line _)

arrow_starts : (d : ℕ) → Starts (arrow d)
unfolding arrow
arrow_starts d = record { apart = λ us. refl }

an_equals : (d : ℕ) → Closed (equals d) (λ ks. Kind.Mark Mark.Equals ∷ ks)
unfolding equals
an_equals d = closed_closed (closed_closed a_space equals_sign) (a_line _)

equals_starts : (d : ℕ) → Starts (equals d)
unfolding equals
equals_starts d = record { apart = λ us. refl }

-- ---- constructs

module _ (part : List Piece) {f : Prefix} (h : Open part f) where
  pub alias_reads : (x : Var) → IsVariableName x.name → Open (alias_pieces x part) (λ ks. Kind.Variable x.name ∷ Kind.Mark Mark.Equals ∷ f ks)
  unfolding alias_pieces
  alias_reads x v = closed_open (closed_closed (closed_closed (open_closed (a_variable x.name v) space_starts a_space) equals_sign) a_space) h

  pub spaced_reads : (w : List ℕ) (m : Mark) → IsKeywordOf w m → Open (spaced_pieces w part) (λ ks. Kind.Mark m ∷ f ks)
  unfolding spaced_pieces
  spaced_reads w m i = closed_open (open_closed i space_starts a_space) h

  pub block_reads : (d : ℕ) (w : List ℕ) (m : Mark) → IsKeywordOf w m → Open (block_pieces d w part) (λ ks. Kind.Mark m ∷ f ks)
  unfolding block_pieces
  block_reads d w m i = closed_open (open_closed i (line_starts _) (a_line _)) h

  pub next_reads : (d : ℕ) → Open (next_pieces d part) f
  unfolding next_pieces
  next_reads d = closed_open (a_line d) h

  pub next_keeps : (d : ℕ) → Keeps (next_pieces d part)
  unfolding next_pieces
  next_keeps d = record { apart = λ us i. refl }

  pub let_reads : (d : ℕ) (xs : List Var) → AreVariables xs → Open (let_pieces d xs part) (λ ks. Kind.Mark Mark.Let ∷ binders_kinds xs (Kind.Mark Mark.Equals ∷ f ks))
  unfolding let_pieces
  let_reads d xs v = closed_open (closed_closed (closed_closed (open_closed let_keyword space_starts a_space) (binders_end xs v)) (an_equals d)) h

  pub in_reads : (d : ℕ) → Open (in_pieces d part) (λ ks. Kind.Mark Mark.In ∷ f ks)
  unfolding in_pieces
  in_reads d = closed_open (open_closed (closed_open (a_line d) in_keyword) (line_starts d) (a_line d)) h

  pub in_keeps : (d : ℕ) → Keeps (in_pieces d part)
  unfolding in_pieces
  in_keeps d = record { apart = λ us i. refl }

  pub of_reads : (d : ℕ) → Keeps part → Open (of_pieces d part) (λ ks. Kind.Mark Mark.Of ∷ f (Kind.Mark Mark.End ∷ ks))
  unfolding of_pieces
  of_reads d k = closed_open (open_closed (open_open (closed_open a_space of_keyword) k h) (line_starts d) (a_line d)) end_keyword

  pub of_keeps : (d : ℕ) → Keeps (of_pieces d part)
  unfolding of_pieces
  of_keeps d = record { apart = λ us i. refl }

  pub fun_reads : (d : ℕ) (xs : List Var) → AreVariables xs → Open (fun_pieces d xs part) (λ ks. Kind.Mark Mark.Fun ∷ Kind.Mark Mark.OpenRound ∷ variables_kinds xs (Kind.Mark Mark.CloseRound ∷ Kind.Mark Mark.Arrow ∷ f ks))
  unfolding fun_pieces
  fun_reads d xs v =
      closed_open (closed_closed (closed_closed (open_closed fun_keyword space_starts a_space) (enclosed_ends (codes "(") (codes ")") (map variable_pieces xs) open_round (variables_read xs v) (record { apart = λ us. refl }) close_round)) (an_arrow d)) h

  pub definition_reads : (d : ℕ) (g : FunName) → IsName g → Open (definition_pieces d g part) (λ ks. name_kinds g (Kind.Mark Mark.Equals ∷ f ks))
  unfolding definition_pieces
  definition_reads d g n = closed_open (open_closed (closed_open (a_line d) (a_name g n)) (equals_starts d) (an_equals d)) h

  pub branch_reads : (d : ℕ) (w : List ℕ) (m : Mark) (xs : List Var) → IsKeywordOf w m → AreVariables xs → Open (branch_pieces d w xs part) (λ ks. Kind.Mark m ∷ binders_kinds xs (Kind.Mark Mark.Arrow ∷ f ks))
  unfolding branch_pieces
  branch_reads d w m xs i v = closed_open (closed_closed (closed_closed (open_closed (closed_open (a_line d) i) space_starts a_space) (binders_end xs v)) (an_arrow d)) h

  pub branch_keeps : (d : ℕ) (w : List ℕ) (xs : List Var) → Keeps (branch_pieces d w xs part)
  unfolding branch_pieces
  branch_keeps d w xs = record { apart = λ us i. refl }

-- the arguments of a call
module _ (parts : List (List Piece)) {f : Prefix} (h : Open (with_commas parts) f) where
  pub arguments_end : Closed (enclosed (codes "(") parts (codes ")")) (λ ks. Kind.Mark Mark.OpenRound ∷ f (Kind.Mark Mark.CloseRound ∷ ks))
  arguments_end = enclosed_ends (codes "(") (codes ")") parts open_round h (record { apart = λ us. refl }) close_round

  pub arguments_start : Starts (enclosed (codes "(") parts (codes ")"))
  unfolding opened
  arguments_start = record { apart = λ us. refl }

  pub call_ends : (m g : List ℕ) → IsAtomName m → IsAtomName g → Closed (call_pieces m g parts) (λ ks. Kind.Mark Mark.Call ∷ Kind.Atom m ∷ Kind.Mark Mark.Colon ∷ Kind.Atom g ∷ Kind.Mark Mark.OpenRound ∷ f (Kind.Mark Mark.CloseRound ∷ ks))
  unfolding call_pieces
  call_ends m g i j = closed_closed (closed_closed (closed_closed (closed_closed (open_closed call_keyword space_starts a_space) (an_atom m i)) colon) (an_atom g j)) arguments_end

  pub primop_ends : (g : List ℕ) → IsAtomName g → Closed (primop_pieces g parts) (λ ks. Kind.Mark Mark.Primop ∷ Kind.Atom g ∷ Kind.Mark Mark.OpenRound ∷ f (Kind.Mark Mark.CloseRound ∷ ks))
  unfolding primop_pieces
  primop_ends g j = closed_closed (closed_closed (open_closed primop_keyword space_starts a_space) (an_atom g j)) arguments_end

module _ (d : ℕ) (patterns : List (List Piece)) (guard body : List Piece) {f g h : Prefix} where
  pub clause_reads : Open (with_commas patterns) f → Open guard g → Open body h
      → Open (clause_pieces d patterns guard body) (λ ks. Kind.Mark Mark.Less ∷ f (Kind.Mark Mark.Greater ∷ Kind.Mark Mark.When ∷ g (Kind.Mark Mark.Arrow ∷ h ks)))
  unfolding clause_pieces
  clause_reads i j k =
      closed_open
      (open_closed
      (closed_open
      (closed_closed (closed_closed (a_line d) (enclosed_ends (codes "<") (codes ">") patterns less i (record { apart = λ us. refl }) greater)) a_space)
      (spaced_reads guard j (codes "when") Mark.When when_keyword))
      (arrow_starts d)
      (an_arrow d))
      k
