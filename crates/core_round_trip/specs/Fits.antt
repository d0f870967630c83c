-- Trees that a text can spell, where no part has a level above n: levels, names and integers that tokens have, and
-- lists as they are derived. In each definition k is the level of the part.
use Rattle.std.specs.Prelude.{◌≡◌, ℕ, ◌+◌, ◌≤◌, ℤ, pos, List, [], ◌∷◌, length, true, false, ◌||◌, ◌==◌, nat_le}
use Rattle.std.specs.Str.{all_scalars}
use Rattle.hipe_terms.specs.declared.constant.Constant as RustConstant
use Rattle.hipe_base.specs.declared.limits.TheConstants.{ATOM_LIMIT}
use Rattle.hipe_terms.specs.declared.place.Place.{Place}
use Rattle.hipe_terms.specs.Range.{is_in_range}
use Rattle.hipe_terms.specs.Terms.{Term, Terms, integer, atom, nil, cons, tuple, fun, none, more, term_of}
use Rattle.core_text.specs.Bytes.{is_upper, is_name_byte}
use Rattle.core_text.specs.Prefixes.{AreAll}
use Rattle.core_ast.specs.declared.pattern.Var.{Var}
use Rattle.core_ast.specs.declared.tree.FunName.{FunName}
use Rattle.core_ast.specs.Trees.{Pattern, Patterns, no_pattern, and_pattern, Expression, Expressions, no_expression, and_expression, Clauses, no_clause, and_clause, Definitions, no_definition, and_definition, Module}
use Rattle.core_ast.specs.WellFormed.{is_list_pattern, is_list}

-- ---- integers and names

abbrev pub IsInRange : ℤ → Type 0
IsInRange n = is_in_range n ≡ true

-- the code points of an atom
abbrev pub IsAtomName : List ℕ → Type 0
IsAtomName a = (length a ≤ ATOM_LIMIT) × (all_scalars a ≡ true)

-- the bytes of a variable
abbrev pub IsVariableName : List ℕ → Type 0
IsVariableName [] = ⊥
IsVariableName (c ∷ cs) = ((is_upper c || c == 95) ≡ true) × AreAll is_name_byte cs

abbrev pub IsName : FunName → Type 0
IsName f = IsAtomName f.name × IsInRange (pos f.arity)

abbrev pub AreVariables : List Var → Type 0
AreVariables [] = Unit {0}
AreVariables (x ∷ xs) = IsVariableName x.name × AreVariables xs

-- ---- levels

-- a part may have this level
abbrev pub At : ℕ → ℕ → Type 0
At n k = nat_le k n ≡ true

-- ---- constants

abbrev mutual
  pub TermFits : ℕ → ℕ → Term → Type 0
  TermFits n k (integer i) = At n k × IsInRange i
  TermFits n k (atom a) = At n k × IsAtomName a
  TermFits n k nil = At n k
  TermFits n k (cons a b) = At n k × TermFits n (k + 1) a × TermFits n k b
  TermFits n k (tuple ts) = At n k × TermsFit n (k + 1) ts
  TermFits n k (fun f ts) = ⊥

  pub TermsFit : ℕ → ℕ → Terms → Type 0
  TermsFit n k none = Unit {0}
  TermsFit n k (more t ts) = TermFits n k t × TermsFit n k ts

-- ---- patterns

abbrev pub HasPattern : Patterns → Type 0
HasPattern no_pattern = ⊥
HasPattern (and_pattern f fs) = Unit {0}

abbrev mutual
  pub PatternFits : ℕ → ℕ → Pattern → Type 0
  PatternFits n k (Pattern.Variable p x) = At n k × IsVariableName x
  PatternFits n k (Pattern.Int p i) = At n k × IsInRange i
  PatternFits n k (Pattern.Atom p a) = At n k × IsAtomName a
  PatternFits n k (Pattern.Nil p) = At n k
  PatternFits n k (Pattern.Tuple p fs) = At n k × PatternsFit n (k + 1) fs
  PatternFits n k (Pattern.Cons p fs tail) = At n k × HasPattern fs × PatternsFit n (k + 1) fs × PatternFits n k tail × (is_list_pattern tail ≡ false)
  PatternFits n k (Pattern.Alias p x f) = At n k × IsVariableName x.name × PatternFits n (k + 1) f

  pub PatternsFit : ℕ → ℕ → Patterns → Type 0
  PatternsFit n k no_pattern = Unit {0}
  PatternsFit n k (and_pattern f fs) = PatternFits n k f × PatternsFit n k fs

-- ---- expressions

abbrev pub HasExpression : Expressions → Type 0
HasExpression no_expression = ⊥
HasExpression (and_expression e es) = Unit {0}

abbrev pub HasClause : Clauses → Type 0
HasClause no_clause = ⊥
HasClause (and_clause p fs guard body cs) = Unit {0}

abbrev mutual
  pub Fits : ℕ → ℕ → Expression → Type 0
  Fits n k (Expression.Int p i) = At n k × IsInRange i
  Fits n k (Expression.Atom p a) = At n k × IsAtomName a
  Fits n k (Expression.Nil p) = At n k
  Fits n k (Expression.Variable p x) = At n k × IsVariableName x
  Fits n k (Expression.Name p f) = At n k × IsName f
  Fits n k (Expression.Tuple p es) = At n k × AllFit n (k + 1) es
  Fits n k (Expression.Cons p es tail) = At n k × HasExpression es × AllFit n (k + 1) es × Fits n k tail × (is_list tail ≡ false)
  Fits n k (Expression.Values p es) = At n k × AllFit n (k + 1) es
  Fits n k (Expression.Let p xs values body) = At n k × AreVariables xs × Fits n (k + 1) values × Fits n (k + 1) body
  Fits n k (Expression.Case p values cs) = At n k × Fits n (k + 1) values × HasClause cs × ClausesFit n (k + 1) cs
  Fits n k (Expression.Lambda p q xs body) = At n k × AreVariables xs × Fits n (k + 1) body
  Fits n k (Expression.Letrec p ds body) = At n k × DefinitionsFit n (k + 1) ds × Fits n (k + 1) body
  Fits n k (Expression.Apply p f args) = At n k × Fits n (k + 1) f × AllFit n (k + 1) args
  Fits n k (Expression.Call p m f args) = At n k × IsAtomName m × IsAtomName f × AllFit n (k + 1) args
  Fits n k (Expression.Primop p f args) = At n k × IsAtomName f × AllFit n (k + 1) args
  Fits n k (Expression.Try p part xs body ys handler) = At n k × Fits n (k + 1) part × AreVariables xs × Fits n (k + 1) body × AreVariables ys × Fits n (k + 1) handler
  Fits n k (Expression.Do p first second) = At n k × Fits n (k + 1) first × Fits n (k + 1) second
  Fits n k (Expression.Catch p part) = At n k × Fits n (k + 1) part

  pub AllFit : ℕ → ℕ → Expressions → Type 0
  AllFit n k no_expression = Unit {0}
  AllFit n k (and_expression e es) = Fits n k e × AllFit n k es

  pub ClausesFit : ℕ → ℕ → Clauses → Type 0
  ClausesFit n k no_clause = Unit {0}
  ClausesFit n k (and_clause p fs guard body cs) = At n k × PatternsFit n (k + 1) fs × Fits n (k + 1) guard × Fits n (k + 1) body × ClausesFit n k cs

  pub DefinitionsFit : ℕ → ℕ → Definitions → Type 0
  DefinitionsFit n k no_definition = Unit {0}
  DefinitionsFit n k (and_definition p f q xs body ds) = At n k × IsName f × AreVariables xs × Fits n (k + 1) body × DefinitionsFit n k ds

-- ---- modules

abbrev pub ExportsFit : List (FunName × Place) → Type 0
ExportsFit [] = Unit {0}
ExportsFit (e ∷ es) = IsName e.0 × ExportsFit es

abbrev pub AttributesFit : ℕ → List (List ℕ × RustConstant.Constant) → Type 0
AttributesFit n [] = Unit {0}
AttributesFit n (a ∷ as') = IsAtomName a.0 × TermFits n 1 (term_of a.1) × AttributesFit n as'

abbrev pub ModuleFits : ℕ → Module → Type 0
ModuleFits n m = IsAtomName m.name × ExportsFit m.exports × AttributesFit n m.attributes × DefinitionsFit n 1 m.definitions
