-- The text of a function by its number.
use Rattle.std.proofs.Common.{◌≡◌, ℕ, zero, suc, ◌-◌, ◌<◌, ◌≤◌, List, [], ◌∷◌, ◌++◌, length, get_or, sym, ap, ◌∙◌, append_assoc, arith, codes}
use Rattle.std.specs.Prelude.{decimal}
use Rattle.hipe_terms.specs.Shown.{function_text, quoted}
use Rattle.core_ast.specs.declared.tree.FunDef.{FunDef, out-FunDef}
use Rattle.core_ast.specs.declared.tree.FunName.{FunName}
use Rattle.core_ast.specs.Trees.{definition_of}
use Rattle.core_ast.proofs.Levels.{definition_is}
use Rattle.eval_text.specs.Named.{names_of}

abbrev text_of : FunName → List ℕ
text_of f = quoted f.name ++ codes "/" ++ decimal f.arity

pub named_function : (defs : List FunDef) (n : ℕ) (d : FunDef) → n < length defs → d ≡ get_or defs n d → function_text (names_of defs) n ≡ quoted ((out-FunDef d).name).name ++ (codes "/" ++ decimal ((out-FunDef d).name).arity)
named_function [] n d h e = absurd (omega arith)
named_function (f ∷ defs) zero d h e =
    ap (λ g. text_of (definition_of g).name) (sym e)
    ∙ ap (λ g. text_of g.name) (definition_is d)
    ∙ append_assoc (quoted ((out-FunDef d).name).name) (codes "/") (decimal ((out-FunDef d).name).arity)
named_function (f ∷ defs) (suc n) d h e = named_function defs n d (omega arith) e

pub other_function : (defs : List FunDef) (n : ℕ) → length defs ≤ n → function_text (names_of defs) n ≡ decimal (n - length defs)
other_function [] n h = ap decimal (omega arith)
other_function (f ∷ defs) zero h = absurd (omega arith)
other_function (f ∷ defs) (suc n) h = other_function defs n (omega arith) ∙ ap decimal (omega arith)

pub ruleset named = (other_function)
