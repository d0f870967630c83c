-- The text of a function by its number.
use Rattle.std.proofs.Common.{◌≡◌, ℕ, zero, suc, ◌-◌, ◌<◌, ◌≤◌, List, [], ◌∷◌, ◌++◌, length, map, get_or, sym, ap, ◌∙◌, append_assoc, arith, codes}
use Rattle.std.specs.Prelude.{decimal}
use Rattle.hipe_terms.specs.Shown.{function_text, quoted}
use Rattle.heap_terms.specs.declared.symbols.DefinitionName.{DefinitionName}
use Rattle.heap_terms.specs.Seen.{name_of}

text_of : DefinitionName → List ℕ
text_of d = quoted d.name ++ codes "/" ++ decimal d.arity

pub named_function : (defs : List DefinitionName) (n : ℕ) (d : DefinitionName) → n < length defs → d ≡ get_or defs n d
    → function_text (map name_of defs) n ≡ quoted d.name ++ (codes "/" ++ decimal d.arity)
unfolding text_of
named_function [] n d h e = absurd (omega arith)
named_function (f ∷ defs) zero d h e = ap text_of (sym e) ∙ append_assoc (quoted d.name) (codes "/") (decimal d.arity)
named_function (f ∷ defs) (suc n) d h e = named_function defs n d (omega arith) e

pub other_function : (defs : List DefinitionName) (n : ℕ) → length defs ≤ n → function_text (map name_of defs) n ≡ decimal (n - length defs)
other_function [] n h = ap decimal (omega arith)
other_function (f ∷ defs) zero h = absurd (omega arith)
other_function (f ∷ defs) (suc n) h = other_function defs n (omega arith) ∙ ap decimal (omega arith)

pub ruleset named = (other_function)
