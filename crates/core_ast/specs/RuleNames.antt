-- The names of the rules.
use Rattle.std.specs.Prelude.{ℕ, List, codes}
use Rattle.core_ast.specs.declared.rule.Rule.{Rule}
use Rattle.core_ast.specs.declared.rule.Rule.TheVariants as Rules

abbrev pub rule_name : Rule → List ℕ
rule_name Rules.DuplicateFunction = codes "duplicate_function"
rule_name Rules.ExportUndefined = codes "export_undefined"
rule_name Rules.UnboundFunction = codes "unbound_function"
rule_name Rules.UnboundVariable = codes "unbound_variable"
rule_name Rules.DuplicateVariable = codes "duplicate_variable"
rule_name Rules.Degree = codes "degree"
rule_name Rules.ArityLimit = codes "arity_limit"
rule_name Rules.UnknownPrimop = codes "unknown_primop"
rule_name Rules.SizeLimit = codes "size_limit"
