use Rattle.std.proofs.Common.{subst, sym, All}
use Rattle.hipe_terms.specs.Constants.{IsConstant}
use Rattle.core_print.proofs.Attributes.{attributes_are_constants}
use Rattle.core_print.proofs.Printing.{printed_is}
use Rattle.core_ast.specs.Trees.{module_of}
use Rattle.core_print.proofs.print.print_module.Goals as goal

pub returns : goal.returns
returns c =
    cc (printed_is (module_of c.args.m.now), c.new-out.ensures.bytes, c.as_slice.ensures, c.in_ok-head.ensures, c.as_slice-2.ensures, c.in_ok-attributes.ensures, c.as_slice-3.ensures, c.in_ok-definitions.ensures, c.in_ok-line.ensures, c.in_ok-keyword.ensures, c.in_ok-line-2.ensures, c.into_bytes.ensures.value)

pub attributes-requires : goal.attributes-requires
attributes-requires c = subst (All (λ a. IsConstant a.1)) (sym c.as_slice-2.ensures) (attributes_are_constants (module_of c.args.m.now) c.requires)
