-- The words of the stack that functions claim.
use Rattle.std.proofs.Common.{◌≡◌, sym, ap, ◌∙◌}
use Rattle.std.proofs.lemmas.List.{length-map}
use Rattle.core_ast.specs.Nodes.{expression_nodes, frame_of}
use Rattle.core_ast.specs.Trees.{expression_of}
use Rattle.core_meaning.specs.Procedures.{claim_of}
use Rattle.eval_procedures.specs.Shown.{procedure_in}
use Rattle.eval_procedures.specs.declared.procedure.Procedure.{Procedure}

pub claim_is : (f : Procedure) → f.frame ≡ claim_of (procedure_in f)
claim_is f = f.claimed ∙ ap (λ n. frame_of (expression_nodes (expression_of f.body.now)) n f.captured) (sym (length-map f.parameters.now (λ x. x.name)))
