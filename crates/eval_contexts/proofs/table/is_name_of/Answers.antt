use Rattle.std.proofs.Common.{ap, ◌∙◌, bytes_eq}
use Rattle.hipe_terms.specs.Bifs.{bif_name}
use Rattle.eval_contexts.proofs.BifNames.{ascii-bytes_eq, named_in_ascii}
use Rattle.eval_contexts.proofs.table.is_name_of.Goals as goal

pub returns : goal.returns
returns c = c.eq.ensures ∙ ap (λ text. bytes_eq text c.as_str.result.now) c.name.ensures ∙ ap (λ text. bytes_eq (bif_name c.args.bif) text) c.as_str.ensures ∙ ascii-bytes_eq c.args.name.now (bif_name c.args.bif) (named_in_ascii c.args.bif)
