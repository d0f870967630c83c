use Rattle.std.proofs.Common.{ap, ◌∙◌}
use Rattle.std.specs.Prelude.{chars}
use Rattle.eval_values.proofs.ShortAtoms.{short_chars, not_long}
use Rattle.eval_values.proofs.atoms.atom.Goals as goal

pub unreachable-requires : goal.unreachable-requires
unreachable-requires c = not_long c.args.text.now _ c.requires (c.in_ok-from_str.ensures).ok (c.in-Err.ensures).1

pub returns : goal.returns
returns c = c.in-Ok.ensures ∙ ap chars (c.in_ok-from_str.ensures).ok ∙ short_chars c.args.text.now c.requires
