use Rattle.std.proofs.Common.{ap, ◌∙◌, bytes_eq}
use Rattle.hipe_terms.proofs.AtomTexts.{bytes_eq-ascii}
use Rattle.hipe_terms.proofs.atom.Atom.has_text.Goals as goal

pub returns : goal.returns
returns c = c.eq.ensures ∙ ap (λ text. bytes_eq text c.args.text.now) c.as_str.ensures ∙ bytes_eq-ascii c.args.self.now c.args.text.now c.requires
