use Rattle.std.proofs.lemmas.Str.{encodes-chars}
use Rattle.hipe_terms.proofs.atom.Atom.as_str.Goals as goal

pub returns : goal.returns
returns c = cc (encodes-chars c.as_str.result.now c.as_str.utf8, c.self.view_is)
