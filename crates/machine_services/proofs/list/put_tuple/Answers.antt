use Rattle.std.proofs.Common.{ap, ◌∙◌, ◌*◌, set}
use Rattle.machine_services.proofs.Tuples.{tuple_put}
use Rattle.machine_services.proofs.list.put_tuple.Goals as goal

pub returns : goal.returns
returns c =
    ap (λ l. set l c.args.at (64 * c.args.elements.words)) c.copy_within.ensures.after
    ∙ tuple_put c.args.heap.now c.args.at c.args.elements.at c.args.elements.words (64 * c.args.elements.words) c.requires.within c.requires.room
