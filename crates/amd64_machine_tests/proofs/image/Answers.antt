use Rattle.std.proofs.Common.{rules}
use Rattle.amd64_machine_tests.proofs.Parts.{no_calls, both_fit}
use Rattle.amd64_machine_tests.proofs.image.Goals as goal

pub link-requires-clause-parts : goal.link-requires-clause-parts
link-requires-clause-parts c =
    both_fit _ c.code.result c.code-2.result c.in_ok-parts.ensures.items
    (no_calls _ c.code.result (search rules) c.code.ensures.calls c.code.ensures.entry)
    (no_calls _ c.code-2.result (search rules) c.code-2.ensures.calls c.code-2.ensures.entry)
