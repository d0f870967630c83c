use Rattle.std.proofs.Common.{Err, ap, sym, ◌∙◌}
use Rattle.hipe_top.specs.Finding.{first_keyword}
use Rattle.hipe_top.proofs.Placing.{keyword_found, begins_at, refused_tokens}
use Rattle.hipe_top.proofs.place.module_place.Goals as goal

pub unreachable-requires : goal.unreachable-requires
unreachable-requires c =
    refused_tokens c.args.text.now c.in-Err-Refused.field-0-0 c.in-Err-Refused.field-0-1 c.tokens.result c.requires.reads
    (c.in-Err-Refused.is ∙ ap Err c.in-Err-Refused.field-0-is) c.tokens.ensures.fault

pub unreachable-requires-in-None : goal.unreachable-requires-in-None
unreachable-requires-in-None c =
    keyword_found c.args.text.now c.in-Ok.list (c.in-Ok.ensures.utf8, c.in-Ok.ensures.tokens) c.requires.reads
    (ap (first_keyword c.args.text.now) (sym c.list-2.ensures) ∙ sym c.first_keyword.ensures ∙ c.in-None.is)

pub returns : goal.returns
returns c =
    begins_at c.args.text.now c.in-Ok.list c.in-Some.at (c.in-Ok.ensures.utf8, c.in-Ok.ensures.tokens)
    (ap (first_keyword c.args.text.now) (sym c.list-2.ensures) ∙ sym c.first_keyword.ensures ∙ c.in-Some.is)
