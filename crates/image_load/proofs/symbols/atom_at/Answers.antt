use Rattle.std.proofs.Common.{◌≡◌, ◌∙◌, ℕ, List, [], ap, get_or}
use Rattle.std.specs.Prelude.{Some, option_map, encode_utf8_all}
use Rattle.std.proofs.lemmas.Option.{slice_get-get_or}
use Rattle.std.proofs.lemmas.Result.{IfOk-weaker}
use Rattle.std.proofs.lemmas.Str.{encodes_same}
use Rattle.image_load.proofs.symbols.atom_at.Goals as goal

some_same : (a b : List ℕ) → Some a ≡ Some b → a ≡ b
some_same a b e = cc

pub returns : goal.returns
returns c =
    let there : Some c.in-Some.text.now ≡ Some (encode_utf8_all (get_or c.args.table.now c.args.number [])) =
    c.in-Some.ensures ∙ ap (option_map encode_utf8_all) (slice_get-get_or c.args.table.now c.args.number [] c.requires) in
    IfOk-weaker c.atom_of.result (λ a. encode_utf8_all a ≡ c.in-Some.text.now) (λ a. a ≡ get_or c.args.table.now c.args.number [])
    (λ a h. encodes_same a (get_or c.args.table.now c.args.number []) (h ∙ some_same _ _ there)) c.atom_of.ensures
