use Rattle.std.proofs.Common.{◌∙◌, ◌++◌, ◌+◌, [], ◌∷◌, ap, drop, get_or, map}
use Rattle.std.proofs.lemmas.List.{map-append}
use Rattle.std.proofs.lemmas.Option.{slice_get-get_or}
use Rattle.std.specs.Prelude.{None}
use Rattle.image_link.specs.declared.image.Function.{Function}
use Rattle.heap_terms.specs.Seen.{name_of}
use Rattle.image_load.specs.Loading.{definitions_of}
use Rattle.image_load.proofs.Exports.{named, entry_at}
use Rattle.image_load.proofs.Steps.{next_definition}
use Rattle.image_load.proofs.symbols.definitions_of.Goals as goal

pub atom_at-requires : goal.atom_at-requires
atom_at-requires c =
    named _ (get_or c.args.functions.now c.loop-function.function-index _) c.in-Some.number c.in-Some.is
    (entry_at _ c.args.functions.now c.loop-function.function-index _ c.requires (slice_get-get_or c.args.functions.now c.loop-function.function-index _ c.loop-function-test.true))

abbrev unnamed : Function
unnamed = record { name = None; arity = 0; captured = 0; closure_entry = 0 }

pub loop-function-preserved : goal.loop-function-preserved
loop-function-preserved c =
    ap (λ ns. map name_of ns ++ definitions_of c.args.table.now (drop (c.loop-function.function-index + 1) c.args.functions.now)) (c.in_ok-push.ensures).items
    ∙ ap (λ ns. ns ++ definitions_of c.args.table.now (drop (c.loop-function.function-index + 1) c.args.functions.now)) (map-append name_of c.loop-function.names.items (_ ∷ []))
    ∙ ap (λ a. (map name_of c.loop-function.names.items ++ (a, (get_or c.args.functions.now c.loop-function.function-index unnamed).arity) ∷ []) ++ definitions_of c.args.table.now (drop (c.loop-function.function-index + 1) c.args.functions.now)) c.in_ok-name.ensures
    ∙ next_definition c.args.table.now c.args.functions.now c.loop-function.function-index unnamed c.in-Some.number (map name_of c.loop-function.names.items) c.loop-function-test.true c.in-Some.is
    ∙ c.loop-function.invariant
