use Rattle.std.proofs.Common.{◌≡◌, ◌∙◌, ◌<◌, ◌^◌, List, All, ap, sym, subst, length, ℕ}
use Rattle.image_link.specs.declared.image.Function.{Function}
use Rattle.image_link.specs.Code.{IsPart}
use Rattle.image_link.specs.Image.{IsImage}
use Rattle.image_link.specs.Linking.{functions_from, linked}
use Rattle.image_link.specs.Names.{ProgramNames}
use Rattle.image_link.proofs.Parts.{linked_rules}
use Rattle.image_link.proofs.linking.put_together.Goals as goal

pub invariant_of-result : goal.invariant_of-result
invariant_of-result c =
    let n : ProgramNames = record {
      atoms = c.names.inside.atoms;
      module_atom = c.names.inside.module;
      functions = c.names.inside.functions.items;
      exports = c.names.inside.exports.items;
    } in
    let rules : IsImage (linked c.args.parts.now n) = linked_rules c.args.parts.now n
    (subst (λ m. length c.args.parts.now ≡ length m.functions) (sym c.names.view_is) c.requires.count)
    (subst (λ m. All (IsPart (length m.functions)) c.args.parts.now) (sym c.names.view_is) c.requires.parts)
    c.requires.size c.names.invariant (subst (All (λ b. b < 2 ^ 8)) c.in_ok-code.ensures.code c.in_ok-code.ensures.bytes) in
    let functions : c.in_ok-functions.functions.items ≡ functions_from c.args.parts.now 0 n.functions c.args.parts.now =
    c.in_ok-functions.ensures
    ∙ ap (λ fs. functions_from c.args.parts.now 0 fs c.args.parts.now) c.functions.ensures.functions
    ∙ ap (λ m. functions_from c.args.parts.now 0 m.functions c.args.parts.now) (sym c.names.view_is) in
    let P : List Function → Type 0 = λ fs. IsImage (record (linked c.args.parts.now n) { functions = fs; code = c.in_ok-code.code.items }) in
    let Q : List ℕ → Type 0 = λ code. IsImage (record (linked c.args.parts.now n) { code = code }) in
    subst P (sym functions) (subst Q (sym c.in_ok-code.ensures.code) rules)
