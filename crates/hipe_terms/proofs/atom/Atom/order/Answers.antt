use Rattle.std.proofs.Common.{refl}
use Rattle.std.proofs.lemmas.Iterator.{YieldsList-from_chars}
use Rattle.std.proofs.lemmas.Iterator.Search.{cmp_from_yields_List}
use Rattle.std.specs.Ordering.{nat_cmp}
use Rattle.std.specs.Cmp.Lexicographic.{slice_cmp}
use Rattle.std.specs.Prelude.{◌≡◌, chars}
use Rattle.hipe_terms.proofs.atom.Atom.order.Goals as goal

pub returns : goal.returns
returns c =
    let r : c.cmp.result ≡ slice_cmp nat_cmp (chars c.deref.result.now) (chars c.deref-2.result.now) =
    cmp_from_yields_List (λ x y. y ≡ x) _ nat_cmp _ c.cmp.ensures.ran (YieldsList-from_chars _ c.deref.utf8 cc) (λ it e. YieldsList-from_chars _ c.deref-2.utf8 cc) (λ x y. refl) in
    cc (r, c.self.view_is, c.other.view_is)
