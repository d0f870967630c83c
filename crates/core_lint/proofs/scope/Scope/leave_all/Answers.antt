use Rattle.std.proofs.Common.{[], drop, length, map, arith, ap, sym, ◌∙◌}
use Rattle.std.proofs.lemmas.List.{drop-drop, drop_all, length-map}
use Rattle.core_lint.specs.Entries.{entry_of}
use Rattle.core_lint.proofs.Known.{keys-length}
use Rattle.core_lint.proofs.scope.Scope.leave_all.Goals as goal

pub loop-bound-preserved : goal.loop-bound-preserved
loop-bound-preserved c = c.leave.ensures ∙ ap (λ ks. drop 1 ks) c.loop-bound.invariant ∙ drop-drop 1 c.loop-bound._bound-index c.args.self.now

-- as many names as there are, or more
pub returns-then-list-len : goal.returns-then-list-len
returns-then-list-len c =
    c.clear.ensures ∙ sym (drop_all (length (map entry_of c.args.list.now)) c.args.self.now
    (let e = keys-length [] c.self.inside.names.items in let v = ap length c.self.view_is in let m = length-map c.args.list.now entry_of in omega (arith, e, v, m, c.if-list-len.true, c.len.ensures)))
