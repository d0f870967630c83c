use Rattle.std.proofs.Common.{◌≡◌, ◌<◌, ◌≤◌, ◌+◌, ℕ, length, get_or, drop, ◌∷◌, sym, ap, ◌∙◌, subst, arith, if◌then◌else◌}
use Rattle.std.specs.List.{zip}
use Rattle.coord_core.specs.Tables.{joined, joined_all}
use Rattle.coord_core.specs.States.{rises, risen, queue_after}
use Rattle.coord_core.proofs.Outputs.{zip-rest, zip-end, table_more, queue_more, risen_more, one_if, none_if, at_most_one}
use Rattle.coord_core.proofs.join.join_outputs.Goals as goal
use Rattle.coord_core.proofs.join.join_outputs.Goals.{then-join_output, else-join_output}

pub loop-i-preserved : goal.loop-i-preserved
loop-i-preserved g c =
    let l = g.S.Value.Lattice.meaning in
    let s = g.S.System.meaning in
    let outputs = zip (s.gives c.args.node) c.args.outputs.now in
    let inside : c.loop-i.i < length (s.gives c.args.node) = subst (λ xs. c.loop-i.i < length xs) c.gives-gives.ensures c.loop-i-test.true in
    let o : ℕ × g.row.S-Value.Denot = (get_or (s.gives c.args.node) c.loop-i.i 0, c.index-outputs-i.result) in
    let is : drop c.loop-i.i outputs ≡ o ∷ drop (c.loop-i.i + 1) outputs = zip-rest (s.gives c.args.node) c.args.outputs.now c.loop-i.i c.index-outputs-i.result inside (omega (arith, inside, c.requires.outputs)) c.index-outputs-i.is in
    let cell : get_or c.gives-gives.result.now c.loop-i.i 0 ≡ get_or (s.gives c.args.node) c.loop-i.i 0 = ap (λ xs. get_or xs c.loop-i.i 0) c.gives-gives.ensures in
    let after : c.join_output.new.table ≡ joined l c.loop-i.table o = rw cell at c.join_output.ensures.table in
    let rising : c.join_output.result ≡ rises l c.loop-i.table o = rw cell at c.join_output.ensures.rises in
    let counted : c.if-join_output.risen ≡ c.loop-i.risen + (if rises l c.loop-i.table o then 1 else 0) =
    elim c.if-join_output.branch [
      | then-join_output w ↦ one_if c.join_output.result (rises l c.loop-i.table o) c.loop-i.risen c.if-join_output.risen (sym rising) w.if-join_output.true w.risen-is
      | else-join_output w ↦ none_if c.join_output.result (rises l c.loop-i.table o) c.loop-i.risen c.if-join_output.risen (sym rising) w.if-join_output.false w.risen-is
    ] in
    record {
      table = table_more l s (drop c.loop-i.i outputs) (drop (c.loop-i.i + 1) outputs) o is c.loop-i.table c.join_output.new.table after (joined_all l c.args.table.now outputs) c.loop-i.invariant.table;
      queue = queue_more l s (drop c.loop-i.i outputs) (drop (c.loop-i.i + 1) outputs) o is c.loop-i.table c.join_output.new.table after c.loop-i.queue.waiting c.join_output.new.queue.waiting (queue_after l s c.args.table.now c.args.queue.now.waiting outputs) (rw cell at c.join_output.ensures.queue) c.loop-i.invariant.queue;
      nodes = c.join_output.ensures.nodes ∙ c.loop-i.invariant.nodes;
      risen = risen_more l s (drop c.loop-i.i outputs) (drop (c.loop-i.i + 1) outputs) o is c.loop-i.table c.join_output.new.table after c.loop-i.risen c.if-join_output.risen (risen l c.args.table.now outputs) counted c.loop-i.invariant.risen;
      few = at_most_one c.loop-i.risen c.if-join_output.risen c.loop-i.i (rises l c.loop-i.table o) counted c.loop-i.invariant.few;
    }

pub returns-clause-table : goal.returns-clause-table
returns-clause-table g c =
    let end = zip-end (g.S.System.meaning.gives c.args.node) c.args.outputs.now c.loop-i.i (subst (λ xs. length xs ≤ c.loop-i.i) c.gives-gives.ensures c.loop-i-test.false) in
    subst (λ os. joined_all g.S.Value.Lattice.meaning c.loop-i.table os ≡ joined_all g.S.Value.Lattice.meaning c.args.table.now (zip (g.S.System.meaning.gives c.args.node) c.args.outputs.now)) end c.loop-i.invariant.table

pub returns-clause-queue : goal.returns-clause-queue
returns-clause-queue g c =
    let end = zip-end (g.S.System.meaning.gives c.args.node) c.args.outputs.now c.loop-i.i (subst (λ xs. length xs ≤ c.loop-i.i) c.gives-gives.ensures c.loop-i-test.false) in
    subst (λ os. queue_after g.S.Value.Lattice.meaning g.S.System.meaning c.loop-i.table c.loop-i.queue.waiting os ≡ queue_after g.S.Value.Lattice.meaning g.S.System.meaning c.args.table.now c.args.queue.now.waiting (zip (g.S.System.meaning.gives c.args.node) c.args.outputs.now)) end c.loop-i.invariant.queue

pub returns-clause-risen : goal.returns-clause-risen
returns-clause-risen g c =
    let end = zip-end (g.S.System.meaning.gives c.args.node) c.args.outputs.now c.loop-i.i (subst (λ xs. length xs ≤ c.loop-i.i) c.gives-gives.ensures c.loop-i-test.false) in
    let counted : c.loop-i.risen + 0 ≡ risen g.S.Value.Lattice.meaning c.args.table.now (zip (g.S.System.meaning.gives c.args.node) c.args.outputs.now) = subst (λ os. c.loop-i.risen + risen g.S.Value.Lattice.meaning c.loop-i.table os ≡ risen g.S.Value.Lattice.meaning c.args.table.now (zip (g.S.System.meaning.gives c.args.node) c.args.outputs.now)) end c.loop-i.invariant.risen in
    omega (arith, counted)
