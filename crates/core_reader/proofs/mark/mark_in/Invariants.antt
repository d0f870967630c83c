use Rattle.std.proofs.Common.{◌≡◌, drop}
use Rattle.std.specs.Prelude.{map}
use Rattle.core_reader.specs.Terminals.{mark_in}
use Rattle.core_reader.proofs.mark.mark_in.Given as goal

abbrev pub invariant-loop-row : goal.invariant-loop-row
invariant-loop-row l = record {
  rest : mark_in (map (λ row. (row.0.now, row.1)) (drop l.row-index l.rows)) l.bytes
      ≡ mark_in (map (λ row. (row.0.now, row.1)) l.rows) l.bytes;
}
