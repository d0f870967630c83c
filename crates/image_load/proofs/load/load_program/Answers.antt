use Rattle.std.proofs.Common.{ap, arith, length}
use Rattle.image_load.proofs.Steps.{table_length}
use Rattle.image_load.proofs.load.load_program.Goals as goal

pub with_program-requires-clause-table : goal.with_program-requires-clause-table
with_program-requires-clause-table c =
    omega (arith, ap length c.in_ok-table.ensures, table_length c.as_slice.result.now, ap length (c.as_slice.ensures).value, ap length c.into_parts-atoms.ensures.functions, c.requires.functions)
