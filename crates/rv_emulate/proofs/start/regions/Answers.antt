use Rattle.std.proofs.Common.{length, ap, arith}
use Rattle.rv_emulate.proofs.start.regions.Goals as goal

pub invariant_of-result-clause-few_tables : goal.invariant_of-result-clause-few_tables
invariant_of-result-clause-few_tables c =
    omega (arith, ap length c.in_ok-tables.ensures.items, ap length c.tables.ensures.value, c.first_cells.ensures.legal.table_bytes)
