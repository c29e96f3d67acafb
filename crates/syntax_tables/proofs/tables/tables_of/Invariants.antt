use Rattle.std.proofs.Common.{◌≡◌, ◌++◌, drop, length}
use Rattle.std.specs.List.{All}
use Rattle.sil_model.specs.WellFormed.{IsTable}
use Rattle.sil_symbols.specs.Resolved.{expression_value}
use Rattle.syntax_tables.specs.TableFiles.{names_in}
use Rattle.syntax_tables.specs.Tables.{tables_in}
use Rattle.syntax_tables.proofs.tables.tables_of.Given as goal

abbrev pub invariant-loop-i : goal.invariant-loop-i
invariant-loop-i l = record {
  tables : tables_in (expression_value l.symbols) (names_in l.written) l.lines ≡ l.tables.items ++ tables_in (expression_value l.symbols) (names_in l.written) (drop l.i l.lines);
  good : All (IsTable (length (names_in l.written))) l.tables.items;
}
