use Rattle.std.proofs.Common.{◌≡◌, ◌-◌, ◌++◌, map, replicate, None, length}
use Rattle.std.specs.List.{All, range_with_len}
use Rattle.sil_model.specs.declared.table.Action.TheVariants.{Error}
use Rattle.sil_model.specs.WellFormed.{IsEntry}
use Rattle.sil_symbols.specs.Resolved.{expression_value}
use Rattle.syntax_tables.specs.TableFiles.{names_in}
use Rattle.syntax_tables.specs.Tables.{entry_at}
use Rattle.syntax_tables.proofs.tables.table_of.Given as goal

abbrev pub invariant-loop-code : goal.invariant-loop-code
invariant-loop-code l = record {
  filled : l.entries ≡ map (entry_at (expression_value l.symbols) (names_in l.written) l.lines) (range_with_len 0 l.code) ++ replicate (256 - l.code) (record { action = Error; put = None });
  good : All (IsEntry (length (names_in l.written))) l.entries;
}
