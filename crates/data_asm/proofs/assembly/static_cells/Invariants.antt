use Rattle.std.proofs.Common.{◌≡◌, [], drop}
use Rattle.std.specs.Prelude.{All}
use Rattle.sil_model.specs.Memory.{FitsCell}
use Rattle.sil_model.specs.Start.{limits_of}
use Rattle.sil_symbols.specs.Symbols.{value_of}
use Rattle.data_asm.specs.Cells.{cells_after}
use Rattle.data_asm.proofs.assembly.static_cells.Given as goal

abbrev pub invariant-loop-statement : goal.invariant-loop-statement
invariant-loop-statement l =
    let size = l.fn.source.params.now.settings.sizes.descr in
    let values = value_of l.fn.source.params.now l.fn.source.statements.now in
    record {
      cells : cells_after size values [] l.statement-items ≡ cells_after size values l.cells.items (drop l.statement-index l.statement-items);
      fit : All (FitsCell (limits_of l.fn.source.params.now.settings)) l.cells.items;
    }
