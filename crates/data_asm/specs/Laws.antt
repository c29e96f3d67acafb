-- The law of static cells.
use Rattle.std.specs.Prelude.{◌≡◌, ◌+◌, ◌*◌, List, [], ◌∷◌, ◌++◌, length, pos}
use Rattle.layout_params.specs.declared.cell.Cell.{Cell}
use Rattle.layout_params.specs.Parameters.{Parameters}
use Rattle.sil_base.specs.declared.places.TheConstants.{FIRST_CELL}
use Rattle.sil_symbols.specs.declared.stmt.Stmt.{Stmt}
use Rattle.sil_symbols.specs.Laws.{cell_count}
use Rattle.sil_symbols.specs.SymbolRules.{faults_of}
use Rattle.sil_symbols.specs.Symbols.{value_of}
use Rattle.data_asm.specs.Cells.{data_cells, static_cells_of}

-- the cells of a statement stand among those of the source, after the cells of the statements before it
pub record StandsThere (p : Parameters) (source before : List Stmt) (s : Stmt) : Type 0 where
  pub front : List Cell
  pub rest : List Cell
  pub count : length front ≡ cell_count p source before
  pub whole : static_cells_of p source ≡ front ++ (data_cells p.settings.sizes.descr (value_of p source) (pos (FIRST_CELL + (cell_count p source before + 2) * p.settings.sizes.descr)) s.name s.operands ++ rest)

-- where there are no faults, the cells of each statement stand where its label's address says
abbrev pub LawOfStaticCells : Type 0
LawOfStaticCells = (p : Parameters) (before : List Stmt) (s : Stmt) (after : List Stmt) → faults_of p (before ++ s ∷ after) ≡ [] → StandsThere p (before ++ s ∷ after) before s
