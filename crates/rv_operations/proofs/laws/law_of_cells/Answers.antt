use Rattle.rv_operations.proofs.CellsWritten.{stores_cell}
use Rattle.rv_operations.proofs.laws.law_of_cells.Goals as goal

pub returns : goal.returns
returns c = stores_cell
