use Rattle.std.proofs.Common.{◌≡◌, take}
use Rattle.std.specs.Prelude.{map}
use Rattle.sil_model.specs.CellWords.{kind_of}
use Rattle.sil_install.proofs.parts.kinds.Given as goal

abbrev pub invariant-loop-cell : goal.invariant-loop-cell
invariant-loop-cell l = l.kinds.items ≡ map kind_of (take l.cell-index l.cells)
