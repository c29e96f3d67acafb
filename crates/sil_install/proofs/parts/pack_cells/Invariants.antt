use Rattle.std.proofs.Common.{◌≡◌, take}
use Rattle.std.specs.List.{flat_map}
use Rattle.layout_params.specs.Packing.{packing}
use Rattle.sil_install.proofs.parts.pack_cells.Given as goal

abbrev pub invariant-loop-cell : goal.invariant-loop-cell
invariant-loop-cell g l = l.bytes.items ≡ flat_map (packing (g.L.Layout.sizes l.layout)) (take l.cell-index l.cells)
