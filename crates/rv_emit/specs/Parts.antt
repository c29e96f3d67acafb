-- What a program decides of its image: every part but the places and the code words.
use Rattle.std.specs.Prelude.{◌≡◌, ℕ, List, map}
use Rattle.std.specs.List.{flat_map}
use Rattle.layout_params.specs.declared.cell.Cell.{Cell}
use Rattle.layout_params.specs.Packing.{packing}
use Rattle.layout_params.specs.Parameters.{Settings}
use Rattle.sil_model.specs.CellWords.{kind_of}
use Rattle.sil_model.specs.declared.program.Program.{Program}
use Rattle.image_file.specs.Image.{Image}
use Rattle.rv_operations.specs.EntryBytes.{table_part}

-- the bytes of the static cells, and their kinds
abbrev pub cells_part : Settings → List Cell → List ℕ
cells_part settings cells = flat_map (packing settings.sizes) cells

abbrev pub kinds_part : List Cell → List ℕ
kinds_part cells = map kind_of cells

-- the image is one of this program under these settings
pub record IsImageOf (image : Image) (program : Program) (settings : Settings) : Type 0 where
  pub same_settings : image.settings ≡ settings
  pub cards : map (λ e. e.card) image.statements ≡ map (λ s. s.card) program.statements
  pub names : map (λ e. e.name) image.statements ≡ map (λ s. s.name) program.statements
  pub constants : image.constants ≡ flat_map (λ text. text) program.formats
  pub cells : image.cells ≡ cells_part settings program.cells
  pub kinds : image.kinds ≡ kinds_part program.cells
  pub tables : image.tables ≡ flat_map table_part program.tables
