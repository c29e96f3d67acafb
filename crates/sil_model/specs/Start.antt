-- The state in which a run starts.
use Rattle.std.specs.Prelude.{List, ◌++◌, length, replicate, pos}
use Rattle.unit_io.specs.Tapes.{Tapes}
use Rattle.layout_params.specs.declared.cell.Cell.{Cell}
use Rattle.layout_params.specs.declared.cell.Cell.TheVariants.{Descr}
use Rattle.layout_params.specs.Sizes.{flag_limit, value_limit}
use Rattle.layout_params.specs.Parameters.{Settings}
use Rattle.layout_params.specs.Areas.{blank_cells, empty_stack}
use Rattle.sil_model.specs.declared.limits.Limits.{Limits}
use Rattle.sil_model.specs.declared.program.Program.{Program}
use Rattle.sil_model.specs.Memory.{Memory}
use Rattle.layout_params.specs.Areas.{blank_cells, empty_stack}
use Rattle.sil_model.specs.States.{State}

abbrev pub limits_of : Settings → Limits
limits_of s = record { cell_size = s.sizes.descr; flag_limit = flag_limit s.sizes; value_limit = value_limit s.sizes }

-- a descriptor of zeros
abbrev pub zero_cell : Cell
zero_cell = Descr (record { a = pos 0; f = 0; v = 0 })

abbrev pub first_memory : Settings → List Cell → Memory
first_memory s statics = record { limits = limits_of s; cells = statics ++ replicate (blank_cells s) zero_cell }

unfoldable pub first_state : Program → Settings → Tapes → State
first_state program s tapes = record {
  statement = 0;
  memory = first_memory s program.cells;
  tables = program.tables;
  current = empty_stack s (length program.cells);
  previous = empty_stack s (length program.cells);
  steps = 0;
  tapes = tapes;
}
