-- The areas of memory: the static cells, then the hidden buffer, the dynamic storage and the stack.
use Rattle.std.specs.Prelude.{ℕ, ◌+◌, ◌-◌, ◌*◌, ◌/◌, ℤ, pos}
use Rattle.sil_base.specs.declared.places.TheConstants.{FIRST_CELL}
use Rattle.layout_params.specs.Parameters.{Settings}

-- the cells of the hidden buffer, which holds 20 characters
abbrev pub hidden_cells : Settings → ℕ
hidden_cells s = (20 + s.sizes.descr - 1) / s.sizes.descr

-- the cells after the static ones
abbrev pub blank_cells : Settings → ℕ
blank_cells s = hidden_cells s + s.dynamic_size + s.stack_size

-- the number of all cells, by the number of the static ones
abbrev pub all_cells : Settings → ℕ → ℕ
all_cells s statics = statics + blank_cells s

-- the address of the cell before the stack
abbrev pub empty_stack : Settings → ℕ → ℤ
empty_stack s statics = pos (FIRST_CELL + (statics + hidden_cells s + s.dynamic_size) * s.sizes.descr - s.sizes.descr)
