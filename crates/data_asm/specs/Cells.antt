-- The static cells of a source.
use Rattle.std.specs.Prelude.{ℕ, ◌+◌, ◌*◌, List, [], ◌∷◌, ◌++◌, length, replicate, Option, ℤ, pos}
use Rattle.layout_params.specs.declared.cell.Cell.{Cell}
use Rattle.layout_params.specs.declared.cell.Cell.TheVariants.{Descr}
use Rattle.layout_params.specs.Parameters.{Parameters}
use Rattle.sil_macros.specs.declared.names.Macro.{Macro}
use Rattle.sil_macros.specs.declared.names.Macro.TheVariants as macros
use Rattle.sil_operands.specs.declared.expr.Term.{Term}
use Rattle.sil_operands.specs.declared.operand.Operand.{Operand}
use Rattle.sil_symbols.specs.declared.stmt.Stmt.{Stmt}
use Rattle.sil_symbols.specs.Symbols.{value_of}
use Rattle.sil_base.specs.declared.places.TheConstants.{FIRST_CELL}
use Rattle.sil_model.specs.Start.{zero_cell}
use Rattle.data_asm.specs.CharacterCells.{text_cells, blank_cells}
use Rattle.data_asm.specs.DataFields.{as_number, value_at, first_text, first_fields, second_fields, descriptor}

-- the specifier of a string of this length, whose characters begin at this address
abbrev pub specifier : ℤ → ℕ → List Cell
specifier at n = Descr (record { a = at; f = 0; v = 0 }) ∷ Descr (record { a = pos 0; f = 0; v = n }) ∷ []

-- the cells of a statement, whose third cell has this address
abbrev pub data_cells : ℕ → (List Term → Option ℤ) → ℤ → Macro → List Operand → List Cell
data_cells size values at macros.Descr operands = descriptor (first_fields values operands) ∷ []
data_cells size values at macros.Spec operands = descriptor (first_fields values operands) ∷ descriptor (second_fields values operands) ∷ []
data_cells size values at macros.Array operands = replicate (as_number (value_at values operands 0)) zero_cell
data_cells size values at macros.Buffer operands = blank_cells size (as_number (value_at values operands 0))
data_cells size values at macros.String operands = specifier at (length (first_text operands)) ++ text_cells size (first_text operands)
data_cells size values at macros.Format operands = text_cells size (first_text operands)
data_cells size values at _ operands = []

-- the cells of a statement before which so many cells stand
abbrev pub cells_of : ℕ → (List Term → Option ℤ) → ℕ → Stmt → List Cell
cells_of size values before s = data_cells size values (pos (FIRST_CELL + (before + 2) * size)) s.name s.operands

-- these cells, and after them those of statements
abbrev pub cells_after : ℕ → (List Term → Option ℤ) → List Cell → List Stmt → List Cell
cells_after size values before [] = before
cells_after size values before (s ∷ source) = cells_after size values (before ++ cells_of size values (length before) s) source

-- the static cells of a source: those of each data statement, in order
unfoldable pub static_cells_of : Parameters → List Stmt → List Cell
static_cells_of p source = cells_after p.settings.sizes.descr (value_of p source) [] source
