-- Programs of one statement without tables or special symbols.
use Rattle.std.specs.Prelude.{ℕ, List, [], ◌∷◌, None, ℤ}
use Rattle.layout_params.specs.declared.cell.Cell.{Cell}
use Rattle.layout_params.specs.declared.cell.Cell.TheVariants.{Descr}
use Rattle.sil_model.specs.declared.program.Program.{Program}
use Rattle.sil_model.specs.declared.program.Specials.{Specials}
use Rattle.sil_model.specs.declared.program.Statement.{Statement}

abbrev pub no_specials : Specials
no_specials = record { over = None; under = None; stype = None; first = None; head = None; tail = None; int_code = None }

-- three descriptors by their A fields
abbrev pub three_cells : ℤ → ℤ → ℤ → List Cell
three_cells a b c = Descr (record { a = a; f = 0; v = 0 }) ∷ Descr (record { a = b; f = 0; v = 0 }) ∷ Descr (record { a = c; f = 0; v = 0 }) ∷ []

-- the statement over these cells, with these texts of formats
abbrev pub only : Statement → List Cell → List (List ℕ) → Program
only statement cells formats = record { statements = statement ∷ []; cells = cells; tables = []; formats = formats; specials = no_specials }
