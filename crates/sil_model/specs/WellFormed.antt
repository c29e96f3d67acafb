-- Programs that a checked source gives.
use Rattle.std.specs.Prelude.{◌≡◌, ℕ, ◌^◌, ◌<◌, ◌≤◌, length, All, sum_by, Option, IfSome, ℤ, FitsSigned, true}
use Rattle.std.specs.Int.{w64}
use Rattle.layout_params.specs.Parameters.{Settings, AreLegalSettings}
use Rattle.layout_params.specs.Sizes.{value_limit}
use Rattle.sil_format.specs.FormatGrammar.{IsFormat}
use Rattle.sil_model.specs.declared.program.Program.{Program}
use Rattle.sil_model.specs.declared.table.Action.{Action}
use Rattle.sil_model.specs.declared.table.Action.TheVariants.{Goto}
use Rattle.sil_model.specs.declared.table.Entry.{Entry}
use Rattle.sil_model.specs.declared.table.Table.{Table}
use Rattle.sil_model.specs.Fits.{bounds_of, FitsRow, IsStatement}
use Rattle.sil_model.specs.Memory.{FitsCell}
use Rattle.sil_model.specs.Needs.{has_needed}
use Rattle.sil_model.specs.Start.{limits_of}
use Rattle.layout_params.specs.Areas.{all_cells}

-- the next table, where there is one, is one of so many
abbrev pub GoesWithin : ℕ → Action → Type 0
GoesWithin count (Goto next) = next < count
GoesWithin count _ = Unit {0}

-- a number of 64 bits, where there is one
abbrev pub FitsOption : Option ℤ → Type 0
FitsOption o = IfSome o (FitsSigned w64)

pub record IsEntry (count : ℕ) (entry : Entry) : Type 0 where
  pub within : GoesWithin count entry.action
  pub put : FitsOption entry.put

pub record IsTable (count : ℕ) (table : Table) : Type 0 where
  pub size : length table.entries ≡ 256
  pub entries : All (IsEntry count) table.entries

-- OVER and INTR10 are statements, the places are numbers of 64 bits, and a V field can hold I
pub record AreSpecials (program : Program) (settings : Settings) : Type 0 where
  pub over : IsStatement (bounds_of program settings) program.specials.over
  pub under : IsStatement (bounds_of program settings) program.specials.under
  pub stype : FitsOption program.specials.stype
  pub first : FitsOption program.specials.first
  pub head : FitsOption program.specials.head
  pub tail : FitsOption program.specials.tail
  pub int_code : IfSome program.specials.int_code (λ v. v ≤ value_limit settings.sizes)
  pub needed : All (λ s. has_needed program.specials s.name ≡ true) program.statements

-- at most 16,384 statements that fit their rows, 1,048,576 cells in all, 256 tables, and texts that are formats, of at most 256 bytes each and 2,097,152 together
pub record IsWellFormed (program : Program) (settings : Settings) : Type 0 where
  pub legal : AreLegalSettings settings
  pub statements : length program.statements ≤ 2 ^ 14
  pub rows : All (FitsRow (bounds_of program settings)) program.statements
  pub cells : All (FitsCell (limits_of settings)) program.cells
  pub cell_count : all_cells settings (length program.cells) ≤ 2 ^ 20
  pub table_count : length program.tables ≤ 256
  pub tables : All (IsTable (length program.tables)) program.tables
  pub formats : All IsFormat program.formats
  pub format_lengths : All (λ text. length text ≤ 256) program.formats
  pub format_bytes : sum_by length program.formats ≤ 2097152
  pub specials : AreSpecials program settings
