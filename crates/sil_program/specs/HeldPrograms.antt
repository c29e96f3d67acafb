-- Programs that the code makes.
use Rattle.std.specs.Prelude.{◌≡◌, ℕ, ◌≤◌, List, [], length, All, Some, true}
use Rattle.std.specs.List.{list_all, sum_by}
use Rattle.layout_params.specs.declared.cell.Cell.{Cell}
use Rattle.layout_params.specs.Parameters.{Parameters, AreLegal}
use Rattle.sil_operands.specs.Limits.{are_within_limits}
use Rattle.sil_symbols.specs.declared.stmt.Stmt.{Stmt}
use Rattle.sil_symbols.specs.Symbols.{extent, IsWithinLimits}
use Rattle.data_asm.specs.DataFaults.{is_formatted}
use Rattle.data_asm.specs.DataFields.{first_text}
use Rattle.sil_model.specs.declared.program.Program.{Program}
use Rattle.sil_model.specs.declared.program.Specials.{Specials}
use Rattle.sil_model.specs.Memory.{FitsCell}
use Rattle.sil_model.specs.Start.{limits_of}
use Rattle.sil_model.specs.WellFormed.{FitsOption, IsTable}
use Rattle.syntax_tables.specs.declared.saying.Said.{Said}
use Rattle.syntax_tables.specs.TableFiles.{names_in}
use Rattle.sil_base.specs.declared.limits.TheConstants.{MAX_FILE_BYTES, MAX_TABLES}
use Rattle.sil_program.specs.Programs.{program_over}
use Rattle.sil_program.specs.Specials.{special_faults}
use Rattle.sil_program.specs.Verdicts.{is_built_source}

-- each list that is an operand has at most 40 items
abbrev pub HaveShortLists : List Stmt → Type 0
HaveShortLists source = All (λ s. are_within_limits s.operands ≡ true) source

-- the text of a statement has at most so many bytes as a card may have
abbrev pub IsShortText : Stmt → Type 0
IsShortText s = length (first_text s.operands) ≤ 256

-- the bytes of the texts of all statements
abbrev pub text_bytes : List Stmt → ℕ
text_bytes source = sum_by (λ s. length (first_text s.operands)) source

-- texts that stand on cards
pub record HaveShortTexts (source : List Stmt) : Type 0 where
  pub each : All IsShortText source
  pub together : text_bytes source ≤ MAX_FILE_BYTES

-- each place that is a special symbol has 64 bits
pub record HasFitPlaces (specials : Specials) : Type 0 where
  pub stype : FitsOption specials.stype
  pub first : FitsOption specials.first
  pub head : FitsOption specials.head
  pub tail : FitsOption specials.tail

-- a program that was made of a source and of the lines of a tables file, over these cells
pub record IsMadeOf (p : Parameters) (source : List Stmt) (lines : List Said) (cells : List Cell) (program : Program) : Type 0 where
  pub legal : AreLegal p
  pub built : is_built_source source ≡ true
  pub needs : special_faults p source ≡ []
  pub cells_are : program.cells ≡ cells
  pub tables : All (IsTable (length program.tables)) program.tables
  pub named : length program.tables ≡ length (names_in lines)
  pub table_count : length program.tables ≤ MAX_TABLES
  pub specials : HasFitPlaces program.specials
  pub made : program_over p source lines cells ≡ Some program

-- the program of a source and of a tables file that were checked
pub record IsProgramOf (p : Parameters) (source : List Stmt) (program : Program) : Type 0 where
  pub lines : List Said
  pub made : IsMadeOf p source lines program.cells program
  pub lists : HaveShortLists source
  pub texts : HaveShortTexts source
  pub formatted : list_all is_formatted source ≡ true
  pub limits : IsWithinLimits p source
  pub fit : All (FitsCell (limits_of p.settings)) program.cells
  pub count : length program.cells ≡ (extent p source).cells
