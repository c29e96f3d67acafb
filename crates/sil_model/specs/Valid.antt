-- States that a run can come to.
use Rattle.std.specs.Prelude.{◌≡◌, ℕ, ◌+◌, ◌*◌, ◌≤◌, length, All, ℤ, pos, ◌+ℤ◌}
use Rattle.sil_base.specs.declared.limits.TheConstants.{MAX_STEPS}
use Rattle.layout_params.specs.Parameters.{Settings}
use Rattle.sil_model.specs.declared.program.Program.{Program}
use Rattle.sil_model.specs.Memory.{IsMemory}
use Rattle.sil_model.specs.States.{State}
use Rattle.layout_params.specs.Areas.{all_cells, empty_stack}
use Rattle.sil_model.specs.Start.{limits_of}
use Rattle.sil_model.specs.WellFormed.{IsTable}

-- the top of a stack that holds from none to all of its cells
abbrev pub IsTop : Settings → ℕ → ℤ → Type 0
IsTop settings statics at = (i : ℕ) × (i ≤ settings.stack_size) × (at ≡ empty_stack settings statics +ℤ pos (i * settings.sizes.descr))

pub record IsValid (program : Program) (settings : Settings) (s : State) : Type 0 where
  pub within : s.statement ≤ length program.statements
  pub memory : IsMemory s.memory
  pub limits : s.memory.limits ≡ limits_of settings
  pub cells : length s.memory.cells ≡ all_cells settings (length program.cells)
  pub table_count : length s.tables ≡ length program.tables
  pub tables : All (IsTable (length program.tables)) s.tables
  pub current : IsTop settings (length program.cells) s.current
  pub previous : IsTop settings (length program.cells) s.previous
  pub steps : s.steps ≤ MAX_STEPS
