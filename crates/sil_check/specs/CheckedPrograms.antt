-- Programs that were checked, and the parameters that they were checked with.
use Rattle.layout_params.specs.Parameters.{Parameters}
use Rattle.sil_model.specs.declared.program.Program.{Program}
use Rattle.sil_model.specs.WellFormed.{IsWellFormed}
use Rattle.sil_program.specs.Built.{AreBuilt}

-- a program and its parameters
pub record Job : Type 0 where
  pub program : Program
  pub parameters : Parameters

-- the program is well formed, and of macros that are installed so far
pub record IsChecked (job : Job) : Type 0 where
  pub well_formed : IsWellFormed job.program job.parameters.settings
  pub built : AreBuilt job.program
