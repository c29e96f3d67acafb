-- What a statement sees beside the state.
use Rattle.std.specs.Prelude.{ℕ, List}
use Rattle.layout_params.specs.Parameters.{Parameters}
use Rattle.sil_model.specs.declared.program.Arg.{Arg}
use Rattle.sil_model.specs.declared.program.Program.{Program}
use Rattle.sil_model.specs.declared.program.Statement.{Statement}

-- the program, the parameters, the number of the statement and its operands
pub record Site : Type 0 where
  pub program : Program
  pub parameters : Parameters
  pub statement : ℕ
  pub args : List Arg

abbrev pub site_of : Program → Parameters → ℕ → Statement → Site
site_of program parameters k statement = record { program = program; parameters = parameters; statement = k; args = statement.args }
