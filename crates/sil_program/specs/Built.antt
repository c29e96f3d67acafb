-- What is installed so far. This goes once the rest is built.
use Rattle.std.specs.Prelude.{◌≡◌, Bool, true, ◌==◌, All}
use Rattle.std.specs.List.{list_any}
use Rattle.sil_macros.specs.declared.names.Macro.{Macro}
use Rattle.sil_macros.specs.Macros.{number_of}
use Rattle.sil_program.specs.declared.built.TheConstants.{BUILT}
use Rattle.sil_model.specs.declared.program.Program.{Program}

-- the macro is one of those that are installed
unfoldable pub is_built : Macro → Bool
is_built name = list_any (λ m. number_of m == number_of name) BUILT

-- all statements are of such macros
abbrev pub AreBuilt : Program → Type 0
AreBuilt program = All (λ statement. is_built statement.name ≡ true) program.statements
