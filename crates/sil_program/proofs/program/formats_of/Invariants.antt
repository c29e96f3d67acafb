use Rattle.std.proofs.Common.{◌≡◌, ◌++◌, drop}
use Rattle.sil_program.specs.Programs.{formats_of}
use Rattle.sil_program.proofs.program.formats_of.Given as goal

abbrev pub invariant-loop-statement : goal.invariant-loop-statement
invariant-loop-statement l = formats_of l.statements ≡ l.formats.items ++ formats_of (drop l.statement-index l.statements)
