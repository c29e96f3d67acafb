use Rattle.std.proofs.Common.{◌≡◌, drop}
use Rattle.sil_program.specs.Programs.{machine_statements}
use Rattle.sil_arguments.specs.HeldScopes.{scope_in}
use Rattle.sil_arguments.proofs.Made.{after}
use Rattle.sil_program.proofs.program.machine_statements.Given as goal

abbrev pub invariant-loop-statement : goal.invariant-loop-statement
invariant-loop-statement l =
    let scope = scope_in l.bound in
    machine_statements scope l.bound.source.statements.now
    ≡ after l.made.items (machine_statements scope (drop l.statement-index l.bound.source.statements.now))
