use Rattle.std.proofs.Common.{◌≡◌, drop}
use Rattle.sil_arguments.specs.HeldScopes.{scope_in}
use Rattle.sil_arguments.specs.MadeArguments.{args_of}
use Rattle.sil_arguments.proofs.Made.{after}
use Rattle.sil_arguments.proofs.arguments.args_of.Given as goal

abbrev pub invariant-loop-place : goal.invariant-loop-place
invariant-loop-place l =
    let scope = scope_in l.bound in
    args_of scope l.places l.initial.rest ≡ after l.args.items (args_of scope (drop l.place-index l.places) l.rest)
