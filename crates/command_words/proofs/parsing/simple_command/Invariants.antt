use Rattle.std.proofs.Common.{◌≡◌, take, fold}
use Rattle.clap.specs.Simple.{app_of, new_app}
use Rattle.command_words.specs.ClapCommands.{with_argument}
use Rattle.command_words.proofs.parsing.simple_command.Given as goal

abbrev pub invariant-loop-argument : goal.invariant-loop-argument
invariant-loop-argument l =
    app_of l.command ≡ fold (λ app argument. with_argument app argument.now) (new_app l.name) (take l.argument-index l.arguments)
