use Rattle.std.proofs.Common.{◌∙◌, map, sym}
use Rattle.std.specs.String.{string_bytes}
use Rattle.command_words.proofs.Taken.{follow_taken, made_takes}
use Rattle.command_words.proofs.parsing.takes.Goals as goal

pub returns-in-Ok : goal.returns-in-Ok
returns-in-Ok c = sym (follow_taken c.args.name (map string_bytes c.args.words.now) c.requires)

pub returns : goal.returns
returns c =
    let taken = made_takes c.args.name (map string_bytes c.args.words.now) _ _ _ c.in_ok-command.ensures c.word.ensures c.arguments.ensures c.requires in
    let memory = c.in-Err.ensures.passes taken in
    absurd (c.in_default.not-OutOfMemory (c.kind.ensures ∙ memory))
