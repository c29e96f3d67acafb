use Rattle.std.proofs.Common.{◌≡◌, codes, rules}
use Rattle.command_report.specs.Noted.{finish_lines}
use Rattle.command_report.proofs.notes.note_finishes.Goals as goal

pub returns : goal.returns
returns g c =
    let lines : finish_lines c.args.failed ≡ codes "finish fault\n" = search rules in
    rw lines c.note.ensures
