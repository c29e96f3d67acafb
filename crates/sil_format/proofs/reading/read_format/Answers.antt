use Rattle.std.proofs.Common.{ℕ, List, subst}
use Rattle.sil_format.specs.FormatReading.{Answers, opened}
use Rattle.sil_format.proofs.Exact.{ok_spelled, bad_unspelled}
use Rattle.sil_format.proofs.reading.read_format.Goals as goal

pub returns-clause-ok : goal.returns-clause-ok
returns-clause-ok c =
    ok_spelled c.args.bytes.now c.opened.result
    (subst (λ (text : List ℕ). Answers c.opened.result (opened text)) c.skip_blanks.ensures.rest c.opened.ensures)

pub returns-clause-bad : goal.returns-clause-bad
returns-clause-bad c =
    bad_unspelled c.args.bytes.now c.opened.result
    (subst (λ (text : List ℕ). Answers c.opened.result (opened text)) c.skip_blanks.ensures.rest c.opened.ensures)
