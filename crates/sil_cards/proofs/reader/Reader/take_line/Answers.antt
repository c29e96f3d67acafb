use Rattle.std.proofs.Common.{◌≡◌, ◌≤◌, length, ap, subst, sym, ◌∙◌}
use Rattle.sil_base.specs.Lines.{without_end}
use Rattle.sil_cards.specs.Readings.{is_full}
use Rattle.sil_cards.specs.CardVerdicts.{is_end, verdict}
use Rattle.sil_cards.proofs.FieldLemmas.{ended_within}
use Rattle.sil_cards.proofs.CardLemmas.{Gives, ends_line, goes_line, goes_either, taken_within}
use Rattle.sil_cards.proofs.ReadLemmas.{step_copies}
use Rattle.sil_cards.proofs.reader.Reader.take_line.Goals as goal
use Rattle.sil_cards.proofs.reader.Reader.take_line.Goals.{In_ok-note}

gives : (c : In_ok-note) → Gives c.args.self.now c.note.new.self c.args.deeper (length c.args.line.now) c.without_end-text.result.now c.limited-verdict.result
gives c =
    let n = c.in_ok-note.ensures.numbers in
    let cards = c.in_ok-note.ensures.cards in
    let faults = c.in_ok-note.ensures.faults in
    let v = c.limited-verdict.ensures in
    let full = c.is_full-full.ensures in
    let judged = c.in_ok-verdict.ensures.verdict in
    let within : length c.without_end-text.result.now ≤ length c.args.line.now = subst (λ text. length text ≤ length c.args.line.now) (sym c.without_end-text.ensures) (ended_within c.args.line.now) in
    record { within = within; verdict = cc; number = n.0; bytes = n.1; cards = cards; faults = faults }

pub note-requires : goal.note-requires
note-requires c = λ taken.
    c.in_ok-verdict.ensures.contents (taken_within c.is_full-full.result _ (sym c.limited-verdict.ensures ∙ taken))

pub returns-then-is_last-clause-keeps : goal.returns-then-is_last-clause-keeps
returns-then-is_last-clause-keeps c =
    let g = gives (goal.at.returns-then-is_last-clause-keeps c).In_ok-note in
    ends_line c.args.self.now c.note.new.self c.args.deeper (length c.args.line.now) c.without_end-text.result.now c.limited-verdict.result c.requires.going g cc

pub returns-clause-keeps : goal.returns-clause-keeps
returns-clause-keeps c =
    let g = gives (goal.at.returns-clause-keeps c).In_ok-note in
    rw c.step_of.ensures
    (goes_line c.args.self.now c.note.new.self c.args.deeper (length c.args.line.now) c.without_end-text.result.now c.limited-verdict.result c.requires.going g cc)

pub returns-clause-copies : goal.returns-clause-copies
returns-clause-copies c =
    let g = gives (goal.at.returns-clause-copies c).In_ok-note in
    let last = c.is_last.ensures in
    let not_last = goes_either (is_full c.note.new.self.number c.note.new.self.bytes) (is_end c.without_end-text.result.now) cc in
    let same : c.limited-verdict.result ≡ verdict c.args.deeper (without_end c.args.line.now) = rw not_last.0 at g.verdict ∙ ap (verdict c.args.deeper) c.without_end-text.ensures in
    rw c.step_of.ensures (step_copies c.limited-verdict.result c.args.deeper c.args.line.now same)
