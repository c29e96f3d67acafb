use Rattle.std.proofs.Common.{◌-◌, ◌/◌, ap, ◌∙◌}
use Rattle.std.specs.Prelude.{slice_get}
use Rattle.sil_base.specs.declared.places.TheConstants.{FIRST_WORD}
use Rattle.rv_emulate.proofs.FlatLaws.{at_place, got}
use Rattle.rv_emulate.proofs.step.fetch.Goals as goal

pub returns-then-pc-ge-FIRST_WORD-clause-same : goal.returns-then-pc-ge-FIRST_WORD-clause-same
returns-then-pc-ge-FIRST_WORD-clause-same c =
    at_place c.args.code.now.flats.items c.args.pc c.copied.result c.if-pc-eq0.true c.if-pc-ge-FIRST_WORD.true
    (c.copied.ensures ∙ got _ _ c.get.result c.get.ensures.lookup ∙ ap (λ xs. slice_get xs ((c.args.pc - FIRST_WORD) / 4)) c.deref.ensures.value)
