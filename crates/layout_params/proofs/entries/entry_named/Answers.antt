use Rattle.std.proofs.Common.{◌∙◌, sym}
use Rattle.layout_params.proofs.EntryLemmas.{named_here, named_later, named_nowhere}
use Rattle.layout_params.proofs.entries.entry_named.Goals as goal

pub returns-then-eq : goal.returns-then-eq
returns-then-eq c = sym (c.loop-entry.invariant ∙ named_here c.args.entries.now c.args.name.now c.loop-entry.entry-index _ c.loop-entry-test.true (sym c.eq.ensures ∙ c.if-eq.true))

pub returns : goal.returns
returns c = sym (c.loop-entry.invariant ∙ named_nowhere c.args.entries.now c.args.name.now c.loop-entry.entry-index c.loop-entry-test.false)

pub loop-entry-preserved : goal.loop-entry-preserved
loop-entry-preserved c = c.loop-entry.invariant ∙ named_later c.args.entries.now c.args.name.now c.loop-entry.entry-index _ c.loop-entry-test.true (sym c.eq.ensures ∙ c.if-eq.false)
