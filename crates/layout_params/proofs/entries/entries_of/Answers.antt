use Rattle.std.proofs.Common.{◌≡◌, ◌∙◌, ◌+◌, ◌++◌, true, sym, ap, arith, drop, List}
use Rattle.layout_params.specs.ParameterLines.{Entry, entries_from}
use Rattle.layout_params.specs.ParameterFaults.{name_fault, is_new_name}
use Rattle.sil_base.specs.Names.{texts_of}
use Rattle.layout_params.specs.HeldEntries.{entries_held, entry_held, parts_held}
use Rattle.layout_params.proofs.EntryLemmas.{entries_take, entries_held-push, entries_more, name_fault-new}
use Rattle.layout_params.proofs.entries.entries_of.Goals as goal

pub loop-index-preserved : goal.loop-index-preserved
loop-index-preserved c =
    let lines = c.args.lines.now in
    let i = c.loop-index.index in
    let name = c.in-Some.name in
    let value = c.in-Some.value in
    let next = entries_from (i + 1 + 1) (texts_of (drop (i + 1) lines)) in
    let rest = entries_take lines (i + 1) i _ (parts_held (name, value)) c.loop-index-test.true c.in-Some.ensures in
    let e : Entry = entry_held (record { line = i + 1; name = name; value = value }) in
    let pushed = entries_held-push c.push.new.self.items c.loop-index.entries.items (record { line = i + 1; name = name; value = value }) c.in_ok-push.ensures.items in
    let new : is_new_name (entries_held c.loop-index.entries.items) name.now ≡ true = grind (arith, c.is_new_name.ensures, c.deref.ensures.value, c.if-not-is_new_name.false) in
    record {
      entries = entries_more _ (entries_held c.loop-index.entries.items) _ next e c.loop-index.invariant.entries rest ∙ ap (λ (es : List Entry). es ++ next) (sym pushed);
      names = c.loop-index.invariant.names ∙ name_fault-new (entries_held c.loop-index.entries.items) _ next e rest new ∙ ap (λ (es : List Entry). name_fault es next) (sym pushed);
    }
