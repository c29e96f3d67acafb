use Rattle.std.proofs.Common.{◌≡◌, ◌∙◌, None, sym, arith}
use Rattle.layout_params.specs.Views.{sizes_of}
use Rattle.layout_params.specs.Entries.{line_named}
use Rattle.layout_params.specs.HeldEntries.{entries_held}
use Rattle.layout_params.proofs.LegalLemmas.{layout_kept}
use Rattle.layout_params.proofs.faults.value_fault.Goals as goal

pub flag_fault-flags-requires : goal.flag_fault-flags-requires
flag_fault-flags-requires c =
    let none : c.layout_fault-layout.result ≡ None = grind (arith, c.is_some.ensures, c.if-is_some.false) in
    (layout_kept (line_named (entries_held c.args.entries.now)) (sizes_of c.args.draft.now.sizes) (sym c.layout_fault-layout.ensures ∙ none)).f_width
