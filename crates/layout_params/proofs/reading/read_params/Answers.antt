use Rattle.std.proofs.Common.{sym}
use Rattle.layout_params.specs.Entries.{line_named}
use Rattle.layout_params.specs.HeldEntries.{entries_held, drafted}
use Rattle.layout_params.proofs.LegalLemmas.{faultless_legal}
use Rattle.layout_params.proofs.reading.read_params.Goals as goal

pub params_of-requires : goal.params_of-requires
params_of-requires c =
    faultless_legal (line_named (entries_held c.deref-5.result.now)) (drafted c.draft_of-draft.result) (sym c.in_default-value_fault.ensures)
