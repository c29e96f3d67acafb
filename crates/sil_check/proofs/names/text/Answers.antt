use Rattle.sil_check.proofs.names.text.Goals as goal

pub unreachable-requires : goal.unreachable-requires
unreachable-requires c = c.in-Err.ensures.cases.0 (rw c.bytes.ensures c.requires)
