use Rattle.std.proofs.lemmas.Str.{IsUtf8-from_ascii}
use Rattle.sil_cards.proofs.reading.file_name.Goals as goal

pub unreachable-requires : goal.unreachable-requires
unreachable-requires c = c.in-Err.ensures.cases.0 (rw c.bytes.ensures (IsUtf8-from_ascii c.args.file.now c.requires))
