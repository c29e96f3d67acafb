use Rattle.std.proofs.Common.{◌∙◌, ◌≤◌, ◌<◌, length}
use Rattle.rv_emulate.proofs.LittleNumbers.{number_8}
use Rattle.rv_emulate.proofs.bytes.number_of.Goals as goal

pub returns-in-len8-clause-same : goal.returns-in-len8-clause-same
returns-in-len8-clause-same c =
    let p : 8 ≤ length c.args.bytes.now = c.in-len8.len_at_least in
    let q : length c.args.bytes.now < 9 = c.in-len8.len_below in
    c.from_le_bytes-in-len8.ensures ∙ number_8 c.args.bytes.now p q
