use Rattle.std.proofs.Common.{length}
use Rattle.data_asm.proofs.TextLemmas.{zeros_after}
use Rattle.data_asm.proofs.texts.characters.Goals as goal

pub returns : goal.returns
returns c =
    let rest = zeros_after (length c.args.text.now) in
    let text = c.copy_from_slice.ensures.after in
    cc
