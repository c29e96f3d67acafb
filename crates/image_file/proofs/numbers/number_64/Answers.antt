use Rattle.std.proofs.Common.{◌∙◌}
use Rattle.image_file.proofs.ByteNumbers.{little_number-number}
use Rattle.image_file.proofs.numbers.number_64.Goals as goal

pub returns : goal.returns
returns c = c.read_u64.ensures ∙ little_number-number 8 c.args.bytes.now c.requires
