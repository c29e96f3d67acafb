use Rattle.std.proofs.Common.{append_assoc}
use Rattle.image_file.specs.Spelling.{numbers_in, settings_part}
use Rattle.image_file.proofs.writing.put_settings.Goals as goal

pub returns : goal.returns
unfolding settings_part
returns c =
    let numbers = c.in_ok-put_all_64.ensures in
    let whole = c.in_ok-extend_from_slice.ensures.items in
    let parts = append_assoc c.args.out.now.items (numbers_in 8 c.parameters.result) c.date.result in
    cc
