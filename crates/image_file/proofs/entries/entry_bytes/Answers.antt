use Rattle.std.proofs.Common.{◌∙◌, refl}
use Rattle.image_file.specs.Spelling.{entry_part}
use Rattle.image_file.proofs.entries.entry_bytes.Goals as goal

pub returns : goal.returns
unfolding entry_part
returns c =
    let a = c.copy_from_slice.ensures.after ∙ c.bytes_64.ensures in
    let b = c.copy_from_slice-2.ensures.after ∙ c.bytes_32.ensures in
    let d = c.copy_from_slice-3.ensures.after ∙ c.bytes_16.ensures in
    let n = c.number_of_macro.ensures in
    rw (a, b, d, n) refl
