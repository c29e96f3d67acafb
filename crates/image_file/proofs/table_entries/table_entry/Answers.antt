use Rattle.std.proofs.Common.{◌∙◌, refl}
use Rattle.image_file.proofs.table_entries.table_entry.Goals as goal

pub returns : goal.returns
returns c =
    let a = c.copy_from_slice.ensures.after ∙ c.bytes_8.ensures in
    let b = c.copy_from_slice-2.ensures.after ∙ c.bytes_8-2.ensures in
    let d = c.copy_from_slice-3.ensures.after ∙ c.bytes_16.ensures in
    let e = c.copy_from_slice-4.ensures.after ∙ c.bytes_64.ensures in
    rw (a, b, d, e) refl
