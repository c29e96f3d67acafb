use Rattle.std.proofs.Common.{◌∙◌, ap, sym, slice_get}
use Rattle.std.specs.Option.{option_map}
use Rattle.std.proofs.lemmas.Option.{slice_get-map}
use Rattle.image_file.specs.Image.{Image, entry_of}
use Rattle.image_file.proofs.image.Image.statement.Goals as goal

pub returns-clause-entry : goal.returns-clause-entry
returns-clause-entry c =
    let items = c.self.inside.statements.items in
    ap (option_map entry_of) (c.nth.ensures ∙ ap (λ xs. slice_get xs c.args.k) c.deref.ensures.value)
    ∙ sym (slice_get-map entry_of items c.args.k)
    ∙ ap (λ (i : Image). slice_get i.statements c.args.k) c.self.view_is
