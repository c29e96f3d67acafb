use Rattle.std.proofs.Common.{◌≡◌, [], ◌∷◌, ap, ◌∙◌}
use Rattle.rows_macros.proofs.OneStatement.{one_format}
use Rattle.rows_macros.proofs.one_statement.printing.Goals as goal

pub only-requires-clause-fits : goal.only-requires-clause-fits
only-requires-clause-fits c bounds is =
    let same : c.in_ok-formats.formats.items ≡ c.args.text.now ∷ [] = c.in_ok-formats.ensures.items ∙ ap (λ t. t ∷ []) c.in_ok-of.ensures in
    c.in_ok-statement.ensures.fits bounds (is ∙ same)

pub only-requires-clause-formats : goal.only-requires-clause-formats
only-requires-clause-formats c =
    let same : c.in_ok-formats.formats.items ≡ c.args.text.now ∷ [] = c.in_ok-formats.ensures.items ∙ ap (λ t. t ∷ []) c.in_ok-of.ensures in
    rw same (one_format c.args.text.now (c.in_ok-read_format.field-0, c.in_ok-read_format.ensures.ok))
