use Rattle.rows_macros.proofs.one_statement.moving.Goals as goal

pub only-requires-clause-fits : goal.only-requires-clause-fits
only-requires-clause-fits c bounds is = c.in_ok-statement.ensures.fits bounds
