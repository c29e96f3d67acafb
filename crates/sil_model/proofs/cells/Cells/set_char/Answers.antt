use Rattle.std.proofs.Common.{rules}
use Rattle.sil_model.proofs.Characters.{character_fits}
use Rattle.sil_model.proofs.cells.Cells.set_char.Goals as goal

-- src/cells.rt
pub put-requires-clause-fits : goal.put-requires-clause-fits
put-requires-clause-fits c = rw c.with_char.ensures (character_fits c.args.self.now.limits c.in_ok-cell.cell c.in_ok-number.offset c.args.value c.byte_place.ensures.limits c.in_ok-cell.ensures.fits (search rules) (search rules))
