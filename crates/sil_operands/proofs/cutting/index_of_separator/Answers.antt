use Rattle.std.proofs.Common.{sym}
use Rattle.sil_operands.specs.declared.cutting.Place.TheVariants.{Outside}
use Rattle.sil_operands.proofs.Cuts.{before-nil}
use Rattle.sil_operands.proofs.cutting.index_of_separator.Goals as goal

pub loop-i-init : goal.loop-i-init
loop-i-init c = sym (before-nil Outside c.args.field.now)
