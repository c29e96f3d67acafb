use Rattle.std.proofs.Common.{sym}
use Rattle.sil_operands.proofs.Cuts.{signs_whole, signs_cut}
use Rattle.sil_operands.proofs.cutting.cut_sign.Goals as goal

pub returns-in-None-clause-parts : goal.returns-in-None-clause-parts
returns-in-None-clause-parts c minus = signs_whole minus c.args.text.now (sym c.in-None.ensures)

pub returns-in-Some-clause-parts : goal.returns-in-Some-clause-parts
returns-in-Some-clause-parts c minus = signs_cut minus c.args.text.now c.in-Some.at (sym c.in-Some.ensures)
