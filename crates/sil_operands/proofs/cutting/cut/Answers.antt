use Rattle.std.proofs.Common.{sym}
use Rattle.sil_operands.proofs.Cuts.{parts_whole, parts_cut}
use Rattle.sil_operands.proofs.cutting.cut.Goals as goal

pub returns-in-None-clause-parts : goal.returns-in-None-clause-parts
returns-in-None-clause-parts c = parts_whole c.args.separator c.args.text.now (sym c.in-None.ensures.place)

pub returns-in-Some-clause-parts : goal.returns-in-Some-clause-parts
returns-in-Some-clause-parts c = parts_cut c.args.separator c.args.text.now c.in-Some.at (sym c.in-Some.ensures.place)
