use Rattle.std.proofs.Common.{sym, false}
use Rattle.syntax_tables.proofs.Cuts.{before-nil}
use Rattle.syntax_tables.proofs.cutting.index_of_open.Goals as goal

pub loop-i-init : goal.loop-i-init
loop-i-init c = sym (before-nil c.args.separator false c.args.text.now)
