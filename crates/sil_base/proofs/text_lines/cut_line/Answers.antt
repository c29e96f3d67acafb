use Rattle.std.proofs.Common.{sym, arith}
use Rattle.std.proofs.lemmas.Bool.Decides.{nat_tests}
use Rattle.sil_base.proofs.LineLemmas.{first_line, last_line}
use Rattle.sil_base.proofs.text_lines.cut_line.Goals as goal

pub returns-in-Some-clause-lines : goal.returns-in-Some-clause-lines
returns-in-Some-clause-lines c = first_line c.args.text.now c.in-Some.at (sym c.in-Some.ensures.place)

pub returns-in-None-clause-lines : goal.returns-in-None-clause-lines
returns-in-None-clause-lines c = last_line c.args.text.now (grind (arith, nat_tests)) (sym c.in-None.ensures.place)
