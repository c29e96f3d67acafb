use Rattle.std.proofs.Common.{◌≡◌, false, take, drop}
use Rattle.syntax_tables.specs.TableTexts.{open_parts}
use Rattle.syntax_tables.proofs.Cuts.{before_first_part}
use Rattle.syntax_tables.proofs.cutting.index_of_open.Given as goal

abbrev pub invariant-loop-i : goal.invariant-loop-i
invariant-loop-i l = open_parts l.separator false l.text ≡ before_first_part (take l.i l.text) (open_parts l.separator l.quoted (drop l.i l.text))
