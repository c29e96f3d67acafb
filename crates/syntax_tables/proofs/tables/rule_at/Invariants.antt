use Rattle.std.proofs.Common.{◌≡◌, drop}
use Rattle.syntax_tables.specs.Tables.{rule_at}
use Rattle.syntax_tables.proofs.tables.rule_at.Given as goal

abbrev pub invariant-loop-said : goal.invariant-loop-said
invariant-loop-said l = rule_at l.c l.lines ≡ rule_at l.c (drop l.said-index l.lines)
