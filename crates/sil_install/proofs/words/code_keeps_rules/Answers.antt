use Rattle.std.proofs.Common.{sym, ◌∙◌}
use Rattle.sil_install.proofs.words.code_keeps_rules.Goals as goal

pub returns : goal.returns
returns c = record { rules = c.ops.ensures.rules; room = c.ops.ensures.count; returns = sym c.statements.ensures.returns ∙ c.statements.ensures.value }
