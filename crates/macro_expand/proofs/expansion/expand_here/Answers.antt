use Rattle.std.proofs.lemmas.Result.{on_ok_weaker}
use Rattle.exp_units.proofs.FormatTexts.{expands_in}
use Rattle.macro_expand.proofs.expansion.expand_here.Goals as goal

pub returns-else-is_output : goal.returns-else-is_output
returns-else-is_output c = on_ok_weaker _ (expands_in _ _ _ _ _ _ _ _) c.expand_alone.ensures
