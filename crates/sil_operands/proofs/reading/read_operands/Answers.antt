use Rattle.std.proofs.Common.{ℕ, List, subst}
use Rattle.sil_operands.specs.Limits.{card_limits}
use Rattle.sil_operands.specs.OperandReading.{Answers, each, operand_in, operand_parts}
use Rattle.sil_operands.specs.declared.cutting.Place.TheVariants.{Outside}
use Rattle.sil_operands.proofs.Exact.{ok_spelled, bad_unspelled}
use Rattle.sil_operands.proofs.reading.read_operands.Goals as goal

pub returns-clause-ok : goal.returns-clause-ok
returns-clause-ok c =
    ok_spelled c.args.field.now c.read_each_operand.result
    (subst (λ (text : List ℕ). Answers c.read_each_operand.result (each (operand_in card_limits) (operand_parts Outside text))) c.field_text.ensures c.read_each_operand.ensures)

pub returns-clause-bad : goal.returns-clause-bad
returns-clause-bad c =
    bad_unspelled c.args.field.now c.read_each_operand.result
    (subst (λ (text : List ℕ). Answers c.read_each_operand.result (each (operand_in card_limits) (operand_parts Outside text))) c.field_text.ensures c.read_each_operand.ensures)
