use Rattle.std.proofs.Common.{◌≡◌, take, drop}
use Rattle.sil_operands.specs.OperandReading.{operand_parts}
use Rattle.sil_operands.specs.declared.cutting.Place.TheVariants.{Outside}
use Rattle.sil_operands.proofs.Cuts.{before_first_part}
use Rattle.sil_operands.proofs.cutting.index_of_separator.Given as goal

abbrev pub invariant-loop-i : goal.invariant-loop-i
invariant-loop-i l = operand_parts Outside l.field ≡ before_first_part (take l.i l.field) (operand_parts l.place (drop l.i l.field))
