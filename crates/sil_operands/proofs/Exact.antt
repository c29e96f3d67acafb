-- What the exact answer says of the grammar.
use Rattle.std.proofs.Common.{◌≡◌, ℕ, List, Result, Ok, Err, sym, ◌∙◌}
use Rattle.std.specs.Prelude.{IfOk, IfErr, IsTrue}
use Rattle.std.proofs.lemmas.Option.{none-some}
use Rattle.sil_operands.specs.OperandGrammar.{SpellsOperands}
use Rattle.sil_operands.specs.Limits.{card_limits, are_within_limits}
use Rattle.sil_operands.specs.OperandReading.{Answers, operands_of}
use Rattle.sil_operands.specs.declared.operand.Operand.{Operand}
use Rattle.sil_operands.specs.declared.operand.OperandFault.{OperandFault}
use Rattle.sil_operands.specs.declared.operand.OperandFault.TheVariants.{Bad}
use Rattle.sil_operands.proofs.Sound.{operands_sound}
use Rattle.sil_operands.proofs.Complete.{operands_complete}

pub ok_spelled : (field : List ℕ) (answer : Result (List Operand) OperandFault) → Answers answer (operands_of field) → IfOk answer (λ operands. SpellsOperands field operands × IsTrue (are_within_limits operands))
ok_spelled field (Ok operands) h = operands_sound card_limits field operands h
ok_spelled field (Err e) h = tt

pub bad_unspelled : (field : List ℕ) (answer : Result (List Operand) OperandFault) → Answers answer (operands_of field) → IfErr answer (λ e. e ≡ Bad → (operands : List Operand) → SpellsOperands field operands → ¬ IsTrue (are_within_limits operands))
bad_unspelled field (Ok operands) h = tt
bad_unspelled field (Err e) h = λ bad operands spelled within. none-some operands (sym (h bad) ∙ operands_complete card_limits field operands spelled within)
