-- What the fields of a card say.
use Rattle.std.specs.Prelude.{◌≡◌, ℕ, List, [], codes, unwrap_or, if◌then◌else◌}
use Rattle.sil_base.specs.Names.{is_word}
use Rattle.sil_macros.specs.declared.names.Macro.{Macro}
use Rattle.sil_macros.specs.declared.names.Macro.TheVariants as macros
use Rattle.sil_macros.specs.Macros.{with_name}
use Rattle.sil_operands.specs.declared.operand.Operand.{Operand}
use Rattle.sil_operands.specs.OperandReading.{operands_of}

-- the macro of an operation, which is the name of one in every card that is read
unfoldable pub operation_of : List ℕ → Macro
operation_of operation = unwrap_or (with_name operation) macros.End

-- the operands of a field, which is in the grammar in every card that is read; the field of END isn't read
unfoldable pub operands_at : List ℕ → List ℕ → List Operand
operands_at operation field = if is_word operation (codes "END") then [] else unwrap_or (operands_of field) []

-- the macro and the operands are those of these fields
abbrev pub AreContents : Macro → List Operand → List ℕ → List ℕ → Type 0
AreContents name operands operation field = (name ≡ operation_of operation) × (operands ≡ operands_at operation field)
