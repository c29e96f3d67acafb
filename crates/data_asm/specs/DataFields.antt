-- The descriptors of data statements, before their fields are bounded.
use Rattle.std.specs.Prelude.{ℕ, nat_le, List, [], ◌∷◌, Option, Some, None, unwrap_or, slice_get, Bool, false, ◌&&◌, ℤ, pos, negsuc}
use Rattle.layout_params.specs.declared.cell.Cell.{Cell}
use Rattle.layout_params.specs.declared.cell.Cell.TheVariants.{Descr}
use Rattle.sil_operands.specs.declared.expr.Term.{Term}
use Rattle.sil_operands.specs.declared.operand.Operand.{Operand}
use Rattle.sil_operands.specs.declared.operand.Operand.TheVariants.{Null, Expr, List as Listed, Text}
use Rattle.data_asm.specs.declared.fields.Fields.{Fields}

-- the value of an operand, 0 where it is missing or null
abbrev pub operand_value : (List Term → Option ℤ) → Option Operand → ℤ
operand_value values None = pos 0
operand_value values (Some Null) = pos 0
operand_value values (Some (Expr terms)) = unwrap_or (values terms) (pos 0)
operand_value values (Some (Listed items)) = pos 0
operand_value values (Some (Text text)) = pos 0

abbrev pub value_at : (List Term → Option ℤ) → List Operand → ℕ → ℤ
value_at values operands i = operand_value values (slice_get operands i)

-- the text of the first operand
abbrev pub first_text : List Operand → List ℕ
first_text [] = []
first_text (Null ∷ operands) = []
first_text (Expr terms ∷ operands) = []
first_text (Listed items ∷ operands) = []
first_text (Text text ∷ operands) = text

-- the descriptor a,f,v of a DESCR or a SPEC
abbrev pub first_fields : (List Term → Option ℤ) → List Operand → Fields
first_fields values operands = record { a = value_at values operands 0; f = value_at values operands 1; v = value_at values operands 2 }

-- the second descriptor of a SPEC a,f,v,o,l
abbrev pub second_fields : (List Term → Option ℤ) → List Operand → Fields
second_fields values operands = record { a = value_at values operands 3; f = pos 0; v = value_at values operands 4 }

-- a number from 0 to a limit
abbrev pub is_within : ℕ → ℤ → Bool
is_within limit (pos n) = nat_le n limit
is_within limit (negsuc n) = false

-- F and V are within these limits
abbrev pub fit : ℕ → ℕ → Fields → Bool
fit flags values x = is_within flags x.f && is_within values x.v

abbrev pub as_number : ℤ → ℕ
as_number (pos n) = n
as_number (negsuc n) = 0

-- the cell of a descriptor whose fields fit
abbrev pub descriptor : Fields → Cell
descriptor x = Descr (record { a = x.a; f = as_number x.f; v = as_number x.v })
