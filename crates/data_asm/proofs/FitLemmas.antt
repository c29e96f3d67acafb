-- The cells of data that fit are cells of the machine.
use Rattle.std.proofs.Common.{◌≡◌, ℕ, ◌≤◌, ◌<◌, Bool, true, ◌&&◌, List, [], ◌∷◌, length, Option, Some, None, pos, negsuc, refl, arith, rules}
use Rattle.std.specs.Prelude.{All, FitsSigned, ℤ, slice_get, unwrap_or}
use Rattle.std.specs.Int.{w64, div_ceil}
use Rattle.std.proofs.lemmas.Bool.Decides.{nat_tests}
use Rattle.std.proofs.lemmas.List.Elements.{All-nil, All-cons, All-append, All-replicate}
use Rattle.layout_params.specs.declared.cell.Cell.TheVariants.{Descr}
use Rattle.sil_macros.specs.declared.names.Macro.{Macro}
use Rattle.sil_macros.specs.declared.names.Macro.TheVariants as macros
use Rattle.sil_operands.specs.declared.expr.Term.{Term}
use Rattle.sil_operands.specs.declared.operand.Operand.{Operand}
use Rattle.sil_operands.specs.declared.operand.Operand.TheVariants.{Null, Expr, List as Listed, Text}
use Rattle.layout_params.specs.Parameters.{Parameters}
use Rattle.sil_symbols.specs.declared.stmt.Stmt.{Stmt}
use Rattle.sil_symbols.specs.declared.symbols.Symbols.{Symbols}
use Rattle.sil_symbols.specs.Symbols.{value_of}
use Rattle.sil_symbols.specs.Resolved.{Resolves, expression_value}
use Rattle.sil_model.specs.declared.limits.Limits.{Limits}
use Rattle.sil_model.specs.Memory.{FitsCell}
use Rattle.sil_model.specs.Start.{zero_cell}
use Rattle.data_asm.specs.declared.fields.Fields.{Fields}
use Rattle.data_asm.specs.CharacterCells.{text_cells}
use Rattle.data_asm.specs.DataFields.{operand_value, value_at, first_text, first_fields, second_fields, is_within, fit, as_number, descriptor}
use Rattle.data_asm.specs.Cells.{specifier, data_cells}
use Rattle.data_asm.specs.DataFaults.{data_fits}
use Rattle.data_asm.proofs.TextLemmas.{texts_fit, blanks_fit}

both : (a b : Bool) → (a && b) ≡ true → (a ≡ true) × (b ≡ true)
both a b h = grind arith

zero_fits : FitsSigned w64 (pos 0)
zero_fits = search (rules, arith)

-- each value has 64 bits
abbrev pub AreFit : (List Term → Option ℤ) → Type 0
AreFit values = (terms : List Term) (z : ℤ) → values terms ≡ Some z → FitsSigned w64 z

value_fits : (o : Option ℤ) → ((z : ℤ) → o ≡ Some z → FitsSigned w64 z) → FitsSigned w64 (unwrap_or o (pos 0))
value_fits None h = zero_fits
value_fits (Some z) h = h z refl

operand_fits : (values : List Term → Option ℤ) (o : Option Operand) → AreFit values → FitsSigned w64 (operand_value values o)
operand_fits values None h = zero_fits
operand_fits values (Some Null) h = zero_fits
operand_fits values (Some (Expr terms)) h = value_fits (values terms) (h terms)
operand_fits values (Some (Listed items)) h = zero_fits
operand_fits values (Some (Text text)) h = zero_fits

within : (limit : ℕ) (z : ℤ) → is_within limit z ≡ true → as_number z ≤ limit
within limit (pos n) h = grind (arith, nat_tests)
within limit (negsuc n) h = let no : ⊥ = cc in absurd no

descriptor_fits : (limits : Limits) (x : Fields) → FitsSigned w64 x.a → fit limits.flag_limit limits.value_limit x ≡ true → FitsCell limits (descriptor x)
descriptor_fits limits x a h =
    let (f, v) = both (is_within limits.flag_limit x.f) (is_within limits.value_limit x.v) h in
    (a, within limits.flag_limit x.f f, within limits.value_limit x.v v)

zero_cell_fits : (limits : Limits) → FitsCell limits zero_cell
zero_cell_fits limits = (zero_fits, omega arith, omega arith)

specifier_fits : (limits : Limits) (at : ℤ) (n : ℕ) → FitsSigned w64 at → n ≤ limits.value_limit → All (FitsCell limits) (specifier at n)
specifier_fits limits at n fits within_limit =
    let first : FitsCell limits (Descr (record { a = at; f = 0; v = 0 })) = (fits, omega arith, omega arith) in
    let second : FitsCell limits (Descr (record { a = pos 0; f = 0; v = n })) = (zero_fits, omega arith, within_limit) in
    All-cons (FitsCell limits) (Descr (record { a = at; f = 0; v = 0 })) (Descr (record { a = pos 0; f = 0; v = n }) ∷ []) first
    (All-cons (FitsCell limits) (Descr (record { a = pos 0; f = 0; v = n })) [] second (All-nil (FitsCell limits)))

-- the cells of a statement
pub data_fit : (limits : Limits) (values : List Term → Option ℤ) (at : ℤ) (m : Macro) (operands : List Operand) → limits.cell_size ≤ 64 → AreFit values → FitsSigned w64 at → All (λ c. c < 256) (first_text operands) → data_fits limits.flag_limit limits.value_limit values m operands ≡ true → All (FitsCell limits) (data_cells limits.cell_size values at m operands)
data_fit limits values at macros.Descr operands few values_fit at_fits bytes h =
    All-cons (FitsCell limits) (descriptor (first_fields values operands)) [] (descriptor_fits limits (first_fields values operands) (operand_fits values (slice_get operands 0) values_fit) h) (All-nil (FitsCell limits))
data_fit limits values at macros.Spec operands few values_fit at_fits bytes h =
    let (first, second) = both (fit limits.flag_limit limits.value_limit (first_fields values operands)) (fit limits.flag_limit limits.value_limit (second_fields values operands)) h in
    All-cons (FitsCell limits) (descriptor (first_fields values operands)) (descriptor (second_fields values operands) ∷ [])
    (descriptor_fits limits (first_fields values operands) (operand_fits values (slice_get operands 0) values_fit) first)
    (All-cons (FitsCell limits) (descriptor (second_fields values operands)) [] (descriptor_fits limits (second_fields values operands) (operand_fits values (slice_get operands 3) values_fit) second) (All-nil (FitsCell limits)))
data_fit limits values at macros.Array operands few values_fit at_fits bytes h = All-replicate (FitsCell limits) (as_number (value_at values operands 0)) zero_cell (zero_cell_fits limits)
data_fit limits values at macros.Buffer operands few values_fit at_fits bytes h = blanks_fit limits (as_number (value_at values operands 0)) few
data_fit limits values at macros.String operands few values_fit at_fits bytes h =
    let short : length (first_text operands) ≤ limits.value_limit = grind (arith, nat_tests) in
    All-append (FitsCell limits) (specifier at (length (first_text operands))) (text_cells limits.cell_size (first_text operands))
    (specifier_fits limits at (length (first_text operands)) at_fits short)
    (texts_fit limits (div_ceil (length (first_text operands)) limits.cell_size) (first_text operands) bytes few)
data_fit limits values at macros.Format operands few values_fit at_fits bytes h = texts_fit limits (div_ceil (length (first_text operands)) limits.cell_size) (first_text operands) bytes few
data_fit limits values at _ operands few values_fit at_fits bytes h = All-nil (FitsCell limits)

-- the value that symbols have for an expression
pub resolved_value : (p : Parameters) (source : List Stmt) (s : Symbols) (terms : List Term) → Resolves p source s → expression_value s terms ≡ value_of p source terms
resolved_value p source s terms h = h.expressions terms
