-- Loads and stores of fields.
use Rattle.std.specs.Prelude.{ℕ, ◌*◌, min, ◌==◌, if◌then◌else◌}
use Rattle.rv_isa.specs.declared.instr.IOp.{IOp}
use Rattle.rv_isa.specs.declared.instr.IOp.TheVariants.{Lbu, Lhu, Lwu, Ld}
use Rattle.rv_isa.specs.declared.instr.SOp.{SOp}
use Rattle.rv_isa.specs.declared.instr.SOp.TheVariants.{Sb, Sh, Sw, Sd}
use Rattle.layout_params.specs.declared.cell.Field.{Field}
use Rattle.layout_params.specs.declared.cell.Field.TheVariants as field
use Rattle.layout_params.specs.Sizes.{Sizes}

-- the load of so many bytes, without a sign
abbrev pub load_op : ℕ → IOp
load_op n = if n == 1 then Lbu else if n == 2 then Lhu else if n == 4 then Lwu else Ld

abbrev pub store_op : ℕ → SOp
store_op n = if n == 1 then Sb else if n == 2 then Sh else if n == 4 then Sw else Sd

-- the bits that a number in a field may have
abbrev pub bits_of : Sizes → Field → ℕ
bits_of sizes field.A = 64
bits_of sizes field.F = 8 * sizes.f_len
bits_of sizes field.V = min (8 * sizes.v_len) 48
