-- The fields of descriptors by their bits: A in two's complement, F and V as they are.
use Rattle.std.specs.Prelude.{ℕ, ◌^◌, ◌<◌, ◌≤◌, Option, Some, ℤ}
use Rattle.std.specs.Int.{w64, cast_unsigned}
use Rattle.layout_params.specs.declared.cell.Descr.{Descr as Descriptor}
use Rattle.layout_params.specs.declared.cell.Field.{Field}
use Rattle.layout_params.specs.declared.cell.Field.TheVariants.{A, F, V}
use Rattle.layout_params.specs.Packing.{set_field}
use Rattle.sil_model.specs.declared.limits.Limits.{Limits}
use Rattle.sil_model.specs.Access.{◌>>=◌, descr_at, set_descr_at}
use Rattle.sil_model.specs.Memory.{Memory}

abbrev pub bits_of : Descriptor → Field → ℕ
bits_of d A = cast_unsigned w64 d.a
bits_of d F = d.f
bits_of d V = d.v

-- bits that a field can hold
abbrev pub FitsBits : Limits → Field → ℕ → Type 0
FitsBits limits A bits = bits < 2 ^ 64
FitsBits limits F bits = bits ≤ limits.flag_limit
FitsBits limits V bits = bits ≤ limits.value_limit

abbrev pub bits_at : Memory → ℤ → Field → Option ℕ
bits_at m at field = do
  d ← descr_at m at
  Some (bits_of d field)

abbrev pub set_bits_at : Memory → ℤ → Field → ℕ → Option Memory
set_bits_at m at field bits = do
  d ← descr_at m at
  set_descr_at m at (set_field field bits d)
