-- What a data item writes of a value.
use Rattle.std.specs.Prelude.{ℕ, ◌-◌, List, [], ◌∷◌, ◌++◌, length, nat_le, replicate, if◌then◌else◌}
use Rattle.std.specs.Fmt.{signed_decimal}
use Rattle.sil_format.specs.declared.format.DataKind.{DataKind}
use Rattle.sil_format.specs.declared.format.DataKind.TheVariants.{Integer, Character, Real}
use Rattle.sil_format.specs.declared.value.Value.{Value}
use Rattle.sil_format.specs.declared.value.Value.TheVariants.{Number, Char}
use Rattle.sil_format.specs.declared.fields.Field.{Field}
use Rattle.sil_format.specs.declared.fields.Field.TheVariants as field

-- a text right in so many places, which are asterisks where it doesn't fit
abbrev pub placed : ℕ → List ℕ → List ℕ
placed width text = if nat_le (length text) width then replicate (width - length text) 32 ++ text else replicate width 42

-- what a data item writes of a value
abbrev pub field_of : DataKind → Value → Field
field_of (Integer width) (Number n) = field.Bytes (placed width (signed_decimal n))
field_of (Integer width) (Char c) = field.Unfit
field_of Character (Number n) = field.Unfit
field_of Character (Char c) = field.Bytes (c ∷ [])
field_of (Real width decimals) (Number n) = field.Real
field_of (Real width decimals) (Char c) = field.Real
