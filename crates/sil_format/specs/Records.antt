-- The records that a format lays out of values.
use Rattle.std.specs.Prelude.{ℕ, zero, suc, ◌+◌, ◌≤◌, All, List, [], ◌∷◌, ◌++◌, length, nat_lt, nat_le, replicate, Bool, if◌then◌else◌}
use Rattle.std.specs.List.{list_any}
use Rattle.sil_format.specs.ItemFields.{field_of}
use Rattle.sil_format.specs.declared.fields.Field.{Field}
use Rattle.sil_format.specs.declared.fields.Field.TheVariants as field
use Rattle.sil_format.specs.declared.format.DataKind.{DataKind}
use Rattle.sil_format.specs.declared.format.Item.{Item}
use Rattle.sil_format.specs.declared.format.Item.TheVariants.{Blanks, Text, NewRecord, Data}
use Rattle.sil_format.specs.declared.value.Value.{Value}
use Rattle.sil_format.specs.declared.value.Laid.{Laid}
use Rattle.sil_format.specs.declared.value.Laid.TheVariants.{Records, Real, Unfit}

-- what is done one after another: put bytes, end the record, put one value, or come to the end of the format
pub data Step : Type 0 where
  Put : List ℕ → Step
  Break : Step
  One : DataKind → Step
  End : Step

-- an item: so many blanks, a text, a new record, or so many data items
abbrev pub item_steps : Item → List Step
item_steps (Blanks count) = Put (replicate count 32) ∷ []
item_steps (Text text) = Put text ∷ []
item_steps NewRecord = Break ∷ []
item_steps (Data count kind) = replicate count (One kind)

-- the items in order
abbrev pub steps_of : List Item → List Step
steps_of [] = []
steps_of (item ∷ items) = item_steps item ++ steps_of items

-- the whole format so many times
abbrev pub passes : ℕ → List Item → List Step
passes zero items = []
passes (suc n) items = steps_of items ++ End ∷ passes n items

-- how many values an item takes
abbrev pub data_count : Item → ℕ
data_count (Blanks count) = 0
data_count (Text text) = 0
data_count NewRecord = 0
data_count (Data count kind) = count

-- some item takes a value
abbrev pub has_data : List Item → Bool
has_data items = list_any (λ item. nat_lt 0 (data_count item)) items

-- a record before what is laid out after it
abbrev pub before : List ℕ → Laid → Laid
before first (Records records) = Records (first ∷ records)
before first Real = Real
before first Unfit = Unfit

-- a field at the end of the last record, then what follows; a record above 4,096 bytes is unfit
abbrev pub with_field : Field → List ℕ → (List ℕ → Laid) → Laid
with_field (field.Bytes bytes) last further = if nat_le (length last + length bytes) 4096 then further (last ++ bytes) else Unfit
with_field field.Real last further = Real
with_field field.Unfit last further = Unfit

-- the steps, from the bytes of the last record and the values that are left. Where no value is left, a data item
-- and the end of the format end the record and the work. Where values are left at its end, a format starts again in
-- a new record, unless it has no data item. That the steps run out isn't met: there are passes enough.
abbrev pub laid : Bool → List Step → List ℕ → List Value → Laid
laid again [] last values = Unfit
laid again (Put bytes ∷ steps) last values = with_field (field.Bytes bytes) last (λ longer. laid again steps longer values)
laid again (Break ∷ steps) last values = before last (laid again steps [] values)
laid again (One kind ∷ steps) last [] = Records (last ∷ [])
laid again (One kind ∷ steps) last (value ∷ values) = with_field (field_of kind value) last (λ longer. laid again steps longer values)
laid again (End ∷ steps) last [] = Records (last ∷ [])
laid again (End ∷ steps) last (value ∷ values) = if again then before last (laid again steps [] (value ∷ values)) else Unfit

-- each record has at most 4,096 bytes
abbrev pub KeepsLimit : Laid → Type 0
KeepsLimit (Records records) = All (λ bytes. length bytes ≤ 4096) records
KeepsLimit Real = Unit {0}
KeepsLimit Unfit = Unit {0}

-- what a format lays out of values. A pass that goes on takes one value at least, so there is one pass more than
-- there are values, and more of them lay out the same.
abbrev pub records_of : List Item → List Value → Laid
records_of items values = laid (has_data items) (passes (suc (length values)) items) [] values
