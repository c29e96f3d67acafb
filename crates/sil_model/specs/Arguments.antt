-- The operands of a statement.
use Rattle.std.specs.Prelude.{ℕ, suc, List, [], Option, Some, None, ℤ, pos, slice_get}
use Rattle.sil_model.specs.declared.program.Arg.{Arg}
use Rattle.sil_model.specs.declared.program.Arg.TheVariants.{Absent, Place, Number, Flag, Format, Goto, Places, Gotos}
use Rattle.sil_model.specs.declared.program.Flow.{Flow}
use Rattle.sil_model.specs.declared.program.Flow.TheVariants.{Next, To}
use Rattle.sil_model.specs.Access.{◌>>=◌}

abbrev pub as_place : Arg → Option ℤ
as_place (Place at) = Some at
as_place _ = None

abbrev pub as_number : Arg → Option ℤ
as_number (Number n) = Some n
as_number _ = None

abbrev pub as_flag : Arg → Option ℕ
as_flag (Flag flags) = Some flags
as_flag _ = None

-- where a location leads: on, where it is null
abbrev pub flow_to : Option ℕ → Flow
flow_to None = Next
flow_to (Some k) = To k

abbrev pub as_goto : Arg → Option Flow
as_goto (Goto location) = Some (flow_to location)
as_goto _ = None

-- the text of a format
abbrev pub as_format : Arg → Option (List ℕ)
as_format (Format text) = Some text
as_format _ = None

abbrev pub as_places : Arg → Option (List ℤ)
as_places (Places ats) = Some ats
as_places _ = None

abbrev pub as_gotos : Arg → Option (List (Option ℕ))
as_gotos (Gotos locations) = Some locations
as_gotos _ = None

-- operands that may be null; a null list has no items
abbrev pub as_maybe_place : Arg → Option (Option ℤ)
as_maybe_place Absent = Some None
as_maybe_place (Place at) = Some (Some at)
as_maybe_place _ = None

abbrev pub as_maybe_number : Arg → Option (Option ℤ)
as_maybe_number Absent = Some None
as_maybe_number (Number n) = Some (Some n)
as_maybe_number _ = None

abbrev pub as_maybe_places : Arg → Option (List ℤ)
as_maybe_places Absent = Some []
as_maybe_places (Places ats) = Some ats
as_maybe_places _ = None

-- the operand of that number, counted from 0, as what it is
abbrev pub place_at : List Arg → ℕ → Option ℤ
place_at args i = do
  arg ← slice_get args i
  as_place arg

abbrev pub number_at : List Arg → ℕ → Option ℤ
number_at args i = do
  arg ← slice_get args i
  as_number arg

abbrev pub flag_at : List Arg → ℕ → Option ℕ
flag_at args i = do
  arg ← slice_get args i
  as_flag arg

abbrev pub goto_at : List Arg → ℕ → Option Flow
goto_at args i = do
  arg ← slice_get args i
  as_goto arg

abbrev pub format_at : List Arg → ℕ → Option (List ℕ)
format_at args i = do
  arg ← slice_get args i
  as_format arg

abbrev pub places_at : List Arg → ℕ → Option (List ℤ)
places_at args i = do
  arg ← slice_get args i
  as_places arg

abbrev pub gotos_at : List Arg → ℕ → Option (List (Option ℕ))
gotos_at args i = do
  arg ← slice_get args i
  as_gotos arg

abbrev pub maybe_place_at : List Arg → ℕ → Option (Option ℤ)
maybe_place_at args i = do
  arg ← slice_get args i
  as_maybe_place arg

abbrev pub maybe_number_at : List Arg → ℕ → Option (Option ℤ)
maybe_number_at args i = do
  arg ← slice_get args i
  as_maybe_number arg

abbrev pub maybe_places_at : List Arg → ℕ → Option (List ℤ)
maybe_places_at args i = do
  arg ← slice_get args i
  as_maybe_places arg

-- ---- lists of locations

abbrev pub at_place : Option (Option ℕ) → Option ℕ
at_place None = None
at_place (Some location) = location

-- the location of a number, counted from 1; none where there is none, or a null one
unfoldable pub nth_location : List (Option ℕ) → ℤ → Option ℕ
nth_location locations (pos (suc n)) = at_place (slice_get locations n)
nth_location locations _ = None
