-- Places that are numbered from 1, each of which may be empty.
use Rattle.std.specs.Prelude.{◌≡◌, ℕ, zero, suc, List, Option, Some, None, slice_get, slice_set}

abbrev pub in_place : {A : Type 0} → Option (Option A) → Option A
in_place None = None
in_place (Some place) = place

-- what is in place n; no place has a number past the last, and none has 0
unfoldable pub unit_at : {A : Type 0} → List (Option A) → ℕ → Option A
unit_at places zero = None
unit_at places (suc n) = in_place (slice_get places n)

-- the same places, with this, or nothing, in place n
unfoldable pub with_unit : {A : Type 0} → List (Option A) → ℕ → Option A → List (Option A)
with_unit places zero unit = places
with_unit places (suc n) unit = slice_set places n unit

-- all places but n are as they were
abbrev pub SameBut : {A : Type 0} → ℕ → List (Option A) → List (Option A) → Type 0
SameBut n before after = after ≡ with_unit before n (unit_at after n)
