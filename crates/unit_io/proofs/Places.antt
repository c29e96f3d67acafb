-- Units in their places.
use Rattle.std.proofs.Common.{◌≡◌, ℕ, zero, suc, ◌+◌, ◌<◌, ◌⊎◌, List, [], ◌∷◌, Option, Some, None, length, get_or, set, refl, sym, ap, ◌∙◌, arith, map, inl, inr}
use Rattle.std.specs.Prelude.{slice_get}
use Rattle.std.specs.Option.{option_map}
use Rattle.std.proofs.lemmas.List.{map-set, length-set, get_or-set_same, set-get_or}
use Rattle.std.proofs.lemmas.Option.{slice_get-map, slice_get-get_or, slice_get_past}
use Rattle.unit_io.specs.Numbered.{unit_at, with_unit, in_place, SameBut}
use Rattle.unit_io.specs.Tapes.{TapeState}
use Rattle.unit_io.specs.Units.{Seen}
use Rattle.unit_io.specs.Slots.{seen_of, seen_by, CallsUnit}

in_place-map : {A B : Type 0} (f : A → B) (o : Option (Option A)) → in_place (option_map (option_map f) o) ≡ option_map f (in_place o)
in_place-map f None = refl
in_place-map f (Some place) = refl

-- what is in the place of a number, after a change of all places
pub unit_at-map : {A B : Type 0} (f : A → B) (places : List (Option A)) (n : ℕ) → unit_at (map (option_map f) places) n ≡ option_map f (unit_at places n)
unfolding unit_at
unit_at-map f places zero = refl
unit_at-map f places (suc n) = rw (slice_get-map (option_map f) places n) (in_place-map f (slice_get places n))

pub with_unit-map : {A B : Type 0} (f : A → B) (places : List (Option A)) (n : ℕ) (unit : Option A) → map (option_map f) (with_unit places n unit) ≡ with_unit (map (option_map f) places) n (option_map f unit)
unfolding with_unit
with_unit-map f places zero unit = refl
with_unit-map f places (suc n) unit = map-set (option_map f) places n unit

-- the place of a number, counted from 0
pub unit_at-place : {A : Type 0} (places : List (Option A)) (n place : ℕ) (d : Option A) → place + 1 ≡ n → place < length places → unit_at places n ≡ get_or places place d
unfolding unit_at
unit_at-place places zero place d at within = absurd (omega (arith, at))
unit_at-place places (suc n) place d at within =
    let same : n ≡ place = omega (arith, at) in
    rw (same, slice_get-get_or places place d within) refl

pub with_unit-place : {A : Type 0} (places : List (Option A)) (n place : ℕ) (unit : Option A) → place + 1 ≡ n → with_unit places n unit ≡ set places place unit
unfolding with_unit
with_unit-place places zero place unit at = absurd (omega (arith, at))
with_unit-place places (suc n) place unit at =
    let same : n ≡ place = omega (arith, at) in
    rw same refl

-- a number without a place
pub unit_at-none : {A : Type 0} (places : List (Option A)) (n : ℕ) → n ≡ 0 ⊎ length places < n → unit_at places n ≡ None
unfolding unit_at
unit_at-none places zero out = refl
unit_at-none places (suc n) (inl h) = absurd (omega (arith, h))
unit_at-none places (suc n) (inr h) = rw (slice_get_past places n (omega (arith, h))) refl

set-same : {A : Type 0} (places : List (Option A)) (n : ℕ) → set places n (in_place (slice_get places n)) ≡ places
set-same [] n = refl
set-same (x ∷ places) zero = refl
set-same (x ∷ places) (suc n) = ap (λ p. x ∷ p) (set-same places n)

-- what is in its place is put there again
pub with_unit-same : {A : Type 0} (places : List (Option A)) (n : ℕ) → with_unit places n (unit_at places n) ≡ places
unfolding with_unit unit_at
with_unit-same places zero = refl
with_unit-same places (suc n) = set-same places n

-- nothing is taken from where nothing is
pub with_unit-none : {A : Type 0} (places : List (Option A)) (n : ℕ) → unit_at places n ≡ None → places ≡ with_unit places n None
with_unit-none places n none = sym (ap (with_unit places n) (sym none) ∙ with_unit-same places n)

-- a change of one place keeps all others
pub keeps_others : {A : Type 0} (places : List (Option A)) (n place : ℕ) (unit : Option A) → (place + 1 ≡ n) × (place < length places) → SameBut n places (set places place unit)
keeps_others places n place unit at =
    let still : place < length (set places place unit) = rw length-set at.1 in
    let there : unit_at (set places place unit) n ≡ unit = unit_at-place (set places place unit) n place unit at.0 still ∙ get_or-set_same places place unit unit at.1 in
    rw there (sym (with_unit-place places n place unit at.0))

pub keeps_all : {A : Type 0} (places : List (Option A)) (n : ℕ) → SameBut n places places
keeps_all places n = sym (with_unit-same places n)

pub keeps_read : {A : Type 0} (places : List (Option A)) (n place : ℕ) (d : Option A) → SameBut n places (set places place (get_or places place d))
keeps_read places n place d = rw (set-get_or places place d) (keeps_all places n)

module _ {U : Type 0} (tape : U → Option TapeState) (faults : U → ℕ) (slots : List (Option U)) (n : ℕ) (Absence : Type 0) (Changes : Seen → Seen → Type 0) where
  abbrev Calls : List (Option U) → Type 0
  Calls after = CallsUnit n (seen_by tape faults slots) (seen_by tape faults after) Absence Changes

  calls_nothing : unit_at slots n ≡ None → Absence → Calls slots
  calls_nothing none absent =
      let seen : unit_at (seen_by tape faults slots) n ≡ None = unit_at-map (seen_of tape faults) slots n ∙ ap (option_map (seen_of tape faults)) none in
      record { call = rw seen (absent, refl) }

  -- a call of a number without a place
  pub calls_outside : n ≡ 0 ⊎ length slots < n → Absence → Calls slots
  calls_outside out absent = calls_nothing (unit_at-none slots n out) absent

  -- a call of an empty place
  pub calls_empty : (place : ℕ) (d : Option U) → (place + 1 ≡ n) × (place < length slots) → get_or slots place d ≡ None → Absence → Calls (set slots place (get_or slots place d))
  calls_empty place d at is absent =
      let none : unit_at slots n ≡ None = unit_at-place slots n place d at.0 at.1 ∙ is in
      rw (set-get_or slots place d) (calls_nothing none absent)

  -- a call of the unit in a place
  pub calls_there : (place : ℕ) (d : Option U) (b b' : U) → (place + 1 ≡ n) × (place < length slots) → get_or slots place d ≡ Some b → Changes (seen_of tape faults b) (seen_of tape faults b') → Calls (set slots place (Some b'))
  calls_there place d b b' at is changes =
      let seen : unit_at (seen_by tape faults slots) n ≡ Some (seen_of tape faults b) =
      unit_at-map (seen_of tape faults) slots n ∙ ap (option_map (seen_of tape faults)) (unit_at-place slots n place d at.0 at.1 ∙ is) in
      let after : seen_by tape faults (set slots place (Some b')) ≡ with_unit (seen_by tape faults slots) n (Some (seen_of tape faults b')) =
      ap (seen_by tape faults) (sym (with_unit-place slots n place (Some b') at.0)) ∙ with_unit-map (seen_of tape faults) slots n (Some b') in
      record { call = rw seen (seen_of tape faults b', after, changes) }
