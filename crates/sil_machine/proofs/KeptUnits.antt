-- Units that stay, over calls that are made one after another.
use Rattle.std.proofs.Common.{◌≡◌, ◌≤◌, ℕ, zero, suc, [], ◌∷◌, Option, Some, None, IsSomeAnd, MatchOption, refl, arith, set, slice_get}
use Rattle.sil_base.specs.Causes.{Rose}
use Rattle.unit_io.specs.Calls.{ChangesUnit}
use Rattle.unit_io.specs.Numbered.{unit_at, with_unit, in_place}
use Rattle.unit_io.specs.Units.{Seen, AllUnits, RoseAt}
use Rattle.sil_machine.specs.KeptUnits.{KeepsUnits}

abbrev Keeps : Option Seen → Option Seen → Type 0
Keeps one other = MatchOption one (other ≡ None) (λ u. IsSomeAnd other (λ v. u.faults ≤ v.faults))

same_place : (place : Option Seen) → Keeps place place
same_place None = refl
same_place (Some u) = omega arith

-- where nothing is called, all units stay
pub keeps_same : (us : AllUnits) → KeepsUnits us us
unfolding KeepsUnits
keeps_same us n = same_place (unit_at us n)

later_place : (u v w : Option Seen) → Keeps u v → Keeps v w → Keeps u w
later_place None None w first next = next
later_place None (Some v) w first next = cc
later_place (Some u) None w first next = absurd first
later_place (Some u) (Some v) None first next = absurd next
later_place (Some u) (Some v) (Some w) first next = omega (arith, first, next)

pub keeps_then : (us vs ws : AllUnits) → KeepsUnits us vs → KeepsUnits vs ws → KeepsUnits us ws
unfolding KeepsUnits
keeps_then us vs ws first next n = later_place (unit_at us n) (unit_at vs n) (unit_at ws n) (first n) (next n)

rose_later : (u v w : ℕ) → u ≤ v → Rose v w → Rose u w
rose_later u v w le rose = omega (arith, le, rose)

later_rise : (u v w : Option Seen) → Keeps u v → IsSomeAnd v (λ x. IsSomeAnd w (λ y. Rose x.faults y.faults)) → IsSomeAnd u (λ x. IsSomeAnd w (λ y. Rose x.faults y.faults))
later_rise None None w first next = absurd next
later_rise None (Some v) w first next = cc
later_rise (Some u) None w first next = absurd first
later_rise (Some u) (Some v) None first next = absurd next
later_rise (Some u) (Some v) (Some w) first next = rose_later u.faults v.faults w.faults first next

-- a count that rose in the later call rose in both
pub rises_then : (n : ℕ) (us vs ws : AllUnits) → KeepsUnits us vs → RoseAt n vs ws → RoseAt n us ws
unfolding KeepsUnits RoseAt
rises_then n us vs ws first next = later_rise (unit_at us n) (unit_at vs n) (unit_at ws n) (first n) next

set_keeps : (us : AllUnits) (i : ℕ) (u v : Seen) → in_place (slice_get us i) ≡ Some u → u.faults ≤ v.faults → (m : ℕ) → Keeps (in_place (slice_get us m)) (in_place (slice_get (set us i (Some v)) m))
set_keeps [] i u v e le m = refl
set_keeps (x ∷ us) zero u v e le zero = rw e le
set_keeps (x ∷ us) zero u v e le (suc m) = same_place (in_place (slice_get us m))
set_keeps (x ∷ us) (suc i) u v e le zero = same_place x
set_keeps (x ∷ us) (suc i) u v e le (suc m) = set_keeps us i u v e le m

with_unit-keeps : (us : AllUnits) (n : ℕ) (u v : Seen) → unit_at us n ≡ Some u → u.faults ≤ v.faults → KeepsUnits us (with_unit us n (Some v))
unfolding unit_at with_unit KeepsUnits
with_unit-keeps us n u v e le zero = refl
with_unit-keeps us zero u v e le (suc m) = cc
with_unit-keeps us (suc n) u v e le (suc m) = set_keeps us n u v e le m

changed : (n : ℕ) (us vs : AllUnits) (place : Option Seen) → unit_at us n ≡ place → MatchOption place (vs ≡ us) (λ u. (v : Seen) × (vs ≡ with_unit us n (Some v)) × (u.faults ≤ v.faults)) → KeepsUnits us vs
changed n us vs None e h = rw h (keeps_same us)
changed n us vs (Some u) e h = rw h.1 (with_unit-keeps us n u h.0 e h.2)

-- a call on a unit
pub keeps_changed : (n : ℕ) (us vs : AllUnits) → ChangesUnit n us vs → KeepsUnits us vs
keeps_changed n us vs h = changed n us vs (unit_at us n) refl h

pub ruleset kept_units = (keeps_same, keeps_changed)
