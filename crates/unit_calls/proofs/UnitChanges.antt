-- Calls on one unit, one after another: what its count of faults does, and that no other unit changes.
use Rattle.std.proofs.Common.{◌≡◌, ◌≢◌, ◌≤◌, ℕ, zero, suc, [], ◌∷◌, Option, Some, None, IfSome, IsSomeAnd, MatchOption, refl, sym, ap, ◌∙◌, arith, set, slice_get}
use Rattle.std.proofs.lemmas.List.{set-set}
use Rattle.sil_base.specs.Causes.{Rose}
use Rattle.unit_io.specs.Numbered.{unit_at, with_unit, in_place}
use Rattle.unit_io.specs.Units.{Seen, AllUnits, RoseAt, KeepsCounts}
use Rattle.unit_io.specs.Calls.{ChangesUnit}
use Rattle.unit_io.proofs.Places.{with_unit-same}

same_count : (place : Option Seen) → IfSome place (λ u. IsSomeAnd place (λ v. u.faults ≤ v.faults))
same_count None = tt
same_count (Some u) = omega arith

-- where nothing is called, no count falls
pub counts_same : (us : AllUnits) → KeepsCounts us us
unfolding KeepsCounts
counts_same us n = same_count (unit_at us n)

later_count : (u v w : Option Seen) → IfSome u (λ x. IsSomeAnd v (λ y. x.faults ≤ y.faults)) → IfSome v (λ x. IsSomeAnd w (λ y. x.faults ≤ y.faults)) → IfSome u (λ x. IsSomeAnd w (λ y. x.faults ≤ y.faults))
later_count None v w first next = tt
later_count (Some u) None w first next = absurd first
later_count (Some u) (Some v) None first next = absurd next
later_count (Some u) (Some v) (Some w) first next = omega (arith, first, next)

-- no count falls in two calls of which neither lets one fall
pub counts_then : (us vs ws : AllUnits) → KeepsCounts us vs → KeepsCounts vs ws → KeepsCounts us ws
unfolding KeepsCounts
counts_then us vs ws first next n = later_count (unit_at us n) (unit_at vs n) (unit_at ws n) (first n) (next n)

rose_later : (u v w : ℕ) → u ≤ v → Rose v w → Rose u w
rose_later u v w le rose = omega (arith, le, rose)

later_rise : (u v w : Option Seen) → u ≢ None → IfSome u (λ x. IsSomeAnd v (λ y. x.faults ≤ y.faults)) → IsSomeAnd v (λ x. IsSomeAnd w (λ y. Rose x.faults y.faults)) → IsSomeAnd u (λ x. IsSomeAnd w (λ y. Rose x.faults y.faults))
later_rise None v w there first next = absurd (there refl)
later_rise (Some u) None w there first next = absurd first
later_rise (Some u) (Some v) None there first next = absurd next
later_rise (Some u) (Some v) (Some w) there first next = rose_later u.faults v.faults w.faults first next

-- a count that rose in the second call rose in both
pub rises_then : (n : ℕ) (us vs ws : AllUnits) → unit_at us n ≢ None → KeepsCounts us vs → RoseAt n vs ws → RoseAt n us ws
unfolding KeepsCounts RoseAt
rises_then n us vs ws there first next = later_rise (unit_at us n) (unit_at vs n) (unit_at ws n) there (first n) next

-- where nothing is called, no unit changes
pub changes_same : (n : ℕ) (us : AllUnits) → ChangesUnit n us us
changes_same n us = by_place (unit_at us n) refl
  where
    by_place : (place : Option Seen) → unit_at us n ≡ place → MatchOption place (us ≡ us) (λ u. (v : Seen) × (us ≡ with_unit us n (Some v)) × (u.faults ≤ v.faults))
    by_place None e = refl
    by_place (Some u) e = (u, sym (with_unit-same us n) ∙ ap (with_unit us n) e, omega arith)

set_there : (us : AllUnits) (i : ℕ) (u v : Seen) → in_place (slice_get us i) ≡ Some u → in_place (slice_get (set us i (Some v)) i) ≡ Some v
set_there [] i u v e = cc
set_there (x ∷ us) zero u v e = refl
set_there (x ∷ us) (suc i) u v e = set_there us i u v e

-- a unit that is there, after it was set
unit_at-with_unit : (us : AllUnits) (n : ℕ) (u v : Seen) → unit_at us n ≡ Some u → unit_at (with_unit us n (Some v)) n ≡ Some v
unfolding unit_at with_unit
unit_at-with_unit us zero u v e = cc
unit_at-with_unit us (suc n) u v e = set_there us n u v e

with_unit-with_unit : (us : AllUnits) (n : ℕ) (a b : Option Seen) → with_unit (with_unit us n a) n b ≡ with_unit us n b
unfolding with_unit
with_unit-with_unit us zero a b = refl
with_unit-with_unit us (suc n) a b = set-set us n a b

abbrev Changes : ℕ → Option Seen → AllUnits → AllUnits → Type 0
Changes n place before after = MatchOption place (after ≡ before) (λ u. (v : Seen) × (after ≡ with_unit before n (Some v)) × (u.faults ≤ v.faults))

changes_from : (n : ℕ) (us vs ws : AllUnits) (place : Option Seen) → unit_at us n ≡ place → Changes n place us vs → ChangesUnit n vs ws → Changes n place us ws
changes_from n us vs ws None e first next =
    let there : unit_at vs n ≡ None = ap (λ x. unit_at x n) first ∙ e in
    (rw there at next) ∙ first
changes_from n us vs ws (Some u) e (v, is, le) next =
    let there : unit_at vs n ≡ Some v = ap (λ x. unit_at x n) is ∙ unit_at-with_unit us n u v e in
    let second = rw there at next in
    (second.0, second.1 ∙ ap (λ x. with_unit x n (Some second.0)) is ∙ with_unit-with_unit us n (Some v) (Some second.0), omega (arith, le, second.2))

-- two calls on a unit change that unit alone
pub changes_then : (n : ℕ) (us vs ws : AllUnits) → ChangesUnit n us vs → ChangesUnit n vs ws → ChangesUnit n us ws
changes_then n us vs ws first next = changes_from n us vs ws (unit_at us n) refl first next
