-- Units over calls.
use Rattle.std.proofs.Common.{◌≡◌, ◌≤◌, ℕ, zero, suc, [], ◌∷◌, Option, Some, None, IfSome, IsSomeAnd, MatchOption, refl, ap, ◌∙◌, arith, set, slice_get}
use Rattle.sil_base.specs.Causes.{Rose}
use Rattle.unit_io.specs.Numbered.{unit_at, with_unit, in_place}
use Rattle.unit_io.specs.Units.{Seen, AllUnits, RoseAt, KeepsCounts}
use Rattle.unit_io.specs.Calls.{ChangesUnit}
use Rattle.rv_emulate.specs.CpuTurns.{KeepsUnits}

-- ---- no count falls

count_same : (u : Option Seen) → IfSome u (λ x. IsSomeAnd u (λ y. x.faults ≤ y.faults))
count_same None = tt
count_same (Some u) = omega arith

pub counts_same : (us : AllUnits) → KeepsCounts us us
unfolding KeepsCounts
counts_same us n = count_same (unit_at us n)

count_then : (u v w : Option Seen) → IfSome u (λ x. IsSomeAnd v (λ y. x.faults ≤ y.faults)) → IfSome v (λ x. IsSomeAnd w (λ y. x.faults ≤ y.faults)) → IfSome u (λ x. IsSomeAnd w (λ y. x.faults ≤ y.faults))
count_then None v w first next = tt
count_then (Some u) None w first next = absurd first
count_then (Some u) (Some v) None first next = absurd next
count_then (Some u) (Some v) (Some w) first next = omega (arith, first, next)

counts_then : (us vs ws : AllUnits) → KeepsCounts us vs → KeepsCounts vs ws → KeepsCounts us ws
unfolding KeepsCounts
counts_then us vs ws first next n = count_then (unit_at us n) (unit_at vs n) (unit_at ws n) (first n) (next n)

-- ---- no unit comes

set_none : (us : AllUnits) (i j : ℕ) (u v : Seen) → in_place (slice_get us i) ≡ Some u → in_place (slice_get us j) ≡ None → in_place (slice_get (set us i (Some v)) j) ≡ None
set_none [] i j u v there none = refl
set_none (x ∷ us) zero zero u v there none = cc
set_none (x ∷ us) zero (suc j) u v there none = none
set_none (x ∷ us) (suc i) zero u v there none = none
set_none (x ∷ us) (suc i) (suc j) u v there none = set_none us i j u v there none

with_unit-none : (us : AllUnits) (n m : ℕ) (u v : Seen) → unit_at us n ≡ Some u → unit_at us m ≡ None → unit_at (with_unit us n (Some v)) m ≡ None
unfolding unit_at with_unit
with_unit-none us zero m u v there none = cc
with_unit-none us (suc n) zero u v there none = refl
with_unit-none us (suc n) (suc m) u v there none = set_none us n m u v there none

abbrev Changes : ℕ → Option Seen → AllUnits → AllUnits → Type 0
Changes n place before after = MatchOption place (after ≡ before) (λ u. (v : Seen) × (after ≡ with_unit before n (Some v)) × (u.faults ≤ v.faults))

stays_absent : (before after : AllUnits) (n m : ℕ) (place : Option Seen) → unit_at before n ≡ place → Changes n place before after → unit_at before m ≡ None → unit_at after m ≡ None
stays_absent before after n m None e same none = ap (λ us. unit_at us m) same ∙ none
stays_absent before after n m (Some u) e (v, is, le) none = ap (λ us. unit_at us m) is ∙ with_unit-none before n m u v e none

-- ---- calls, one after another

pub units_same : (us : AllUnits) → KeepsUnits us us
units_same us = record { counts = counts_same us; absent = λ n none. none }

pub keeps_units : (n : ℕ) (before after : AllUnits) → KeepsCounts before after → ChangesUnit n before after → KeepsUnits before after
keeps_units n before after counts changes = record { counts = counts; absent = λ m none. stays_absent before after n m (unit_at before n) refl changes none }

pub units_then : (us vs ws : AllUnits) → KeepsUnits us vs → KeepsUnits vs ws → KeepsUnits us ws
units_then us vs ws first next = record {
  counts = counts_then us vs ws first.counts next.counts;
  absent = λ n none. next.absent n (first.absent n none);
}

-- ---- counts that rose

rise_kept : (u v w : Option Seen) → IsSomeAnd u (λ x. IsSomeAnd v (λ y. Rose x.faults y.faults)) → IfSome v (λ x. IsSomeAnd w (λ y. x.faults ≤ y.faults)) → IsSomeAnd u (λ x. IsSomeAnd w (λ y. Rose x.faults y.faults))
rise_kept None v w first next = absurd first
rise_kept (Some u) None w first next = absurd first
rise_kept (Some u) (Some v) None first next = absurd next
rise_kept (Some u) (Some v) (Some w) first next = omega (arith, first, next)

-- it rose in the first of two
pub rose_kept : (n : ℕ) (us vs ws : AllUnits) → RoseAt n us vs → KeepsUnits vs ws → RoseAt n us ws
unfolding RoseAt KeepsCounts
rose_kept n us vs ws first next = rise_kept (unit_at us n) (unit_at vs n) (unit_at ws n) first (next.counts n)

kept_rise : (u v w : Option Seen) → (u ≡ None → v ≡ None) → IfSome u (λ x. IsSomeAnd v (λ y. x.faults ≤ y.faults)) → IsSomeAnd v (λ x. IsSomeAnd w (λ y. Rose x.faults y.faults)) → IsSomeAnd u (λ x. IsSomeAnd w (λ y. Rose x.faults y.faults))
kept_rise None None w absent first next = absurd next
kept_rise None (Some v) w absent first next = absurd (let e = absent refl in cc)
kept_rise (Some u) None w absent first next = absurd first
kept_rise (Some u) (Some v) None absent first next = absurd next
kept_rise (Some u) (Some v) (Some w) absent first next = omega (arith, first, next)

-- it rose in the second
pub rose_later : (n : ℕ) (us vs ws : AllUnits) → KeepsUnits us vs → RoseAt n vs ws → RoseAt n us ws
unfolding RoseAt KeepsCounts
rose_later n us vs ws first next = kept_rise (unit_at us n) (unit_at vs n) (unit_at ws n) (first.absent n) (first.counts n) next
