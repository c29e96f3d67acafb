-- What calls of units do to their tapes and counts.
use Rattle.std.proofs.Common.{◌≡◌, ◌≤◌, ℕ, zero, suc, ◌+◌, Bool, true, false, List, [], ◌∷◌, Option, Some, None, IfSome, IsSomeAnd, MatchOption, refl, sym, ap, ◌∙◌, arith, if◌then◌else◌, count_by, is_some, set, slice_get}
use Rattle.std.specs.Option.{option_map}
use Rattle.std.proofs.lemmas.Bool.{true≢false}
use Rattle.std.proofs.lemmas.List.Sums.{sum_by-cons}
use Rattle.sil_base.specs.Causes.{Rose}
use Rattle.unit_io.specs.declared.answers.UnitAnswer.TheVariants as unit
use Rattle.unit_io.specs.declared.answers.UnitsAnswer.{UnitsAnswer}
use Rattle.unit_io.specs.declared.answers.UnitsAnswer.TheVariants.{Ok, Failed, Absent}
use Rattle.unit_io.specs.declared.answers.UnitsRead.{UnitsRead}
use Rattle.unit_io.specs.declared.answers.UnitsRead.TheVariants as reads
use Rattle.unit_io.specs.Numbered.{unit_at, with_unit, in_place}
use Rattle.unit_io.specs.Tapes.{TapeState, next_fails, unless_fails, finished, all_told, finished_tapes, failed_finishes}
use Rattle.unit_io.specs.Units.{Seen, AllUnits, tapes_of, RoseAt, KeepsCounts, FinishesPlace, FinishesAll}
use Rattle.unit_io.specs.Calls.{OnUnit, Moves, Reads, WritesAll}
use Rattle.unit_io.specs.Slots.{CallsUnit, MovesUnit, ReadsUnit, WritesUnit, units_answer}
use Rattle.unit_io.proofs.Places.{unit_at-map, with_unit-map}

set_there : (us : AllUnits) (i : ℕ) (u v : Seen) → in_place (slice_get us i) ≡ Some u → in_place (slice_get (set us i (Some v)) i) ≡ Some v
set_there [] i u v e = cc
set_there (x ∷ us) zero u v e = refl
set_there (x ∷ us) (suc i) u v e = set_there us i u v e

-- a unit that is there after it was set
unit_at-with_unit : (us : AllUnits) (n : ℕ) (u v : Seen) → unit_at us n ≡ Some u → unit_at (with_unit us n (Some v)) n ≡ Some v
unfolding unit_at with_unit
unit_at-with_unit us zero u v e = cc
unit_at-with_unit us (suc n) u v e = set_there us n u v e

same_count : (slot : Option Seen) → IfSome slot (λ u. IsSomeAnd slot (λ v. u.faults ≤ v.faults))
same_count None = tt
same_count (Some u) = omega arith

set_counts : (us : AllUnits) (i : ℕ) (u v : Seen) → in_place (slice_get us i) ≡ Some u → u.faults ≤ v.faults → (m : ℕ) → IfSome (in_place (slice_get us m)) (λ w. IsSomeAnd (in_place (slice_get (set us i (Some v)) m)) (λ x. w.faults ≤ x.faults))
set_counts [] i u v e le m = tt
set_counts (x ∷ us) zero u v e le zero = rw e le
set_counts (x ∷ us) zero u v e le (suc m) = same_count (in_place (slice_get us m))
set_counts (x ∷ us) (suc i) u v e le zero = same_count x
set_counts (x ∷ us) (suc i) u v e le (suc m) = set_counts us i u v e le m

with_unit-counts : (us : AllUnits) (n : ℕ) (u v : Seen) → unit_at us n ≡ Some u → u.faults ≤ v.faults → KeepsCounts us (with_unit us n (Some v))
unfolding unit_at with_unit KeepsCounts
with_unit-counts us n u v e le zero = tt
with_unit-counts us zero u v e le (suc m) = cc
with_unit-counts us (suc n) u v e le (suc m) = set_counts us n u v e le m

same_counts : (us : AllUnits) → KeepsCounts us us
unfolding KeepsCounts
same_counts us n = same_count (unit_at us n)

-- the finishes of units
pub finishes_counts : (us vs : AllUnits) (failed : ℕ) → FinishesAll us vs failed → KeepsCounts us vs
unfolding unit_at KeepsCounts
finishes_counts us vs failed h zero = tt
finishes_counts [] vs failed h (suc n) = tt
finishes_counts (u ∷ us) [] failed h (suc n) = absurd h
finishes_counts (None ∷ us) (v ∷ vs) failed h (suc zero) = tt
finishes_counts (Some u ∷ us) (v ∷ vs) failed h (suc zero) = rw h.2.1 h.2.2.count
finishes_counts (u ∷ us) (v ∷ vs) failed h (suc (suc n)) = finishes_counts us vs h.1 h.3 (suc n)

module _ (n : ℕ) (us vs : AllUnits) (Absence : Type 0) (Changes : Seen → Seen → Type 0) (h : CallsUnit n us vs Absence Changes) where
  abbrev Called : Option Seen → Type 0
  Called slot = MatchOption slot (Absence × (vs ≡ us)) (λ u. (v : Seen) × (vs ≡ with_unit us n (Some v)) × Changes u v)

  -- a call, by what is told of the unit
  pub on_unit : (Missing Untold : Type 0) (Told : TapeState → Type 0)
      → (Absence → tapes_of vs ≡ tapes_of us → Missing)
      → ((u v : Seen) → Changes u v → Untold)
      → ((u v : Seen) (t : TapeState) → u.tape ≡ Some t → Changes u v → tapes_of vs ≡ with_unit (tapes_of us) n (Some v.tape) → Told t)
      → OnUnit (unit_at (tapes_of us) n) Missing Untold Told
  on_unit Missing Untold Told missing untold told = rw (unit_at-map (λ u. u.tape) us n) (by_unit (unit_at us n) h.call)
    where
      by_unit : (slot : Option Seen) → Called slot → OnUnit (option_map (λ u. u.tape) slot) Missing Untold Told
      by_unit None h = missing h.0 (ap tapes_of h.1)
      by_unit (Some u) h =
          elim u.tape as (λ tape. u.tape ≡ tape → OnUnit (Some tape) Missing Untold Told) [
            | None ↦ λ e. untold u h.0 h.2
            | Some t ↦ λ e. told u h.0 t e h.2 (ap tapes_of h.1 ∙ with_unit-map (λ u. u.tape) us n (Some h.0))
          ] refl

  -- no count falls
  pub counts : ((u v : Seen) → Changes u v → u.faults ≤ v.faults) → KeepsCounts us vs
  counts law = by_unit (unit_at us n) refl h.call
    where
      by_unit : (slot : Option Seen) → unit_at us n ≡ slot → Called slot → KeepsCounts us vs
      by_unit None e h = rw h.1 (same_counts us)
      by_unit (Some u) e h = rw h.1 (with_unit-counts us n u h.0 e (law u h.0 h.2))

  -- the count of the unit rose in a call that found it
  pub rises : ¬ Absence → ((u v : Seen) → Changes u v → Rose u.faults v.faults) → RoseAt n us vs
  unfolding RoseAt
  rises there law = by_unit (unit_at us n) refl h.call
    where
      by_unit : (slot : Option Seen) → unit_at us n ≡ slot → Called slot → RoseAt n us vs
      by_unit None e h = absurd (there h.0)
      by_unit (Some u) e h = rw (e, h.1, unit_at-with_unit us n u h.0 e) (law u h.0 h.2)

answered : (b : Bool) → units_answer (if b then unit.Failed else unit.Ok) ≡ (if b then Failed else Ok)
answered true = refl
answered false = refl

module _ (n : ℕ) (us vs : AllUnits) where
  pub moves : (change : TapeState → TapeState) (r : UnitsAnswer) → CallsUnit n us vs (r ≡ Absent) (λ u v. MovesUnit change u v r) → Moves change n (tapes_of us) (tapes_of vs) r
  moves change r h = on_unit n us vs _ (λ u v. MovesUnit change u v r) h _ _ _
      (λ absent same. (absent, same))
      (λ u v m. m.there)
      (λ u v t is m same. ((rw is at m.answer) ∙ answered (next_fails t), same ∙ ap (λ x. with_unit (tapes_of us) n (Some x)) (rw is at m.tape)))

  pub moves_count : (change : TapeState → TapeState) (r : UnitsAnswer) → CallsUnit n us vs (r ≡ Absent) (λ u v. MovesUnit change u v r) → KeepsCounts us vs
  moves_count change r h = counts n us vs _ (λ u v. MovesUnit change u v r) h (λ u v m. m.count)

  pub moves_rise : (change : TapeState → TapeState) (r : UnitsAnswer) → CallsUnit n us vs (r ≡ Absent) (λ u v. MovesUnit change u v r) → r ≡ Failed → RoseAt n us vs
  moves_rise change r h failed = rises n us vs _ (λ u v. MovesUnit change u v r) h (λ e. let no : Failed ≡ Absent = sym failed ∙ e in cc) (λ u v m. m.failed failed)

  pub reads_bytes : (r : UnitsRead) (old new : List ℕ) → CallsUnit n us vs ((r ≡ reads.Absent) × (new ≡ old)) (λ u v. ReadsUnit u v r old new) → Reads n (tapes_of us) (tapes_of vs) r old new
  reads_bytes r old new h = on_unit n us vs _ (λ u v. ReadsUnit u v r old new) h _ _ _
      (λ absent same. (absent.0, absent.1, same))
      (λ u v m. m.there)
      (λ u v t is m same. (rw is at m.answer, rw is at m.bytes, same ∙ ap (λ x. with_unit (tapes_of us) n (Some x)) (rw is at m.tape)))

  pub reads_count : (r : UnitsRead) (old new : List ℕ) → CallsUnit n us vs ((r ≡ reads.Absent) × (new ≡ old)) (λ u v. ReadsUnit u v r old new) → KeepsCounts us vs
  reads_count r old new h = counts n us vs _ (λ u v. ReadsUnit u v r old new) h (λ u v m. m.count)

  pub reads_rise : (r : UnitsRead) (old new : List ℕ) → CallsUnit n us vs ((r ≡ reads.Absent) × (new ≡ old)) (λ u v. ReadsUnit u v r old new) → r ≡ reads.Failed → RoseAt n us vs
  reads_rise r old new h failed = rises n us vs _ (λ u v. ReadsUnit u v r old new) h (λ e. let no : reads.Failed ≡ reads.Absent = sym failed ∙ e.0 in cc) (λ u v m. m.failed failed)

  pub writes : (records : List (List ℕ)) (r : UnitsAnswer) → CallsUnit n us vs (r ≡ Absent) (λ u v. WritesUnit records u v r) → WritesAll records n (tapes_of us) (tapes_of vs) r
  writes records r h = on_unit n us vs _ (λ u v. WritesUnit records u v r) h _ _ _
      (λ absent same. (absent, same))
      (λ u v m. m.there)
      (λ u v t is m same. let w = rw is at m.tape in (w.0, same ∙ ap (λ x. with_unit (tapes_of us) n (Some x)) w.1, w.2))

  pub writes_count : (records : List (List ℕ)) (r : UnitsAnswer) → CallsUnit n us vs (r ≡ Absent) (λ u v. WritesUnit records u v r) → KeepsCounts us vs
  writes_count records r h = counts n us vs _ (λ u v. WritesUnit records u v r) h (λ u v m. m.count)

  pub writes_rise : (records : List (List ℕ)) (r : UnitsAnswer) → CallsUnit n us vs (r ≡ Absent) (λ u v. WritesUnit records u v r) → r ≡ Failed → RoseAt n us vs
  writes_rise records r h failed = rises n us vs _ (λ u v. WritesUnit records u v r) h (λ e. let no : Failed ≡ Absent = sym failed ∙ e in cc) (λ u v m. m.failed failed)

-- one place of units that all tell their tapes
finishes_place : (tape : Option TapeState) (u : Seen) (v : Option Seen) (one : ℕ) → tape ≡ u.tape → FinishesPlace (Some u) v one → (t : TapeState) → tape ≡ Some t → (one ≡ (if next_fails t then 1 else 0)) × (option_map (λ w. w.tape) v ≡ Some (Some (unless_fails t finished)))
finishes_place tape u v one same h t is =
    let told : u.tape ≡ Some t = sym same ∙ is in
    let both = rw told at h.2.told in
    (both.0, rw (h.1, both.1) refl)

-- the finish of units that all tell their tapes
pub finishes_told : (us vs : AllUnits) (failed : ℕ) → FinishesAll us vs failed → all_told (tapes_of us) ≡ true → (failed ≡ failed_finishes (tapes_of us)) × (tapes_of vs ≡ finished_tapes (tapes_of us))
finishes_told [] vs failed h told = (h.1, ap tapes_of h.0)
finishes_told (u ∷ us) [] failed h told = absurd h
finishes_told (None ∷ us) (v ∷ vs) failed h told =
    let rest = finishes_told us vs h.1 h.3 told in
    (omega (arith, h.2.1, rest.0, h.4), rw (h.2.0, rest.1) refl)
finishes_told (Some u ∷ us) (v ∷ vs) failed h told =
    let rest = finishes_told us vs h.1 h.3 in
    elim u.tape as (λ tape. tape ≡ u.tape → all_told (Some tape ∷ tapes_of us) ≡ true → (failed ≡ failed_finishes (Some tape ∷ tapes_of us)) × (option_map (λ w. w.tape) v ∷ tapes_of vs ≡ finished_tapes (Some tape ∷ tapes_of us))) [
      | None ↦ λ e told. absurd (true≢false (sym told))
      | Some t ↦ λ e told.
          let here = finishes_place (Some t) u v h.0 e h.2 t refl in
          let after = rest told in
          (omega (arith, here.0, after.0, h.4), rw (here.1, after.1) refl)
    ] refl told

-- no more finishes fail than there are units
pub finishes_few : (us vs : AllUnits) (failed : ℕ) → FinishesAll us vs failed → failed ≤ count_by is_some us
finishes_few [] vs failed h = omega (arith, h.1)
finishes_few (u ∷ us) [] failed h = absurd h
finishes_few (None ∷ us) (v ∷ vs) failed h = omega (arith, h.2.1, finishes_few us vs h.1 h.3, h.4)
finishes_few (Some u ∷ us) (v ∷ vs) failed h =
    let more : count_by is_some (Some u ∷ us) ≡ 1 + count_by is_some us = sum_by-cons _ (Some u) us in
    omega (arith, more, h.2.2.few, finishes_few us vs h.1 h.3, h.4)
