-- What contracts see of numbered units, and what a finish of them leaves.
use Rattle.std.specs.Prelude.{◌≡◌, ℕ, ◌+◌, ◌≤◌, List, [], ◌∷◌, Option, Some, None, IfSome, IsSomeAnd, if◌then◌else◌, map, replicate}
use Rattle.std.specs.Option.{option_map}
use Rattle.sil_base.specs.Causes.{Rose}
use Rattle.unit_io.specs.Numbered.{unit_at}
use Rattle.unit_io.specs.Tapes.{TapeState, Tapes, next_fails, unless_fails, finished}

-- a unit's tape, where the unit tells it, and its count of faults
pub record Seen : Type 0 where
  pub tape : Option TapeState
  pub faults : ℕ

-- units in the order of their numbers from 1, none where one is absent
abbrev pub AllUnits : Type 0
AllUnits = List (Option Seen)

abbrev pub no_units : AllUnits
no_units = replicate 15 None

-- the tapes of units
abbrev pub tapes_of : AllUnits → Tapes
tapes_of units = map (option_map (λ u. u.tape)) units

-- the count of faults of unit n rose
unfoldable pub RoseAt : ℕ → AllUnits → AllUnits → Type 0
RoseAt n before after = IsSomeAnd (unit_at before n) (λ u. IsSomeAnd (unit_at after n) (λ v. Rose u.faults v.faults))

-- each unit that is there stays, and no count of faults falls
unfoldable pub KeepsCounts : AllUnits → AllUnits → Type 0
KeepsCounts before after = (n : ℕ) → IfSome (unit_at before n) (λ u. IsSomeAnd (unit_at after n) (λ v. u.faults ≤ v.faults))

-- the finish of a unit, from u to v, which counts for so many failures
pub record FinishesUnit (u v : Seen) (failed : ℕ) : Type 0 where
  pub few : failed ≤ 1
  pub told : IfSome u.tape (λ t. (failed ≡ (if next_fails t then 1 else 0)) × (v.tape ≡ Some (unless_fails t finished)))
  pub count : u.faults ≤ v.faults
  pub rose : failed ≡ 1 → Rose u.faults v.faults

-- the finish of one place
abbrev pub FinishesPlace : Option Seen → Option Seen → ℕ → Type 0
FinishesPlace None v failed = (v ≡ None) × (failed ≡ 0)
FinishesPlace (Some u) v failed = (w : Seen) × (v ≡ Some w) × FinishesUnit u w failed

-- the finish of all units, of which so many fail
abbrev pub FinishesAll : AllUnits → AllUnits → ℕ → Type 0
FinishesAll [] vs failed = (vs ≡ []) × (failed ≡ 0)
FinishesAll (u ∷ us) [] failed = ⊥
FinishesAll (u ∷ us) (v ∷ vs) failed = (one : ℕ) × (rest : ℕ) × FinishesPlace u v one × FinishesAll us vs rest × (failed ≡ one + rest)
