-- Units over a run: none comes or goes, and no count of faults falls.
use Rattle.std.specs.Prelude.{◌≡◌, ℕ, ◌≤◌, None, MatchOption, IsSomeAnd}
use Rattle.unit_io.specs.Numbered.{unit_at}
use Rattle.unit_io.specs.Units.{AllUnits}

-- the same units are there, and no count of faults falls
unfoldable pub KeepsUnits : AllUnits → AllUnits → Type 0
KeepsUnits before after = (n : ℕ) → MatchOption (unit_at before n) (unit_at after n ≡ None) (λ u. IsSomeAnd (unit_at after n) (λ v. u.faults ≤ v.faults))
