-- Laws of micro code.
use Rattle.std.specs.Prelude.{◌≡◌, ℕ, zero, suc, ◌+◌, ◌<◌, ◌≤◌, ◌==◌, if◌then◌else◌, List, [], ◌∷◌, ◌++◌, length, nat_lt, Some, slice_get, IsTrue, ℤ}
use Rattle.sil_micro.specs.declared.op.Op.{Op}
use Rattle.sil_micro.specs.declared.op.Op.TheVariants.{Begin}
use Rattle.sil_micro.specs.declared.op.Target.TheVariants.{Op as Place}
use Rattle.sil_micro.specs.Codes.{MicroCode, place_of}
use Rattle.sil_micro.specs.Operations.{Effect, On, To}
use Rattle.sil_micro.specs.Pieces.{placed_op, joined, is_part, begins_once}
use Rattle.sil_micro.specs.MicroRuns as runs
use Rattle.sil_micro.specs.MicroRuns.{Outcome, at_statement, at_return, return_place, and_on, met_by, met_after}
use Rattle.sil_micro.specs.MicroStates.{Setting, Registers, Micro, held, put}
use Rattle.sil_micro.specs.MicroWays.{Way, Came, Returned, Ended, IsStuck, Unfinished, effect_at, way}

-- what is put into a register is held there, and the others hold what they held
abbrev pub LawOfRegisters : Type 0
LawOfRegisters = (r : Registers) (i j : ℕ) (value : ℤ) → i < 16 → j < 16 → held (put i value r) j ≡ (if j == i then value else held r j)

-- ---- ways and runs

-- the statements that a way meets
abbrev pub met_within : (ℕ → Micro → List ℕ) → ℕ → Effect → List ℕ
met_within go place (On u) = go (place + 1) u
met_within go place (To (Place q) u) = go q u
met_within go place _ = []

abbrev pub way_met : Setting → ℕ → List Op → ℕ → ℕ → Micro → List ℕ
way_met g next piece zero place u = []
way_met g next piece (suc fuel) place u = met_by g (slice_get piece place) u ++ met_within (way_met g next piece fuel) place (effect_at g next piece place u)

-- the piece stands in the code at a place, and the next statement follows it
pub record StandsAt (c : MicroCode) (base next : ℕ) (piece : List Op) : Type 0 where
  pub part : IsTrue (is_part piece)
  pub each : (i : ℕ) (op : Op) → slice_get piece i ≡ Some op → slice_get c.ops (base + i) ≡ Some (placed_op base op)
  pub follows : place_of c next ≡ Some (base + length piece)

-- so many operations from a place on come to this, and meet these statements
pub record Leads (g : Setting) (c : MicroCode) (n place : ℕ) (u : Micro) (o : Outcome) (statements : List ℕ) : Type 0 where
  pub run : (i : ℕ) → runs.run g c (n + i) place u ≡ and_on o (runs.run g c i)
  pub met : (i : ℕ) → runs.met g c (n + i) place u ≡ statements ++ met_after o (runs.met g c i)

-- a run goes where a way goes, and ends as it ends
abbrev pub Follows : Setting → MicroCode → ℕ → Micro → List ℕ → Way → Type 0
Follows g c place u statements (Came k v) = (n : ℕ) × Leads g c n place u (at_statement (place_of c k) v) statements
Follows g c place u statements (Returned entry v) = (n : ℕ) × Leads g c n place u (at_return (return_place c v entry) v) statements
Follows g c place u statements (Ended end v) = (n : ℕ) × Leads g c n place u (runs.Ended end v) statements
Follows g c place u statements IsStuck = (n : ℕ) × Leads g c n place u runs.IsStuck statements
Follows g c place u statements Unfinished = Unit {0}

-- whatever else is in the code
abbrev pub LawOnWays : Type 0
LawOnWays =
    (g : Setting) (c : MicroCode) (base next : ℕ) (piece : List Op) → StandsAt c base next piece →
    (fuel place : ℕ) (u : Micro) → place ≤ length piece → Follows g c (base + place) u (way_met g next piece fuel place u) (way g next piece fuel place u)

-- a way from the beginning of a piece meets its statement where steps are left, and one from any other place meets none
pub record MeetsOnce (g : Setting) (next k : ℕ) (piece : List Op) (fuel : ℕ) : Type 0 where
  pub beginning : (u : Micro) → way_met g next piece (suc fuel) 0 u ≡ (if nat_lt u.state.steps g.bound then k ∷ [] else [])
  pub later : (place : ℕ) (u : Micro) → 0 < place → way_met g next piece fuel place u ≡ []

abbrev pub LawOfMeeting : Type 0
LawOfMeeting = (g : Setting) (next k : ℕ) (piece : List Op) (fuel : ℕ) → IsTrue (is_part piece) → IsTrue (begins_once piece) → slice_get piece 0 ≡ Some (Begin k) → MeetsOnce g next k piece fuel

-- a part goes behind another the way that it goes by itself
abbrev pub LawOfParts : Type 0
LawOfParts =
    (g : Setting) (next : ℕ) (front part : List Op) → IsTrue (is_part part) →
    (fuel place : ℕ) (u : Micro) → place ≤ length part → way g next (joined front part) fuel (length front + place) u ≡ way g next part fuel place u
