-- Ways through the operations of one statement, which read nothing of a code but these and what a setting has.
use Rattle.std.specs.Prelude.{ℕ, zero, suc, ◌+◌, List, Option, Some, None, ℤ, slice_get}
use Rattle.sil_model.specs.declared.end.End.{End}
use Rattle.sil_micro.specs.declared.op.Op.{Op}
use Rattle.sil_micro.specs.declared.op.Target.TheVariants.{Op as Place, Statement}
use Rattle.sil_micro.specs.Operations.{Effect, On, To, ToReturn, Over, Stuck, perform}
use Rattle.sil_micro.specs.MicroStates.{Setting, Micro}

-- a way comes to a statement, or to a jump to the return part of a call, or ends the run, or is stuck, or isn't done yet
pub data Way : Type 0 where
  Came : ℕ → Micro → Way
  Returned : ℤ → Micro → Way
  Ended : Option End → Micro → Way
  IsStuck : Way
  Unfinished : Way

-- past the end of the piece the next statement follows
abbrev pub effect_of : Setting → ℕ → Option Op → Micro → Effect
effect_of g next None u = To (Statement next) u
effect_of g next (Some op) u = perform g op u

abbrev pub effect_at : Setting → ℕ → List Op → ℕ → Micro → Effect
effect_at g next piece place u = effect_of g next (slice_get piece place) u

abbrev pub within : (ℕ → Micro → Way) → ℕ → Effect → Way
within go place (On u) = go (place + 1) u
within go place (To (Place q) u) = go q u
within go place (To (Statement k) u) = Came k u
within go place (ToReturn entry u) = Returned entry u
within go place (Over end u) = Ended end u
within go place Stuck = IsStuck

-- the way on from a place of a piece, of at most so many operations
abbrev pub way : Setting → ℕ → List Op → ℕ → ℕ → Micro → Way
way g next piece zero place u = Unfinished
way g next piece (suc fuel) place u = within (way g next piece fuel) place (effect_at g next piece place u)
