-- Runs of codes.
use Rattle.std.specs.Prelude.{◌≡◌, ℕ, zero, suc, ◌+◌, List, [], ◌∷◌, ◌++◌, length, Option, Some, None, nat_lt, if◌then◌else◌, ℤ, slice_get}
use Rattle.unit_io.specs.RunEnds.{Run}
use Rattle.sil_model.specs.declared.end.End.{End}
use Rattle.sil_model.specs.declared.end.End.TheVariants.{Undefined}
use Rattle.sil_model.specs.Access.{◌>>=◌}
use Rattle.sil_model.specs.States.{State}
use Rattle.sil_micro.specs.declared.op.Op.{Op}
use Rattle.sil_micro.specs.declared.op.Op.TheVariants.{Begin}
use Rattle.sil_micro.specs.declared.op.Target.TheVariants.{Op as Place, Statement}
use Rattle.sil_micro.specs.Codes.{MicroCode, place_of, return_of}
use Rattle.sil_model.specs.Entries.{entered_statement}
use Rattle.sil_micro.specs.Operations.{Effect, On, To, ToReturn, Over, Stuck, perform}
use Rattle.sil_micro.specs.MicroStates.{Setting, Micro, first_micro}

-- how a run stands: at the operation of a number; ended, with no end where it came to a call on a unit that doesn't tell its tape; or stuck
pub data Outcome : Type 0 where
  At : ℕ → Micro → Outcome
  Ended : Option End → Micro → Outcome
  IsStuck : Outcome

-- a statement that isn't expanded is none to go to
abbrev pub at_statement : Option ℕ → Micro → Outcome
at_statement None u = IsStuck
at_statement (Some place) u = At place u

-- no return part is there to go to: undefined
abbrev pub at_return : Option ℕ → Micro → Outcome
at_return None u = Ended (Some (Undefined u.state.statement)) u
at_return (Some place) u = At place u

-- the return part of the statement whose entry this is
abbrev pub return_place : MicroCode → Micro → ℤ → Option ℕ
return_place c u entry = do
  k ← entered_statement u.state.memory.limits.cell_size (length c.entries) entry
  return_of c k

abbrev pub follow : MicroCode → ℕ → Effect → Outcome
follow c place (On u) = At (place + 1) u
follow c place (To (Place q) u) = At q u
follow c place (To (Statement k) u) = at_statement (place_of c k) u
follow c place (ToReturn entry u) = at_return (return_place c u entry) u
follow c place (Over end u) = Ended end u
follow c place Stuck = IsStuck

-- the operation at a place is done; after the last one the run is undefined at the number of statements
abbrev pub at_op : Setting → MicroCode → Option Op → ℕ → Micro → Outcome
at_op g c None place u = Ended (Some (Undefined (length c.entries))) u
at_op g c (Some op) place u = follow c place (perform g op u)

unfoldable pub step : Setting → MicroCode → ℕ → Micro → Outcome
step g c place u = at_op g c (slice_get c.ops place) place u

abbrev pub and_on : Outcome → (ℕ → Micro → Outcome) → Outcome
and_on (At place u) go = go place u
and_on (Ended end u) go = Ended end u
and_on IsStuck go = IsStuck

-- n operations from a place on, or fewer to the end
unfoldable pub run : Setting → MicroCode → ℕ → ℕ → Micro → Outcome
run g c zero place u = At place u
run g c (suc n) place u = and_on (step g c place u) (run g c n)

-- a statement is met where it is begun with steps left
abbrev pub met_by : Setting → Option Op → Micro → List ℕ
met_by g (Some (Begin k)) u = if nat_lt u.state.steps g.bound then k ∷ [] else []
met_by g _ u = []

abbrev pub met_after : Outcome → (ℕ → Micro → List ℕ) → List ℕ
met_after (At place u) go = go place u
met_after (Ended end u) go = []
met_after IsStuck go = []

-- the statements that n operations meet, in order
unfoldable pub met : Setting → MicroCode → ℕ → ℕ → Micro → List ℕ
met g c zero place u = []
met g c (suc n) place u = met_by g (slice_get c.ops place) u ++ met_after (step g c place u) (met g c n)

-- a run of n operations from a state's statement 0; where there is no statement it starts after all operations
abbrev pub micro_run : Setting → MicroCode → ℕ → State → Outcome
micro_run g c n s = and_on (at_statement (place_of c 0) (first_micro s)) (run g c n)

abbrev pub micro_met : Setting → MicroCode → ℕ → State → List ℕ
micro_met g c n s = met_after (at_statement (place_of c 0) (first_micro s)) (met g c n)

-- within n operations the run has this end, these tapes and this list of statements met
pub record RunsTo (g : Setting) (c : MicroCode) (n : ℕ) (s : State) (r : Run End) : Type 0 where
  pub last : Micro
  pub end : micro_run g c n s ≡ Ended r.end last
  pub tapes : last.state.tapes ≡ r.tapes
  pub met : micro_met g c n s ≡ r.met
