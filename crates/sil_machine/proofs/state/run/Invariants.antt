use Rattle.std.proofs.Common.{◌+◌, ◌-◌, ◌≤◌, ◌^◌}
use Rattle.unit_io.specs.Units.{tapes_of}
use Rattle.sil_machine.specs.KeptUnits.{KeepsUnits}
use Rattle.sil_machine.specs.Outcomes.{IsAs, outcome_of}
use Rattle.sil_machine.specs.Positions.{state_at}
use Rattle.sil_machine.proofs.state.run.Given as goal

-- the steps that are left end as all of them do, where these have an end, and the units stay
abbrev pub invariant-loop-i : goal.invariant-loop-i
invariant-loop-i g l = record {
  ends : IsAs (outcome_of l.program l.params (l.n - l.i) (state_at l.at (tapes_of (g.U.UnitSet.seen l.units)))) (outcome_of l.program l.params l.n (state_at l.fn.at (tapes_of (g.U.UnitSet.seen l.fn.units))));
  kept : KeepsUnits (g.U.UnitSet.seen l.fn.units) (g.U.UnitSet.seen l.units);
  steps : l.at.steps + (l.n - l.i) ≤ 2 ^ 40;
}
