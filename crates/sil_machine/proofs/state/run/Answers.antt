use Rattle.std.proofs.Common.{◌≡◌, ◌+◌, ◌-◌, Err, ap, sym, ◌∙◌, arith}
use Rattle.sil_machine.proofs.KeptUnits.{keeps_same, keeps_then, rises_then}
use Rattle.sil_machine.proofs.Turns.{end_without_fault, turn_goes, turn_ends, turn_none, same_run}
use Rattle.sil_machine.proofs.state.run.Goals as goal

pub loop-i-init : goal.loop-i-init
loop-i-init g c = record {
  ends = let all : c.args.n - 0 ≡ c.args.n = omega arith in rw all (same_run _);
  kept = keeps_same _;
  steps = omega arith;
}

pub returns-in-Err-clause-ends : goal.returns-in-Err-clause-ends
returns-in-Err-clause-ends g c not_memory =
    turn_ends c.args.program.now c.args.params.now (c.args.n - c.loop-i.i) _ _ c.in-Err.end _ not_memory (omega arith) c.in-Err.ensures.steps c.loop-i.invariant.ends

pub loop-i-preserved : goal.loop-i-preserved
loop-i-preserved g c = record {
  ends =
      let fewer : c.args.n - (c.loop-i.i + 1) ≡ c.args.n - c.loop-i.i - 1 = omega arith in
      rw fewer (turn_goes c.args.program.now c.args.params.now (c.args.n - c.loop-i.i) _ _ _ (omega arith) c.in-Ok.ensures.steps c.loop-i.invariant.ends);
  kept = keeps_then _ _ _ c.loop-i.invariant.kept c.in-Ok.ensures.kept;
  steps = omega (arith, c.in-Ok.ensures.one_more);
}

pub returns-clause-ends : goal.returns-clause-ends
returns-clause-ends g c not_memory = rw c.end_at.ensures (turn_none c.args.program.now c.args.params.now (c.args.n - c.loop-i.i) _ _ (omega arith) c.loop-i.invariant.ends)

pub returns-in-Err-clause-faults : goal.returns-in-Err-clause-faults
returns-in-Err-clause-faults g c k unit is = rises_then unit _ _ _ c.loop-i.invariant.kept (c.in-Err.ensures.faults k unit (ap Err is))

pub returns-in-Err-clause-kept : goal.returns-in-Err-clause-kept
returns-in-Err-clause-kept g c = keeps_then _ _ _ c.loop-i.invariant.kept c.in-Err.ensures.kept

pub returns-clause-faults : goal.returns-clause-faults
returns-clause-faults g c k unit is = absurd (end_without_fault c.args.program.now _ k unit (sym c.end_at.ensures ∙ is))
