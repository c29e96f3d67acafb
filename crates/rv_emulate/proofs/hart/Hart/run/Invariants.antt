use Rattle.std.proofs.Common.{◌*◌, ◌^◌, None}
use Rattle.unit_io.specs.Units.{tapes_of}
use Rattle.rv_emulate.specs.CpuView.{state_of}
use Rattle.rv_emulate.specs.CpuTurns.{IsRun}
use Rattle.rv_emulate.proofs.hart.Hart.run.Given as goal

-- the rounds so far
abbrev pub invariant-loop-round : goal.invariant-loop-round
invariant-loop-round g l =
    let before = g.U.UnitSet.seen l.fn.units in
    let now = g.U.UnitSet.seen l.units in
    IsRun l.code (l.round * 2 ^ 32) None (state_of l.fn.self (tapes_of before)) (state_of l.self (tapes_of now)) before now
