use Rattle.unit_io.specs.Units.{tapes_of}
use Rattle.std.proofs.Common.{None}
use Rattle.rv_emulate.specs.CpuView.{state_at, state_of}
use Rattle.rv_emulate.specs.CpuTurns.{IsRun}
use Rattle.rv_emulate.proofs.hart.Hart.round.Given as goal

-- the turns so far
abbrev pub invariant-loop-turn : goal.invariant-loop-turn
invariant-loop-turn g l =
    let before = g.U.UnitSet.seen l.fn.units in
    let now = g.U.UnitSet.seen l.units in
    IsRun l.code l.turn None (state_of l.fn.self (tapes_of before)) (state_at l.pc l.self.storage (tapes_of now)) before now
