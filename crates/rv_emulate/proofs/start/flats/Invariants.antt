use Rattle.std.proofs.Common.{◌≡◌, map, take}
use Rattle.rv_isa.specs.Decoded.{decoded}
use Rattle.rv_emulate.specs.CpuView.{instr_of}
use Rattle.rv_emulate.proofs.start.flats.Given as goal

abbrev pub invariant-loop-k : goal.invariant-loop-k
invariant-loop-k l = map instr_of l.flats.items ≡ take l.k (map decoded l.words)
