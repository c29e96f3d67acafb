use Rattle.rv_emulate.specs.CpuView.{instr_of}
use Rattle.rv_emulate.proofs.Acting.{fetch_turn, instr_turn}
use Rattle.rv_emulate.proofs.storage.Storage.turn.Goals as goal

pub returns-in-None : goal.returns-in-None
returns-in-None g c = fetch_turn _ _ _ c.in-None.ensures.same

pub returns-in-Some : goal.returns-in-Some
returns-in-Some g c = instr_turn _ _ _ (instr_of c.in-Some.f) _ _ _ c.in-Some.ensures.same c.act.ensures
