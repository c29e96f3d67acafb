use Rattle.std.proofs.Common.{ap, sym, ◌∙◌}
use Rattle.std.proofs.lemmas.List.{length-map}
use Rattle.unit_io.specs.Units.{tapes_of}
use Rattle.rv_emulate.specs.EmulatorStates.{register}
use Rattle.rv_emulate.specs.Ecalls.{call, is_unit_call}
use Rattle.rv_emulate.specs.CpuView.{entry_of, image_of, memory_of, state_at}
use Rattle.rv_emulate.proofs.CallLaws.{ended_turn}
use Rattle.rv_emulate.proofs.storage.Storage.call.Goals as goal

pub returns-then-not-is_unit_call : goal.returns-then-not-is_unit_call
returns-then-not-is_unit_call g c =
    let s = c.args.self.now in
    ended_turn (image_of c.args.code.now) (state_at c.args.pc s (tapes_of (g.U.UnitSet.seen c.args.units.now))) c.end_of_call-end.result (g.U.UnitSet.seen c.args.units.now)
    (ap (λ k. is_unit_call k (memory_of s.memory) s.registers) (sym c.deref.ensures.value) ∙ sym c.is_unit_call.ensures ∙ c.if-not-is_unit_call.true)
    (c.end_of_call-end.ensures ∙ ap (λ k. call k (register s.registers 17) (register s.registers 10) (register s.registers 26) s.failed c.args.pc) (c.len.ensures ∙ c.args.code.now.places.ok.0 ∙ sym (length-map c.args.code.now.places.items entry_of)))
