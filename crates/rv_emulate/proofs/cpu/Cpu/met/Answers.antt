use Rattle.std.proofs.Common.{◌≢◌, ◌==◌, get_or, subst, ap, ◌∙◌}
use Rattle.std.specs.List.{position_from}
use Rattle.rv_emulate.specs.Cpus.{CpuState}
use Rattle.rv_emulate.proofs.Standing.{met_is}
use Rattle.rv_emulate.proofs.cpu.Cpu.met.Goals as goal

pub returns : goal.returns
returns c = λ image tapes of.
    let P : CpuState → Type 0 = λ cpu. get_or cpu.registers 27 0 ≢ 0 in
    c.statement_at.ensures
    ∙ ap (λ places. position_from (λ place. c.self.inside.hart.pc == place) 0 places) c.deref.ensures.value
    ∙ ap (λ cpu. position_from (λ place. cpu.pc == place) 0 cpu.places) c.self.view_is
    ∙ met_is image tapes _ of (subst P c.self.view_is c.if-self-eq0.false)
