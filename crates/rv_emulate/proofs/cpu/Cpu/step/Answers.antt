use Rattle.std.proofs.Common.{inr}
use Rattle.rv_emulate.specs.declared.end.CpuStep.TheVariants.{Ended}
use Rattle.rv_emulate.proofs.Standing.{next_stands, step_stands}
use Rattle.rv_emulate.proofs.Cutting.{step_cut}
use Rattle.rv_emulate.proofs.UnitLaws.{units_same}
use Rattle.rv_emulate.proofs.cpu.Cpu.step.Goals as goal

pub returns-in-Some-clause-units : goal.returns-in-Some-clause-units
returns-in-Some-clause-units g c = units_same (g.U.UnitSet.seen c.args.units.now)

pub returns-in-Ended-clause-stands : goal.returns-in-Ended-clause-stands
returns-in-Ended-clause-stands g c = λ image of memory told.
    step_stands image c.self.inside.code c.self.inside.hart c.step-step.new.self c.self.inside.ended (Ended c.in-Ended.end) _ _ _ c.in_default.is c.self.view_is of c.in-Ended.ensures memory told

pub returns-in_default-step-clause-stands : goal.returns-in_default-step-clause-stands
returns-in_default-step-clause-stands g c = λ image of memory told.
    next_stands image c.self.inside.code c.self.inside.hart c.step-step.new.self c.self.inside.ended _ _ _ c.in_default.is c.self.view_is of c.in_default-step.ensures told

pub returns-in-Ended-clause-cut : goal.returns-in-Ended-clause-cut
returns-in-Ended-clause-cut g c = λ e. inr (λ image of. step_cut image c.self.inside.code c.self.inside.hart _ c.self.inside.ended (Ended c.in-Ended.end) _ _ _ c.self.view_is of c.in-Ended.ensures e)
