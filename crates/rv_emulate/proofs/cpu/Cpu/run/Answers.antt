use Rattle.std.proofs.Common.{inr}
use Rattle.rv_emulate.proofs.Standing.{fails, run_fails, run_stands}
use Rattle.rv_emulate.proofs.Cutting.{run_cut}
use Rattle.rv_emulate.proofs.UnitLaws.{units_same}
use Rattle.rv_emulate.proofs.cpu.Cpu.run.Goals as goal

pub returns-in-Some-clause-units : goal.returns-in-Some-clause-units
returns-in-Some-clause-units g c = units_same (g.U.UnitSet.seen c.args.units.now)

pub returns-clause-stands : goal.returns-clause-stands
returns-clause-stands g c = λ image of memory told.
    run_stands image c.self.inside.code c.self.inside.hart c.run-self-inside.new.self c.self.inside.ended c.run-self-inside.result _ _ _ _ _ c.in_default.is c.self.view_is of c.run-self-inside.ensures c.unwrap_or.ensures memory told

pub returns-clause-failed : goal.returns-clause-failed
returns-clause-failed g c = λ n e. fails c.self.inside.code c.self.inside.hart c.self.inside.ended _ n _ _ c.self.view_is (c.run-self-inside.ensures.failed n e)

pub returns-clause-faults : goal.returns-clause-faults
returns-clause-faults g c = λ k n e. inr (run_fails c.self.inside.code c.self.inside.hart c.run-self-inside.new.self c.self.inside.ended c.run-self-inside.result _ _ _ k n _ _ c.self.view_is c.run-self-inside.ensures c.unwrap_or.ensures e)

pub returns-clause-cut : goal.returns-clause-cut
returns-clause-cut g c = λ e. inr (λ image of. run_cut image c.self.inside.code c.self.inside.hart _ c.self.inside.ended c.run-self-inside.result _ c.args.budget _ _ _ c.self.view_is of c.run-self-inside.ensures c.unwrap_or.ensures e)
