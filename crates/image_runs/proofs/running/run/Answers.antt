use Rattle.std.proofs.Common.{[]}
use Rattle.image_runs.proofs.Emulated.{runs-so, fault-cause}
use Rattle.image_runs.proofs.running.run.Goals as goal

pub returns-clause-ran : goal.returns-clause-ran
returns-clause-ran g c = runs-so c.args.image.now c.args.n _ c.run.result c.in_ok-cpu.cpu c.run.new.self _ _ c.budget.ensures (c.in_ok-cpu.ensures.start _) (c.run.ensures.stands c.args.image.now c.in_ok-cpu.ensures.image)

pub returns-clause-faults : goal.returns-clause-faults
returns-clause-faults g c = fault-cause c.args.image.now c.args.n c.run.result c.in_ok-cpu.cpu [] _ _ (c.in_ok-cpu.ensures.start []) c.run.ensures.faults
