use Rattle.unit_io.specs.Units.{tapes_of}
use Rattle.rv_emulate.specs.CpuView.{memory_of}
use Rattle.rv_emulate.specs.UnitAnswers.{text_of, values_of}
use Rattle.rv_emulate.proofs.CallLaws.{nothing_printed}
use Rattle.rv_emulate.proofs.on_units.print_at.Goals as goal

pub returns-in-Err-clause-cut : goal.returns-in-Err-clause-cut
returns-in-Err-clause-cut g c = λ e.
    nothing_printed (text_of c.args.code.now.constants.items (memory_of c.args.regions.now) c.args.xs.now) (values_of c.args.code.now.constants.items (memory_of c.args.regions.now) c.args.xs.now) c.args.n (tapes_of (g.U.UnitSet.seen c.args.units.now))
