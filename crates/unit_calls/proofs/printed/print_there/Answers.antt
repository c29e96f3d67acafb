use Rattle.unit_io.specs.Units.{tapes_of}
use Rattle.unit_calls.proofs.PrintLemmas.{no_format, unfit, real, all_written}
use Rattle.unit_calls.proofs.printed.print_there.Goals as goal

pub returns-in-Err-Bad-clause-tapes : goal.returns-in-Err-Bad-clause-tapes
returns-in-Err-Bad-clause-tapes g c =
    no_format c.args.text.now c.args.values.now c.args.n (tapes_of (g.U.UnitSet.seen c.args.units.now)) (c.in-Err-Bad.ensures.exact c.in-Err-Bad.field-0-is)

pub returns-in-Ok-Real-clause-tapes : goal.returns-in-Ok-Real-clause-tapes
returns-in-Ok-Real-clause-tapes g c =
    real c.args.text.now c.args.values.now c.args.n (tapes_of (g.U.UnitSet.seen c.args.units.now)) _ c.in-Ok.ensures.exact _ c.in-Ok-Real.field-0-is c.in-Ok-Real.ensures.exact

pub returns-in-Ok-Unfit-clause-tapes : goal.returns-in-Ok-Unfit-clause-tapes
returns-in-Ok-Unfit-clause-tapes g c =
    unfit c.args.text.now c.args.values.now c.args.n (tapes_of (g.U.UnitSet.seen c.args.units.now)) _ c.in-Ok.ensures.exact _ c.in-Ok-Unfit.field-0-is c.in-Ok-Unfit.ensures.exact

pub returns-clause-tapes : goal.returns-clause-tapes
returns-clause-tapes g c =
    let writes = rw c.items.ensures at c.write_all.ensures.tapes in
    rw c.written.ensures (
    all_written c.args.text.now c.args.values.now c.args.n (tapes_of (g.U.UnitSet.seen c.args.units.now)) _ c.in-Ok.ensures.exact
    c.in-Ok-Records.field-0 c.in-Ok-Records.records (tapes_of (g.U.UnitSet.seen c.write_all.new.self)) c.write_all.result
    c.in-Ok-Records.field-0-is c.in-Ok-Records.ensures.exact writes
    )
