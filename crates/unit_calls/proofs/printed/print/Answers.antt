use Rattle.unit_io.specs.Units.{tapes_of}
use Rattle.unit_calls.proofs.UnitChanges.{counts_then, rises_then, changes_then}
use Rattle.unit_calls.proofs.ProbeLemmas.{probed_there, printed_then}
use Rattle.unit_calls.proofs.printed.print.Goals as goal

pub returns-in-Ok-clause-tapes : goal.returns-in-Ok-clause-tapes
returns-in-Ok-clause-tapes g c =
    printed_then c.args.n (g.U.UnitSet.seen c.args.units.now) (g.U.UnitSet.seen c.write_all.new.self) c.in-Ok.ensures.tapes
    c.args.text.now c.args.values.now (tapes_of (g.U.UnitSet.seen c.print_there.new.units)) c.print_there.result
    c.in-Ok.ensures.counts c.print_there.ensures.tapes

pub returns-in-Ok-clause-failed : goal.returns-in-Ok-clause-failed
returns-in-Ok-clause-failed g c failed =
    let before = g.U.UnitSet.seen c.args.units.now in
    let probed = g.U.UnitSet.seen c.write_all.new.self in
    let there = probed_there c.args.n before probed c.in-Ok.ensures.tapes in
    rises_then c.args.n before probed (g.U.UnitSet.seen c.print_there.new.units) there c.in-Ok.ensures.counts (c.print_there.ensures.failed failed)

pub returns-in-Ok-clause-counts : goal.returns-in-Ok-clause-counts
returns-in-Ok-clause-counts g c =
    counts_then (g.U.UnitSet.seen c.args.units.now) (g.U.UnitSet.seen c.write_all.new.self) (g.U.UnitSet.seen c.print_there.new.units)
    c.in-Ok.ensures.counts c.print_there.ensures.counts

pub returns-in-Ok-clause-units : goal.returns-in-Ok-clause-units
returns-in-Ok-clause-units g c =
    changes_then c.args.n (g.U.UnitSet.seen c.args.units.now) (g.U.UnitSet.seen c.write_all.new.self) (g.U.UnitSet.seen c.print_there.new.units)
    c.in-Ok.ensures.units c.print_there.ensures.units
