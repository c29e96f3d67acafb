use Rattle.std.proofs.Common.{true, false, arith}
use Rattle.std.proofs.lemmas.List.{with_items_is}
use Rattle.sil_base.specs.declared.places.TheConstants.{FIRST_CELL, FIRST_KIND, FIRST_SCRATCH, FIRST_TABLE}
use Rattle.unit_io.specs.Units.{tapes_of}
use Rattle.rv_emulate.specs.CpuView.{memory_of}
use Rattle.rv_emulate.proofs.ReadLaws.{held, cells_into, kinds_into, tables_into, scratch_into, nothing_into}
use Rattle.rv_emulate.proofs.pieces.read_at.Goals as goal

pub returns-then-holds-clause-reads : goal.returns-then-holds-clause-reads
returns-then-holds-clause-reads g c =
    cells_into (memory_of c.args.regions.now) c.args.k c.args.n c.args.address (tapes_of (g.U.UnitSet.seen c.args.units.now)) (tapes_of (g.U.UnitSet.seen c.read_in.new.units)) c.read_in.result c.read_in.new.bytes c.deref_mut.result.now _
    (with_items_is c.args.regions.now.cells c.read_in.new.bytes (omega (arith, c.read_in.auto.bytes, c.deref_mut.ensures.len))) c.deref_mut.ensures.value
    (held c.args.n c.args.address FIRST_CELL _ _ _ true c.holds.ensures c.deref.ensures.value c.if-holds.true) c.read_in.ensures.reads

pub returns-then-holds-2-clause-reads : goal.returns-then-holds-2-clause-reads
returns-then-holds-2-clause-reads g c =
    kinds_into (memory_of c.args.regions.now) c.args.k c.args.n c.args.address (tapes_of (g.U.UnitSet.seen c.args.units.now)) (tapes_of (g.U.UnitSet.seen c.read_in-then-holds-2.new.units)) c.read_in-then-holds-2.result c.read_in-then-holds-2.new.bytes c.deref_mut-then-holds-2.result.now _
    (with_items_is c.args.regions.now.kinds c.read_in-then-holds-2.new.bytes (omega (arith, c.read_in-then-holds-2.auto.bytes, c.deref_mut-then-holds-2.ensures.len))) c.deref_mut-then-holds-2.ensures.value
    (held c.args.n c.args.address FIRST_CELL _ _ _ false c.holds.ensures c.deref.ensures.value c.if-holds.false)
    (held c.args.n c.args.address FIRST_KIND _ _ _ true c.holds-else-holds.ensures c.deref-else-holds.ensures.value c.if-holds-2.true) c.read_in-then-holds-2.ensures.reads

pub returns-then-holds-3-clause-reads : goal.returns-then-holds-3-clause-reads
returns-then-holds-3-clause-reads g c =
    tables_into (memory_of c.args.regions.now) c.args.k c.args.n c.args.address (tapes_of (g.U.UnitSet.seen c.args.units.now)) (tapes_of (g.U.UnitSet.seen c.read_in-then-holds-3.new.units)) c.read_in-then-holds-3.result c.read_in-then-holds-3.new.bytes c.deref_mut-then-holds-3.result.now _
    (with_items_is c.args.regions.now.tables c.read_in-then-holds-3.new.bytes (omega (arith, c.read_in-then-holds-3.auto.bytes, c.deref_mut-then-holds-3.ensures.len))) c.deref_mut-then-holds-3.ensures.value
    (held c.args.n c.args.address FIRST_CELL _ _ _ false c.holds.ensures c.deref.ensures.value c.if-holds.false)
    (held c.args.n c.args.address FIRST_KIND _ _ _ false c.holds-else-holds.ensures c.deref-else-holds.ensures.value c.if-holds-2.false)
    (held c.args.n c.args.address FIRST_TABLE _ _ _ true c.holds-else-holds-2.ensures c.deref-else-holds-2.ensures.value c.if-holds-3.true) c.read_in-then-holds-3.ensures.reads

pub returns-then-holds-4-clause-reads : goal.returns-then-holds-4-clause-reads
returns-then-holds-4-clause-reads g c =
    scratch_into (memory_of c.args.regions.now) c.args.k c.args.n c.args.address (tapes_of (g.U.UnitSet.seen c.args.units.now)) (tapes_of (g.U.UnitSet.seen c.read_in-then-holds-4.new.units)) c.read_in-then-holds-4.result c.read_in-then-holds-4.new.bytes c.deref_mut-then-holds-4.result.now _
    (with_items_is c.args.regions.now.scratch c.read_in-then-holds-4.new.bytes (omega (arith, c.read_in-then-holds-4.auto.bytes, c.deref_mut-then-holds-4.ensures.len))) c.deref_mut-then-holds-4.ensures.value
    (held c.args.n c.args.address FIRST_CELL _ _ _ false c.holds.ensures c.deref.ensures.value c.if-holds.false)
    (held c.args.n c.args.address FIRST_KIND _ _ _ false c.holds-else-holds.ensures c.deref-else-holds.ensures.value c.if-holds-2.false)
    (held c.args.n c.args.address FIRST_TABLE _ _ _ false c.holds-else-holds-2.ensures c.deref-else-holds-2.ensures.value c.if-holds-3.false)
    (held c.args.n c.args.address FIRST_SCRATCH _ _ _ true c.holds-else-holds-3.ensures c.deref-else-holds-3.ensures.value c.if-holds-4.true) c.read_in-then-holds-4.ensures.reads

pub returns-else-holds-4-clause-reads : goal.returns-else-holds-4-clause-reads
returns-else-holds-4-clause-reads g c =
    nothing_into (memory_of c.args.regions.now) c.args.k c.args.n c.args.address (tapes_of (g.U.UnitSet.seen c.args.units.now)) (tapes_of (g.U.UnitSet.seen c.read.new.self)) c.read.result _ c.requires
    (held c.args.n c.args.address FIRST_CELL _ _ _ false c.holds.ensures c.deref.ensures.value c.if-holds.false)
    (held c.args.n c.args.address FIRST_KIND _ _ _ false c.holds-else-holds.ensures c.deref-else-holds.ensures.value c.if-holds-2.false)
    (held c.args.n c.args.address FIRST_TABLE _ _ _ false c.holds-else-holds-2.ensures c.deref-else-holds-2.ensures.value c.if-holds-3.false)
    (held c.args.n c.args.address FIRST_SCRATCH _ _ _ false c.holds-else-holds-3.ensures c.deref-else-holds-3.ensures.value c.if-holds-4.false) c.read.ensures.tapes
