use Rattle.std.proofs.Common.{rules, ◌≡◌, ◌-◌, ◌+◌, ◌≤◌, length, arith}
use Rattle.sil_base.specs.Bytes.{AreBytes}
use Rattle.unit_io.specs.Units.{tapes_of}
use Rattle.rv_emulate.proofs.ReadLaws.{part_to}
use Rattle.rv_emulate.proofs.pieces.read_in.Goals as goal

-- src/pieces.rt:55:1
pub returns-clause-reads : goal.returns-clause-reads
returns-clause-reads g c =
    let first = c.args.first in
    let n = c.args.n in
    let i = c.args.address - first in
    let size : i + n - i ≡ n = omega arith in
    let room : i + n ≤ length c.args.bytes.now = (let h = c.requires in grind arith) in
    let fit : AreBytes _ = λ x. let fits = c.type_inv.bytes x in search rules in
    part_to c.args.k n i (i + n - i) (tapes_of (g.U.UnitSet.seen c.args.units.now)) (tapes_of (g.U.UnitSet.seen c.read.new.self)) c.read.result c.args.bytes.now c.read.new.into size room c.read.auto.into fit c.read.ensures.tapes
