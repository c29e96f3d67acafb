use Rattle.std.proofs.lemmas.Int.{to_z-of_z}
use Rattle.rows_macros.proofs.OneStatement.{only_well_formed}
use Rattle.rows_macros.proofs.one_statement.only.Goals as goal
use mir.Val.{SFits}
use mir.Syntax.{w64}

pub returns : goal.returns
returns c =
    let f_a : SFits w64 c.args.a = c.ranges.a in
    let f_b : SFits w64 c.args.b = c.ranges.b in
    let f_c : SFits w64 c.args.c = c.ranges.c in
    let cells = simp to_z-of_z at c.in_ok-cells.ensures.items in
    rw (c.of.ensures, c.of-2.ensures, c.of-3.ensures, c.of-4.ensures, c.in_ok-vec.ensures.items, cells, c.new.ensures.items)
    (only_well_formed c.args.params.now c.args.statement c.args.a c.args.b c.args.c c.args.formats.items c.requires.standard c.requires.legal c.requires.fits c.requires.needed c.requires.formats c.requires.lengths c.requires.bytes c.ranges.a c.ranges.b c.ranges.c)
