use Rattle.std.proofs.lemmas.Int.{to_z-of_z}
use Rattle.exp_common.proofs.JoinedParts.{grows_from, grows_then}
use Rattle.pattern_runtime.proofs.Copying.{cpypat_code, cpypat_does, cpypat_piece}
use Rattle.pattern_runtime.proofs.copies.cpypat.Goals as goal
use mir.Val.{SFits}
use mir.Syntax.{w64}

pub returns : goal.returns
returns c =
    let f_d1 : SFits w64 c.args.d1 = c.ranges.d1 in
    let f_d2 : SFits w64 c.args.d2 = c.ranges.d2 in
    let f_d3 : SFits w64 c.args.d3 = c.ranges.d3 in
    let f_d4 : SFits w64 c.args.d4 = c.ranges.d4 in
    let f_d5 : SFits w64 c.args.d5 = c.ranges.d5 in
    let f_d6 : SFits w64 c.args.d6 = c.ranges.d6 in
    let offsets = simp to_z-of_z at c.in_ok-append_offsets.ensures.grown in
    let begins = simp to_z-of_z at c.in_ok-append_begin.ensures.grown in
    let copies = simp to_z-of_z at c.in_ok-append_copy.ensures.grown in
    record {
      piece = cpypat_code c.args.k c.args.d1 c.args.d2 c.args.d3 c.args.d4 c.args.d5 c.args.d6 c.args.specials.now;
      stands = grows_from _ _ _ _ c.begin_statement.ensures (grows_then _ _ _ _ _ offsets (grows_then _ _ _ _ _ begins copies));
      is_piece = cpypat_piece c.args.k c.args.d1 c.args.d2 c.args.d3 c.args.d4 c.args.d5 c.args.d6 c.args.specials.now _ _;
      does = cpypat_does c.args.k c.args.d1 c.args.d2 c.args.d3 c.args.d4 c.args.d5 c.args.d6 c.args.specials.now;
    }
