use Rattle.std.proofs.lemmas.Int.{to_z-of_z}
use Rattle.exp_common.proofs.JoinedParts.{grows_from, grows_then}
use Rattle.string_runtime.specs.StringParts.{hash_code}
use Rattle.string_runtime.proofs.Hashes.{varid_code, varid_does, varid_piece}
use Rattle.string_runtime.proofs.scans.varid.Goals as goal
use mir.Val.{SFits}
use mir.Syntax.{w64}

pub returns : goal.returns
unfolding hash_code
returns c =
    let f_d : SFits w64 c.args.d = c.ranges.d in
    let f_s : SFits w64 c.args.s = c.ranges.s in
    let appends = simp to_z-of_z at c.in_ok-append.ensures.appends in
    let length = simp to_z-of_z at c.in_ok-append_length.ensures.grown in
    let first = simp to_z-of_z at c.in_ok-append_first.ensures.grown in
    record {
      piece = varid_code c.args.k c.args.d c.args.s c.args.specials.now;
      stands = grows_from _ _ _ _ c.begin_statement.ensures (grows_then _ _ _ _ _ c.in_ok-append_start.ensures.grown (grows_then _ _ _ _ _ length (grows_then _ _ _ _ _ first appends)));
      is_piece = varid_piece c.args.k c.args.d c.args.s c.args.specials.now _ _;
      does = varid_does c.args.k c.args.d c.args.s c.args.specials.now;
    }
