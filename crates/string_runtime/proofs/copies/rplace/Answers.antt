use Rattle.std.proofs.lemmas.Int.{to_z-of_z}
use Rattle.exp_common.proofs.JoinedParts.{grows_from, grows_then}
use Rattle.string_runtime.specs.StringParts.{replace_code}
use Rattle.string_runtime.proofs.Replacing.{rplace_code, rplace_does, rplace_piece}
use Rattle.string_runtime.proofs.copies.rplace.Goals as goal
use mir.Val.{SFits}
use mir.Syntax.{w64}

pub returns : goal.returns
unfolding replace_code
returns c =
    let f_s1 : SFits w64 c.args.s1 = c.ranges.s1 in
    let f_s2 : SFits w64 c.args.s2 = c.ranges.s2 in
    let f_s3 : SFits w64 c.args.s3 = c.ranges.s3 in
    let length1 = simp to_z-of_z at c.in_ok-append_length.ensures.grown in
    let length2 = simp to_z-of_z at c.in_ok-append_length-2.ensures.grown in
    let length3 = simp to_z-of_z at c.in_ok-append_length-3.ensures.grown in
    let first1 = simp to_z-of_z at c.in_ok-append_first.ensures.grown in
    let first2 = simp to_z-of_z at c.in_ok-append_first-2.ensures.grown in
    let first3 = simp to_z-of_z at c.in_ok-append_first-3.ensures.grown in
    record {
      piece = rplace_code c.args.k c.args.s1 c.args.s2 c.args.s3 c.args.specials.now;
      stands = grows_from _ _ _ _ c.begin_statement.ensures (grows_then _ _ _ _ _ c.in_ok-append_start.ensures.grown (grows_then _ _ _ _ _ length1 (grows_then _ _ _ _ _ first1 (grows_then _ _ _ _ _ c.in_ok-append_keep_first.ensures.grown (grows_then _ _ _ _ _ length2 (grows_then _ _ _ _ _ first2 (grows_then _ _ _ _ _ c.in_ok-append_keep_second.ensures.grown (grows_then _ _ _ _ _ length3 (grows_then _ _ _ _ _ first3 c.in_ok-append.ensures.appends)))))))));
      is_piece = rplace_piece c.args.k c.args.s1 c.args.s2 c.args.s3 c.args.specials.now _ _;
      does = rplace_does c.args.k c.args.s1 c.args.s2 c.args.s3 c.args.specials.now;
    }
