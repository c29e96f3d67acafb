use Rattle.std.proofs.Common.{length, lit≤}
use Rattle.std.proofs.lemmas.Int.{to_z-of_z}
use Rattle.sil_model.specs.declared.program.Arg.TheVariants.{Absent}
use Rattle.exp_common.proofs.JoinedParts.{grows_from, grows_then}
use Rattle.exp_common.proofs.Leads.{lead_within}
use Rattle.string_runtime.specs.StringParts.{compare_code}
use Rattle.string_runtime.proofs.Comparing.{lexcmp_code, lexcmp_does, lexcmp_piece}
use Rattle.string_runtime.proofs.scans.lexcmp.Goals as goal
use mir.Val.{SFits}
use mir.Syntax.{w64}

pub returns : goal.returns
unfolding compare_code
returns c =
    let f_s1 : SFits w64 c.args.s1 = c.ranges.s1 in
    let f_s2 : SFits w64 c.args.s2 = c.ranges.s2 in
    let to = c.statements-greater.ensures in
    let appends = simp (to.greater, to.equal, to.less) at c.in_ok-append.ensures.appends in
    let length1 = simp to_z-of_z at c.in_ok-append_length.ensures.grown in
    let length2 = simp to_z-of_z at c.in_ok-append_length-2.ensures.grown in
    let first1 = simp to_z-of_z at c.in_ok-append_first.ensures.grown in
    let first2 = simp to_z-of_z at c.in_ok-append_first-2.ensures.grown in
    let among = lead_within (length c.args.code.now.entries) c.args.k in
    let w0 = among c.args.to.greater c.requires.statement (c.requires.within 2 Absent (lit≤ tt)) in
    let w1 = among c.args.to.equal c.requires.statement (c.requires.within 3 Absent (lit≤ tt)) in
    let w2 = among c.args.to.less c.requires.statement (c.requires.within 4 Absent (lit≤ tt)) in
    record {
      piece = lexcmp_code c.args.k c.args.s1 c.args.s2 c.args.to.greater c.args.to.equal c.args.to.less c.args.specials.now;
      stands = grows_from _ _ _ _ c.begin_statement.ensures (grows_then _ _ _ _ _ c.in_ok-append_start.ensures.grown (grows_then _ _ _ _ _ length1 (grows_then _ _ _ _ _ c.in_ok-append_copy_length.ensures.grown (grows_then _ _ _ _ _ length2 (grows_then _ _ _ _ _ c.in_ok-append_shorter.ensures.grown (grows_then _ _ _ _ _ first1 (grows_then _ _ _ _ _ c.in_ok-append_copy_first.ensures.grown (grows_then _ _ _ _ _ first2 appends))))))));
      is_piece = lexcmp_piece c.args.k c.args.s1 c.args.s2 c.args.to.greater c.args.to.equal c.args.to.less c.args.specials.now _ _ w0 w1 w2;
      does = lexcmp_does c.args.k c.args.s1 c.args.s2 c.args.to.greater c.args.to.equal c.args.to.less c.args.specials.now (length c.args.code.now.entries) 0 w0 w1 w2;
    }
