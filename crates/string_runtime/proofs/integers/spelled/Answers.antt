use Rattle.std.proofs.Common.{length, lit≤}
use Rattle.std.proofs.lemmas.Int.{to_z-of_z, to_z_pos}
use Rattle.sil_model.specs.declared.program.Arg.TheVariants.{Absent}
use Rattle.exp_common.proofs.JoinedParts.{grows_from, grows_then}
use Rattle.exp_common.proofs.Leads.{lead_within}
use Rattle.string_runtime.specs.StringParts.{digits_code}
use Rattle.string_runtime.proofs.Digits.{spcint_code, spcint_does, spcint_piece}
use Rattle.string_runtime.proofs.integers.spelled.Goals as goal
use mir.Val.{SFits}
use mir.Syntax.{w64}

pub returns : goal.returns
unfolding digits_code
returns c =
    let f_d : SFits w64 c.args.d = c.ranges.d in
    let f_s : SFits w64 c.args.s = c.ranges.s in
    let to = c.statements-failure.ensures in
    let appends = simp (to_z-of_z, to_z_pos, to.no, to.yes, c.requires.small) at c.in_ok-append.ensures.appends in
    let length' = simp to_z-of_z at c.in_ok-append_length.ensures.grown in
    let first = simp to_z-of_z at c.in_ok-append_first.ensures.grown in
    let among = lead_within (length c.args.code.now.entries) c.args.k in
    let w0 = among c.args.to.no c.requires.statement (c.requires.within 2 Absent (lit≤ tt)) in
    let w1 = among c.args.to.yes c.requires.statement (c.requires.within 3 Absent (lit≤ tt)) in
    record {
      piece = spcint_code c.args.k c.args.d c.args.s c.args.to.no c.args.to.yes c.args.specials.now c.args.code_value;
      stands = grows_from _ _ _ _ c.begin_statement.ensures (grows_then _ _ _ _ _ c.in_ok-append_start.ensures.grown (grows_then _ _ _ _ _ length' (grows_then _ _ _ _ _ first appends)));
      is_piece = spcint_piece c.args.k c.args.d c.args.s c.args.to.no c.args.to.yes c.args.specials.now c.args.code_value _ _ w0 w1;
      does = spcint_does c.args.k c.args.d c.args.s c.args.to.no c.args.to.yes c.args.specials.now c.args.code_value (length c.args.code.now.entries) 0 w0 w1 c.requires.value;
    }
