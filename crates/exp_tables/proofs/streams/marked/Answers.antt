use Rattle.std.proofs.Common.{length, lit≤}
use Rattle.std.proofs.lemmas.Int.{to_z-of_z}
use Rattle.sil_model.specs.declared.program.Arg.TheVariants.{Absent}
use Rattle.exp_common.proofs.JoinedParts.{grows_from, grows_then}
use Rattle.exp_common.proofs.Leads.{lead_within}
use Rattle.exp_tables.proofs.Streaming.{stream_code, stream_does, stream_piece}
use Rattle.exp_tables.proofs.streams.marked.Goals as goal
use mir.Val.{SFits}
use mir.Syntax.{w64}

pub returns : goal.returns
returns c =
    let f_stype : SFits w64 c.args.stype = c.ranges.stype in
    let f_s1 : SFits w64 c.args.s1 = c.ranges.s1 in
    let f_s2 : SFits w64 c.args.s2 = c.ranges.s2 in
    let to = c.statements-error.ensures in
    let read = simp to_z-of_z at c.in_ok-append_read.ensures.grown in
    let walk = simp (to_z-of_z, to.error) at c.in_ok-append_walk.ensures.grown in
    let part = simp (to_z-of_z, to.run_out, to.stop) at c.in_ok-append_part.ensures.grown in
    let among = lead_within (length c.args.code.now.entries) c.args.k in
    let w0 = among c.args.to.error c.requires.statement (c.requires.within 3 Absent (lit≤ tt)) in
    let w1 = among c.args.to.run_out c.requires.statement (c.requires.within 4 Absent (lit≤ tt)) in
    let w2 = among c.args.to.stop c.requires.statement (c.requires.within 5 Absent (lit≤ tt)) in
    record {
      piece = stream_code c.args.k c.args.s1 c.args.s2 c.args.t c.args.to.error c.args.to.run_out c.args.to.stop c.args.stype c.args.specials.now;
      stands = grows_from _ _ _ _ c.begin_statement.ensures (grows_then _ _ _ _ _ read (grows_then _ _ _ _ _ walk part));
      is_piece = stream_piece c.args.k c.args.s1 c.args.s2 c.args.t c.args.to.error c.args.to.run_out c.args.to.stop c.args.stype c.args.specials.now _ _ w0 w1 w2;
      does = stream_does c.args.k c.args.s1 c.args.s2 c.args.t c.args.to.error c.args.to.run_out c.args.to.stop c.args.stype c.args.specials.now (length c.args.code.now.entries) 0 w0 w1 w2 c.requires.place;
    }
