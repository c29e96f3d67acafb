use Rattle.std.proofs.Common.{length, lit≤}
use Rattle.std.proofs.lemmas.Int.{to_z-of_z}
use Rattle.sil_model.specs.declared.program.Arg.TheVariants.{Absent}
use Rattle.exp_common.proofs.JoinedParts.{grows_from}
use Rattle.exp_common.proofs.Leads.{lead_within}
use Rattle.tree_clauses.specs.TreeTable.{tree_clause}
use Rattle.pattern_runtime.proofs.Searching.{located_code, located_does, located_piece}
use Rattle.pattern_runtime.proofs.pairs.locapv.Goals as goal
use mir.Val.{SFits}
use mir.Syntax.{w64}

pub returns : goal.returns
unfolding tree_clause
returns c =
    let f_d1 : SFits w64 c.args.d1 = c.ranges.d1 in
    let f_d2 : SFits w64 c.args.d2 = c.ranges.d2 in
    let f_d3 : SFits w64 c.args.d3 = c.ranges.d3 in
    let grown = simp to_z-of_z at c.in_ok-append_search.ensures in
    let among = lead_within (length c.args.code.now.entries) c.args.k in
    let w0 = among c.args.to.no c.requires.statement (c.requires.within 3 Absent (lit≤ tt)) in
    let w1 = among c.args.to.yes c.requires.statement (c.requires.within 4 Absent (lit≤ tt)) in
    record {
      piece = located_code c.args.k 2 c.args.d1 c.args.d2 c.args.d3 c.args.to.no c.args.to.yes c.args.specials.now;
      stands = grows_from _ _ _ _ c.begin_statement.ensures grown;
      is_piece = located_piece c.args.k 2 c.args.d1 c.args.d2 c.args.d3 c.args.to.no c.args.to.yes c.args.specials.now _ _ w0 w1;
      does = located_does c.args.k 2 c.args.d1 c.args.d2 c.args.d3 c.args.to.no c.args.to.yes c.args.specials.now (lit≤ tt);
    }
