use Rattle.std.proofs.Common.{pos, get_or, arith, rules, ◌∙◌}
use Rattle.std.proofs.lemmas.Int.{to_z-of_z}
use Rattle.sil_model.specs.Access.{set_descr_at}
use Rattle.sil_model.specs.Lists.{all_written}
use Rattle.flow_clauses.proofs.Turns.{write_more, write_stops, write_end, all_written_none, all_written_more}
use Rattle.flow_clauses.proofs.lists.write_all.Goals as goal
use mir.Val.{SFits}
use mir.Syntax.{w64}

pub loop-i-preserved : goal.loop-i-preserved
loop-i-preserved c =
    let f_place : SFits w64 (get_or c.args.places.now c.loop-i.i (pos 0)) = search rules in
    let wrote = simp to_z-of_z at c.in_ok-set_descr.ensures.writes in
    record {
      writes = write_more set_descr_at all_written all_written_none all_written_more _ _ _ _ _ _ _ c.loop-i-test.true (omega arith) wrote c.loop-i.invariant.writes;
      keeps = record { limits = c.set_descr.ensures.keeps.limits ∙ c.loop-i.invariant.keeps.limits; count = c.set_descr.ensures.keeps.count ∙ c.loop-i.invariant.keeps.count };
    }

pub returns-in_err-set_descr-clause-writes : goal.returns-in_err-set_descr-clause-writes
returns-in_err-set_descr-clause-writes c =
    let f_place : SFits w64 (get_or c.args.places.now c.loop-i.i (pos 0)) = search rules in
    let wrote = simp to_z-of_z at c.in_err-set_descr.ensures.writes in
    rw c.from_residual.ensures (write_stops set_descr_at all_written all_written_none all_written_more _ _ _ _ _ _ c.loop-i-test.true (omega arith) wrote c.loop-i.invariant.writes)

pub returns-clause-writes : goal.returns-clause-writes
returns-clause-writes c = write_end set_descr_at all_written all_written_none all_written_more _ _ _ _ _ (omega arith) c.loop-i.invariant.writes
