use Rattle.std.proofs.Common.{pos, get_or, arith, rules, ◌∙◌}
use Rattle.std.proofs.lemmas.Int.{to_z-of_z}
use Rattle.sil_model.specs.Specifiers.{set_spec_at}
use Rattle.sil_model.specs.Lists.{all_specs_written}
use Rattle.flow_clauses.proofs.Turns.{write_more, write_stops, write_end, all_specs_written_none, all_specs_written_more}
use Rattle.flow_clauses.proofs.specifiers.write_specs.Goals as goal
use mir.Val.{SFits}
use mir.Syntax.{w64}

pub loop-i-preserved : goal.loop-i-preserved
loop-i-preserved c =
    let f_place : SFits w64 (get_or c.args.places.now c.loop-i.i (pos 0)) = search rules in
    let wrote = simp to_z-of_z at c.in_ok-set_spec.ensures.writes in
    record {
      writes = write_more set_spec_at all_specs_written all_specs_written_none all_specs_written_more _ _ _ _ _ _ _ c.loop-i-test.true (omega arith) wrote c.loop-i.invariant.writes;
      keeps = record { limits = c.set_spec.ensures.keeps.limits ∙ c.loop-i.invariant.keeps.limits; count = c.set_spec.ensures.keeps.count ∙ c.loop-i.invariant.keeps.count };
    }

pub returns-in_err-set_spec-clause-writes : goal.returns-in_err-set_spec-clause-writes
returns-in_err-set_spec-clause-writes c =
    let f_place : SFits w64 (get_or c.args.places.now c.loop-i.i (pos 0)) = search rules in
    let wrote = simp to_z-of_z at c.in_err-set_spec.ensures.writes in
    rw c.from_residual.ensures (write_stops set_spec_at all_specs_written all_specs_written_none all_specs_written_more _ _ _ _ _ _ c.loop-i-test.true (omega arith) wrote c.loop-i.invariant.writes)

pub returns-clause-writes : goal.returns-clause-writes
returns-clause-writes c = write_end set_spec_at all_specs_written all_specs_written_none all_specs_written_more _ _ _ _ _ (omega arith) c.loop-i.invariant.writes
