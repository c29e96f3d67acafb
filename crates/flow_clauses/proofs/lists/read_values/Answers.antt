use Rattle.std.proofs.Common.{◌≡◌, pos, length, get_or, length-set, sym, arith, rules}
use Rattle.std.proofs.lemmas.Int.{to_z-of_z}
use Rattle.sil_format.specs.declared.value.Value.{Value}
use Rattle.flow_clauses.proofs.Turns.{read_more, read_stops, read_end, value_at, all_values_read, all_values_none, all_values_more}
use Rattle.flow_clauses.proofs.lists.read_values.Goals as goal
use mir.Val.{SFits}
use mir.Syntax.{w64}

pub loop-i-preserved : goal.loop-i-preserved
loop-i-preserved c =
    let f_place : SFits w64 (get_or c.args.places.now c.loop-i.i (pos 0)) = search rules in
    let read = simp to_z-of_z at c.in_ok-values.ensures in
    record {
      reads = read_more value_at all_values_read all_values_none all_values_more _ _ _ _ _ c.loop-i-test.true (omega arith) (sym read) c.loop-i.invariant.reads;
      size = omega (arith, length-set {A = Value});
    }

pub returns-in_err-values : goal.returns-in_err-values
returns-in_err-values c =
    let f_place : SFits w64 (get_or c.args.places.now c.loop-i.i (pos 0)) = search rules in
    let read = simp to_z-of_z at c.in_err-values.ensures in
    rw c.from_residual.ensures (read_stops value_at all_values_read all_values_none all_values_more _ _ _ _ c.loop-i-test.true (sym read) c.loop-i.invariant.reads)

pub returns : goal.returns
returns c =
    let all : c.loop-i.i ≡ length c.args.places.now = omega arith in
    read_end value_at all_values_read all_values_none all_values_more _ _ _ _ all c.loop-i.invariant.reads
