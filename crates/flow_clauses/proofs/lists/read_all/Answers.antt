use Rattle.std.proofs.Common.{◌≡◌, pos, length, take, get_or, length-set, refl, sym, subst, arith, rules}
use Rattle.std.specs.Prelude.{All}
use Rattle.std.proofs.lemmas.List.{take_more_set}
use Rattle.std.proofs.lemmas.List.Elements.{All-nil, All-push}
use Rattle.std.proofs.lemmas.Int.{to_z-of_z}
use Rattle.layout_params.specs.declared.cell.Descr.{Descr}
use Rattle.sil_model.specs.Access.{descr_at}
use Rattle.sil_model.specs.Lists.{all_read}
use Rattle.sil_model.specs.Memory.{FitsDescr}
use Rattle.flow_clauses.proofs.Turns.{nothing_read, read_more, read_stops, read_end, all_read_none, all_read_more}
use Rattle.flow_clauses.proofs.lists.read_all.Goals as goal
use mir.Val.{SFits}
use mir.Syntax.{w64}

pub loop-i-init : goal.loop-i-init
loop-i-init c = record { reads = sym (nothing_read (all_read c.args.cells.now c.args.places.now)); fits = All-nil (FitsDescr c.args.cells.now.limits); size = refl }

pub loop-i-preserved : goal.loop-i-preserved
loop-i-preserved c =
    let f_place : SFits w64 (get_or c.args.places.now c.loop-i.i (pos 0)) = search rules in
    let read = simp to_z-of_z at c.in_ok-values.ensures.reads in
    record {
      reads = read_more descr_at all_read all_read_none all_read_more _ _ _ _ _ c.loop-i-test.true (omega arith) (sym read) c.loop-i.invariant.reads;
      fits = subst (All (FitsDescr c.args.cells.now.limits)) (sym (take_more_set c.loop-i.values c.loop-i.i c.in_ok-values.field-0 (omega arith))) (All-push (FitsDescr c.args.cells.now.limits) (take c.loop-i.i c.loop-i.values) c.in_ok-values.field-0 c.loop-i.invariant.fits c.in_ok-values.ensures.fits);
      size = omega (arith, length-set {A = Descr});
    }

pub returns-in_err-values-clause-reads : goal.returns-in_err-values-clause-reads
returns-in_err-values-clause-reads c =
    let f_place : SFits w64 (get_or c.args.places.now c.loop-i.i (pos 0)) = search rules in
    let read = simp to_z-of_z at c.in_err-values.ensures.reads in
    rw c.from_residual.ensures (read_stops descr_at all_read all_read_none all_read_more _ _ _ _ c.loop-i-test.true (sym read) c.loop-i.invariant.reads)

pub returns : goal.returns
returns c =
    let all : c.loop-i.i ≡ length c.args.places.now = omega arith in
    record {
      reads = read_end descr_at all_read all_read_none all_read_more _ _ _ _ all c.loop-i.invariant.reads;
      fits = subst (λ n. All (FitsDescr c.args.cells.now.limits) (take n c.loop-i.values)) all c.loop-i.invariant.fits;
    }
