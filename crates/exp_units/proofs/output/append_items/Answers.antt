use Rattle.std.proofs.Common.{◌≡◌, ap, pos, get_or, append-nil, sym, subst, rules, arith}
use Rattle.std.proofs.lemmas.Int.{ints, to_z-of_z}
use Rattle.std.proofs.lemmas.List.{take_all}
use Rattle.sil_micro.specs.Codes.{appended}
use Rattle.sil_micro.specs.Pieces.{placed}
use Rattle.exp_units.specs.UnitParts.{items_code}
use Rattle.exp_units.proofs.ItemWords.{items_grow}
use Rattle.exp_units.proofs.output.append_items.Goals as goal
use mir.Val.{SFits}
use mir.Syntax.{w64}

pub loop-i-init : goal.loop-i-init
unfolding placed items_code
loop-i-init c = record { grown = ap (λ l. record c.args.code.now { ops = l }) (sym (append-nil c.args.code.now.ops)); count = omega arith }

pub loop-i-preserved : goal.loop-i-preserved
loop-i-preserved c =
    let f_place : SFits w64 (get_or c.args.places.now c.loop-i.i (pos 0)) = search rules in
    let grown = simp to_z-of_z at c.in_ok-append.ensures.appends in
    record { grown = items_grow _ _ _ _ _ _ (omega (arith, ints)) c.loop-i-test.true c.loop-i.invariant.grown grown; count = omega (arith, c.in_ok-append.ensures.count) }

pub returns-clause-grown : goal.returns-clause-grown
returns-clause-grown c = subst (λ l. c.loop-i.code ≡ appended c.args.code.now (items_code 0 l)) (take_all c.loop-i.i c.args.places.now (omega arith)) c.loop-i.invariant.grown
