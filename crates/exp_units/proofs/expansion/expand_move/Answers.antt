use Rattle.std.proofs.Common.{rules}
use Rattle.std.proofs.lemmas.Int.{to_z-of_z}
use Rattle.std.proofs.lemmas.Result.{on_ok_weaker}
use Rattle.exp_units.proofs.Moving.{by_bkspce, by_enfile, by_name, by_rewind}
use Rattle.exp_units.proofs.expansion.expand_move.Goals as goal
use mir.Val.{SFits}
use mir.Syntax.{w64}

pub returns-in-Bkspce : goal.returns-in-Bkspce
returns-in-Bkspce c =
    let f_d : SFits w64 c.place_alone.result = search rules in
    let x = simp to_z-of_z at c.unit_move.ensures in
    on_ok_weaker _ (by_name _ _ c.in-Bkspce.is by_bkspce c.items-args.ensures c.place_alone.ensures) x

pub returns-in-Enfile : goal.returns-in-Enfile
returns-in-Enfile c =
    let f_d : SFits w64 c.place_alone-in-Enfile.result = search rules in
    let x = simp to_z-of_z at c.unit_move-in-Enfile.ensures in
    on_ok_weaker _ (by_name _ _ c.in-Enfile.is by_enfile c.items-args.ensures c.place_alone-in-Enfile.ensures) x

pub returns-in-Rewind : goal.returns-in-Rewind
returns-in-Rewind c =
    let f_d : SFits w64 c.place_alone-in-Rewind.result = search rules in
    let x = simp to_z-of_z at c.unit_move-in-Rewind.ensures in
    on_ok_weaker _ (by_name _ _ c.in-Rewind.is by_rewind c.items-args.ensures c.place_alone-in-Rewind.ensures) x
