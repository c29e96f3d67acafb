-- The calls that move a unit, by their numbers.
use Rattle.std.specs.Prelude.{ℕ, zero, suc, Bool, true, false, None}
use Rattle.sil_model.specs.Effects.{Effect}
use Rattle.sil_model.specs.Sites.{Site}
use Rattle.sil_model.specs.States.{State}
use Rattle.unit_clauses.specs.UnitClauses.{bkspce, enfile, rewind}

abbrev pub moves_unit : ℕ → Bool
moves_unit (suc (suc (suc (suc zero)))) = true
moves_unit (suc (suc (suc (suc (suc zero))))) = true
moves_unit (suc (suc (suc (suc (suc (suc zero)))))) = true
moves_unit _ = false

-- the clause of the macro that makes the call
abbrev pub move_by : ℕ → Site → State → Effect
move_by (suc (suc (suc (suc zero)))) = rewind
move_by (suc (suc (suc (suc (suc zero))))) = bkspce
move_by (suc (suc (suc (suc (suc (suc zero)))))) = enfile
move_by _ = λ site s. None
