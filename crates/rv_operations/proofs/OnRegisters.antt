-- Constants, copies and sums.
use Rattle.std.proofs.Common.{◌+◌, [], ◌∷◌, refl, ap, ◌∙◌, arith}
use Rattle.std.specs.Int.{w64, cast_unsigned}
use Rattle.sil_micro.specs.MicroStates.{held}
use Rattle.sil_micro.specs.MicroWords.{computed}
use Rattle.rv_emulate.specs.EmulatorStates.{register}
use Rattle.rv_emulate.specs.InstrValues.{r_value}
use Rattle.rv_straight.specs.InstrEffects.{Value}
use Rattle.rv_straight.specs.Straight.{◌▸◌}
use Rattle.rv_straight.proofs.Reaching.{start}
use Rattle.rv_operations.specs.Homes.{home}
use Rattle.rv_operations.specs.OpCodes.{arith_op}
use Rattle.rv_operations.specs.Laws.{LawOfCopy, LawOfArith}
use Rattle.rv_operations.proofs.Doing.{moves_from, unsigned_small}
use Rattle.rv_operations.proofs.Setting.{sets}
use Rattle.rv_operations.proofs.Sums.{computed_is, gives_computed}

pub copies : LawOfCopy
copies image last g places to from u s to_ok from_ok h =
    let st = h.stands in
    let z = held u.registers from in
    sets places st (λ q free. refl) (start h.code st.file) 1 (Value (cast_unsigned w64 z) ∷ []) to z [] (s.pc + 4) to_ok (st.fit from from_ok) (omega arith) (omega arith) (moves_from st from [] from_ok refl ▸ tt) refl refl refl (omega arith)

pub computes : LawOfArith
computes image last g places kind to left right u s to_ok left_ok right_ok h =
    let st = h.stands in
    let x = held u.registers left in
    let y = held u.registers right in
    let z = computed kind x y in
    let has = computed_is kind x y (st.fit left left_ok) (st.fit right right_ok) in
    let value = ap (λ v. r_value (arith_op kind) v (register s.registers (home right))) (st.registers left left_ok) ∙ ap (λ w. r_value (arith_op kind) (cast_unsigned w64 x) w) (st.registers right right_ok) ∙ has.0 in
    let gives = gives_computed kind (r_value (arith_op kind) (register s.registers (home left)) (register s.registers (home right))) (cast_unsigned w64 z) value (unsigned_small z has.1) in
    sets places st (λ q free. refl) (start h.code st.file) 1 (Value (cast_unsigned w64 z) ∷ []) to z [] (s.pc + 4) to_ok has.1 (omega arith) (omega arith) (gives ▸ tt) refl refl refl (omega arith)
