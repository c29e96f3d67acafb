-- Jumps between operations.
use Rattle.std.proofs.Common.{◌≡◌, ℕ, ◌+◌, ◌-◌, ◌*◌, ◌%◌, ◌^◌, ◌<◌, List, [], ◌∷◌, Bool, true, false, refl, ap, subst, ◌∙◌, arith}
use Rattle.std.specs.Prelude.{not}
use Rattle.std.specs.Int.{w64, cast_unsigned}
use Rattle.rv_isa.specs.declared.instr.Instr.{Instr}
use Rattle.sil_micro.specs.declared.op.Target.{Target}
use Rattle.sil_micro.specs.declared.op.Test.{Test}
use Rattle.sil_micro.specs.MicroStates.{Setting, Micro, held}
use Rattle.sil_micro.specs.Operations.{jump_if}
use Rattle.sil_micro.specs.MicroWords.{holds}
use Rattle.image_file.specs.Image.{Image}
use Rattle.rv_emulate.specs.EmulatorStates.{State, register}
use Rattle.rv_emulate.specs.InstrValues.{taken}
use Rattle.rv_straight.specs.Registers.{Writes, written}
use Rattle.rv_straight.specs.Straight.{at}
use Rattle.rv_straight.specs.Jumps.{inverse, leap_code, jump_if_code}
use Rattle.rv_straight.specs.Reaching.{Reaches}
use Rattle.rv_straight.proofs.Ways.{comes_within}
use Rattle.rv_straight.proofs.Registers.{read_kept, knows_write, knows_start}
use Rattle.rv_straight.proofs.Leaps.{half_way}
use Rattle.rv_straight.proofs.Reaching.{start, passes, leaves, leaps}
use Rattle.rv_straight.proofs.JumpsIf.{inverse_is}
use Rattle.rv_operations.specs.Homes.{home, is_temporary}
use Rattle.rv_operations.specs.CodePlaces.{Places, target_place}
use Rattle.rv_operations.specs.OpCodes.{branch_op}
use Rattle.rv_operations.specs.StandsFor.{StandsFor}
use Rattle.rv_operations.specs.Does.{Does, Begins}
use Rattle.rv_operations.specs.Laws.{LawOfJump, LawOfJumpIf}
use Rattle.rv_operations.proofs.Standing.{stands_at}
use Rattle.rv_operations.proofs.Sums.{taken_is}

half_small : (from to : ℕ) → half_way from to < 2 ^ 64
half_small from to = omega arith

module _ {image : Image} {last : ℕ} {g : Setting} {code : List Instr} {u : Micro} {s : State} (h : Begins image last g code u s) where
  -- behind a jump x28 alone is changed
  jumped : (from to : ℕ) → StandsFor g u (at s to ((28, half_way from to) ∷ []) s.memory)
  jumped from to =
      let ws : Writes = (28, half_way from to) ∷ [] in
      let know = knows_write s.registers [] 28 (half_way from to) (knows_start s.registers h.stands.file) (omega arith) (half_small from to) in
      stands_at g u s to (written s.registers ws) h.stands know.file (λ q free. know.reads q ∙ read_kept is_temporary s.registers ws q refl free)

pub jumps_to : LawOfJump
jumps_to image last g places to u s near even h =
    let place = target_place places to in
    let z : s.pc ≡ s.pc + 4 * 0 = omega arith in
    let h' = subst (λ q. Begins image last g (leap_code 28 0 q place) u s) z h in
    let way = leaps (start h'.code h.stands.file) 28 0 place (omega arith) refl refl (omega arith) near even in
    (at s place ((28, half_way (s.pc + 4 * 0) place) ∷ []) s.memory, way, refl, jumped h (s.pc + 4 * 0) place)

module _ {image : Image} {last : ℕ} {g : Setting} (places : Places) (test : Test) (left right : ℕ) (to : Target) {u : Micro} {s : State} (left_ok : left < 16) (right_ok : right < 16) (near : target_place places to < 2 ^ 31 - 2 ^ 12) (even : target_place places to % 4 ≡ 0) (h : Begins image last g (jump_if_code (branch_op test) (home left) (home right) s.pc (target_place places to)) u s) where
  abbrev place : ℕ
  place = target_place places to

  abbrev goes : Bool
  goes = holds test (held u.registers left) (held u.registers right)

  p : Reaches h.code 0 0 [] s.memory
  p = start h.code h.stands.file

  test_is : taken (inverse (branch_op test)) (register s.registers (home left)) (register s.registers (home right)) ≡ not goes
  test_is =
      inverse_is (branch_op test) (register s.registers (home left)) (register s.registers (home right))
      ∙ ap not
      (ap (λ v. taken (branch_op test) v (register s.registers (home right))) (h.stands.registers left left_ok)
      ∙ ap (λ w. taken (branch_op test) (cast_unsigned w64 (held u.registers left)) w) (h.stands.registers right right_ok)
      ∙ taken_is test (held u.registers left) (held u.registers right) (h.stands.fit left left_ok) (h.stands.fit right right_ok))

  by_test : (b : Bool) → goes ≡ b → Does image last g places false 3 (s.pc + 12) s (jump_if b to u)
  by_test false e =
      let way = leaves p 3 refl (test_is ∙ ap not e) (omega (arith, h.code.low)) in
      (at s (s.pc + 12) [] s.memory, comes_within image last false 1 3 s _ way (omega arith), refl, stands_at g u s (s.pc + 12) s.registers h.stands h.stands.file (λ q free. refl))
  by_test true e =
      let way = leaps (passes p refl (omega arith) (test_is ∙ ap not e)) 28 0 place (omega arith) refl refl (omega arith) near even in
      (at s place ((28, half_way (s.pc + 4 * 1) place) ∷ []) s.memory, way, refl, jumped h (s.pc + 4 * 1) place)

pub jumps_if : LawOfJumpIf
jumps_if image last g places test left right to u s left_ok right_ok near even h =
    by_test places test left right to left_ok right_ok near even h (holds test (held u.registers left) (held u.registers right)) refl
