-- The routine that sets a word of the state.
use Rattle.std.proofs.Common.{◌≡◌, ℕ, ◌+◌, ◌-◌, ◌*◌, ◌%◌, ◌^◌, ◌<◌, ◌≤◌, [], ◌∷◌, length, Some, None, Bool, true, false, cond, ◌==◌, ◌&&◌, refl, ap, arith}
use Rattle.std.specs.Prelude.{nat_lt, not}
use Rattle.layout_params.specs.Sizes.{Sizes}
use Rattle.sil_model.specs.Memory as abstract
use Rattle.image_file.specs.Image.{Image}
use Rattle.rv_emulate.specs.EmulatorMemory.{stored}
use Rattle.rv_emulate.specs.EmulatorStates.{State, register}
use Rattle.rv_emulate.specs.InstrValues.{sum64}
use Rattle.rv_straight.specs.Registers.{IsFile}
use Rattle.rv_straight.specs.InstrEffects.{Value, Leaves}
use Rattle.rv_straight.specs.Straight.{◌▸◌}
use Rattle.rv_straight.specs.Code.{IsNext}
use Rattle.rv_straight.specs.Reaching.{Reaches}
use Rattle.rv_straight.proofs.Ways.{comes_within}
use Rattle.rv_straight.proofs.Reaching.{start, straight, passes, branches, undefined}
use Rattle.rv_straight.proofs.Leaps.{code_at}
use Rattle.rv_routines.specs.Holds.{HoldsMemory}
use Rattle.rv_routines.specs.Routines.{Tested}
use Rattle.rv_routines.specs.RoutineCodes.{state_code}
use Rattle.rv_routines.specs.Tests.{state_written, scratch_written}
use Rattle.rv_routines.specs.Laws.{LawOfState}
use Rattle.rv_routines.proofs.Cells.{few_bytes}
use Rattle.rv_routines.proofs.Checking.{lt_of}
use Rattle.rv_routines.proofs.Regions.{store_scratch}
use Rattle.rv_routines.proofs.Returning.{returns}

word_place : (x : ℕ) → x < 2 → sum64 (x * 2 ^ 3 % 2 ^ 64) 0x6C00_0000 ≡ 0x6C00_0000 + 8 * x
word_place x h = omega arith

module _ {image : Image} {last : ℕ} (sizes : Sizes) {s : State} (mm : abstract.Memory) (holds : HoldsMemory sizes mm s.memory) (c : IsNext image last s state_code) (file : IsFile s.registers) (few : register s.registers 26 ≤ length image.statements) (even : register s.registers 11 % 2 ≡ 0) where
  abbrev x : ℕ
  x = register s.registers 10

  abbrev v : ℕ
  v = register s.registers 12

  abbrev steps : ℕ
  steps = (register s.registers 25 + (2 ^ 64 - register s.registers 27)) % 2 ^ 64

  to_1 : Reaches c 1 1 ((28, 2) ∷ []) s.memory
  to_1 = straight (start c file) 1 (Value 2 ∷ []) (omega arith) (omega arith) (refl ▸ tt)

  -- word 0 or 1 is written
  by_word : nat_lt x 2 ≡ true → Tested (state_written s.memory) image last 8 7 s (Some (Some (x, v)))
  by_word e =
      let lt = lt_of x 2 e in
      let place : ℕ = 0x6C00_0000 + 8 * x in
      let near : sum64 place 0 ≡ place = omega arith in
      let store : stored s.memory 8 (sum64 place 0) v ≡ Some (scratch_written s.memory x v) = rw near (store_scratch s.memory x v (few_bytes sizes mm s.memory holds most) (omega (arith, holds.kinds_size, holds.valid.count)) holds.tables_size (omega (arith, holds.scratch_size))) in
      let r = straight (branches to_1 9 refl (omega arith) (omega arith) e (omega (arith, c.low))) 4 (Value (x * 2 ^ 3 % 2 ^ 64) ∷ Value 0x6C00_0000 ∷ Value place ∷ Leaves (scratch_written s.memory x v) ∷ []) (omega arith) (omega arith) (refl ▸ refl ▸ word_place x lt ▸ store ▸ tt) in
      returns r refl refl even file
    where
      most : sizes.descr ≤ 64
      most = omega (arith, holds.valid.limits.most, holds.limit)

  -- or the number of steps stays
  to_2 : nat_lt x 2 ≡ false → Reaches c 2 2 ((28, 2) ∷ []) s.memory
  to_2 e = passes to_1 refl (omega arith) e

  to_4 : nat_lt x 2 ≡ false → (x == 2) ≡ true → Reaches c 4 4 ((28, steps) ∷ (28, 2) ∷ []) s.memory
  to_4 e f = straight (passes (to_2 e) refl (omega arith) (ap not f)) 1 (Value steps ∷ []) (omega arith) (omega arith) (refl ▸ tt)

  by_steps : (a b : Bool) → nat_lt x 2 ≡ false → (x == 2) ≡ a → (v == steps) ≡ b → Tested (state_written s.memory) image last 8 7 s (cond (a && b) (Some None) None)
  by_steps false b e f h = comes_within image last false 6 8 s _ (undefined (branches (to_2 e) 6 refl (omega arith) (omega arith) (ap not f) (omega (arith, c.low))) _ refl refl (omega arith) refl few) (omega arith)
  by_steps true false e f h = undefined (branches (to_4 e f) 6 refl (omega arith) (omega arith) (ap not h) (omega (arith, c.low))) _ refl refl (omega arith) refl few
  by_steps true true e f h =
      let back = returns (passes (to_4 e f) refl (omega arith) (ap not h)) refl refl even file in
      (back.0, comes_within image last false 6 7 s _ back.1 (omega arith), back.2, back.3)

  by_test : (b : Bool) → nat_lt x 2 ≡ b → Tested (state_written s.memory) image last 8 7 s (cond b (Some (Some (x, v))) (cond ((x == 2) && (v == steps)) (Some None) None))
  by_test true e = by_word e
  by_test false e = by_steps (x == 2) (v == steps) e refl refl

pub sets_state : LawOfState
sets_state image last sizes count place apart = record {
  free = apart.free place (omega arith) (omega (arith, apart.some));
  low = omega (arith, apart.low);
  even = apart.even;
  runs = λ memory s same at holds file few even. by_test sizes memory holds (code_at apart s at) file few even (nat_lt (register s.registers 10) 2) refl;
}
