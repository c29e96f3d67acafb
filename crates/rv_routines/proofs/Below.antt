-- The routine that tests a number against another.
use Rattle.std.proofs.Common.{◌≡◌, ℕ, ◌-◌, ◌*◌, ◌%◌, ◌^◌, ◌<◌, ◌≤◌, [], ◌∷◌, length, Some, None, Bool, true, false, cond, refl, ap, arith}
use Rattle.std.specs.Prelude.{nat_lt, not}
use Rattle.image_file.specs.Image.{Image}
use Rattle.rv_emulate.specs.EmulatorStates.{State, register}
use Rattle.rv_emulate.specs.InstrValues.{extended}
use Rattle.rv_straight.specs.Registers.{IsFile, Writes}
use Rattle.rv_straight.specs.InstrEffects.{Value}
use Rattle.rv_straight.specs.Straight.{◌▸◌}
use Rattle.rv_straight.specs.Code.{IsNext}
use Rattle.rv_straight.specs.Constants.{upper_of}
use Rattle.rv_straight.specs.Reaching.{Reaches}
use Rattle.rv_straight.proofs.Reaching.{start, straight, passes, branches, undefined}
use Rattle.rv_straight.proofs.Numbers.{constant_is}
use Rattle.rv_straight.proofs.Leaps.{code_at}
use Rattle.rv_routines.specs.Routines.{Tested, kept}
use Rattle.rv_routines.specs.RoutineCodes.{below_code}
use Rattle.rv_routines.specs.Laws.{LawOfBelow}
use Rattle.rv_routines.proofs.Returning.{returns}

module _ {image : Image} {last : ℕ} (n : ℕ) (small : n < 2 ^ 31 - 2 ^ 11) {s : State} (c : IsNext image last s (below_code n)) (file : IsFile s.registers) (few : register s.registers 26 ≤ length image.statements) (even : register s.registers 11 % 2 ≡ 0) where
  abbrev x : ℕ
  x = register s.registers 10

  abbrev up : ℕ
  up = extended (upper_of n * 2 ^ 12)

  abbrev ws : Writes
  ws = (28, n) ∷ (28, up) ∷ []

  to_2 : Reaches c 2 2 ws s.memory
  to_2 = straight (start c file) 2 (Value up ∷ Value n ∷ []) (omega arith) (omega arith) (refl ▸ constant_is n small ▸ tt)

  by_test : (b : Bool) → nat_lt x n ≡ b → Tested (kept s.memory) image last 6 4 s (cond b (Some x) None)
  by_test true e = returns (passes to_2 refl (omega arith) (ap not e)) refl refl even file
  by_test false e = undefined (branches to_2 4 refl (omega arith) (omega arith) (ap not e) (omega (arith, c.low))) _ refl refl (omega arith) refl few

pub below : LawOfBelow
below image last sizes count place n small apart = record {
  free = apart.free place (omega arith) (omega (arith, apart.some));
  low = omega (arith, apart.low);
  even = apart.even;
  runs = λ memory s same at holds file few even. by_test n small (code_at apart s at) file few even (nat_lt (register s.registers 10) n) refl;
}
