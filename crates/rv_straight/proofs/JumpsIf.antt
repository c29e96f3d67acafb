-- Conditional jumps.
use Rattle.std.proofs.Common.{◌≡◌, ℕ, ◌+◌, ◌-◌, ◌*◌, ◌%◌, ◌^◌, ◌<◌, [], ◌∷◌, Bool, true, false, cond, refl, sym, ap, ◌∙◌, arith}
use Rattle.std.specs.Prelude.{not, nat_lt, ◌==◌}
use Rattle.rv_isa.specs.declared.instr.BOp.{BOp}
use Rattle.rv_isa.specs.declared.instr.BOp.TheVariants.{Beq, Bne, Blt, Bge, Bltu, Bgeu}
use Rattle.image_file.specs.Image.{Image}
use Rattle.rv_emulate.specs.EmulatorStates.{State, On, register}
use Rattle.rv_emulate.specs.InstrValues.{taken, is_below}
use Rattle.rv_straight.specs.InstalledWays.{Comes}
use Rattle.rv_straight.specs.Registers.{IsFile}
use Rattle.rv_straight.specs.Straight.{at}
use Rattle.rv_straight.specs.Code.{IsNext}
use Rattle.rv_straight.specs.Jumps.{inverse, jump_if_code}
use Rattle.rv_straight.specs.Laws.{LawOfJumps}
use Rattle.rv_straight.proofs.Ways.{comes_within}
use Rattle.rv_straight.proofs.Leaps.{half_way}
use Rattle.rv_straight.proofs.Reaching.{start, passes, leaves, leaps}

not_not : (b : Bool) → not (not b) ≡ b
not_not true = refl
not_not false = refl

-- the inverse is taken where the comparison doesn't hold
pub inverse_is : (op : BOp) (x y : ℕ) → taken (inverse op) x y ≡ not (taken op x y)
inverse_is Beq x y = refl
inverse_is Bne x y = sym (not_not (x == y))
inverse_is Blt x y = refl
inverse_is Bge x y = sym (not_not (is_below x y))
inverse_is Bltu x y = refl
inverse_is Bgeu x y = sym (not_not (nat_lt x y))

module _ (image : Image) (last : ℕ) (s : State) (op : BOp) (rs1 rs2 to : ℕ) (c : IsNext image last s (jump_if_code op rs1 rs2 s.pc to)) (near : to < 2 ^ 31 - 2 ^ 12) (even : to % 4 ≡ 0) (file : IsFile s.registers) where
  abbrev x : ℕ
  x = register s.registers rs1

  abbrev y : ℕ
  y = register s.registers rs2

  abbrev Lands : Bool → Type 0
  Lands b = (v : ℕ) × Comes image last false 3 s (On (at s (cond b to (s.pc + 12)) (cond b ((28, v) ∷ []) []) s.memory))

  by_test : (b : Bool) → taken op x y ≡ b → Lands b
  by_test true e =
      let other : taken (inverse op) x y ≡ false = inverse_is op x y ∙ ap not e in
      let r = passes (start c file) refl (omega arith) other in
      (half_way (s.pc + 4 * 1) to, leaps r 28 0 to (omega arith) refl refl (omega arith) near even)
  by_test false e =
      let other : taken (inverse op) x y ≡ true = inverse_is op x y ∙ ap not e in
      let way = leaves (start c file) 3 refl other (omega (arith, c.low)) in
      (0, comes_within image last false 1 3 s (On (at s (s.pc + 12) [] s.memory)) way (omega arith))

pub jumps_if : LawOfJumps
jumps_if image last s op rs1 rs2 to c near even file = by_test image last s op rs1 rs2 to c near even file (taken op (register s.registers rs1) (register s.registers rs2)) refl
