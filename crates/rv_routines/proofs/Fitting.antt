-- The routine that tests a number first.
use Rattle.std.proofs.Common.{◌≡◌, ℕ, ◌+◌, ◌/◌, ◌%◌, ◌^◌, ◌<◌, ◌≤◌, [], ◌∷◌, length, None, Bool, true, false, cond, ◌==◌, refl, sym, ap, subst, ◌∙◌, arith}
use Rattle.std.specs.Prelude.{nat_lt, not}
use Rattle.std.specs.Int.{w64, cast_signed}
use Rattle.std.proofs.lemmas.Nat.{div_below, le-div, pow_pos}
use Rattle.layout_params.specs.Sizes.{Sizes}
use Rattle.sil_model.specs.Memory as abstract
use Rattle.sil_model.specs.Access.{descr_at}
use Rattle.image_file.specs.Image.{Image}
use Rattle.rv_emulate.specs.EmulatorStates.{State, register}
use Rattle.layout_params.proofs.LegalLayouts.{IsLegal, legal}
use Rattle.rv_straight.specs.Registers.{IsFile, Keeps, Writes, written}
use Rattle.rv_straight.specs.InstrEffects.{Value}
use Rattle.rv_straight.specs.Straight.{at, ◌▸◌}
use Rattle.rv_straight.specs.Code.{IsNext}
use Rattle.rv_straight.specs.Reaching.{Reaches}
use Rattle.rv_straight.proofs.Ways.{comes_within}
use Rattle.rv_straight.proofs.Registers.{read_kept}
use Rattle.rv_straight.proofs.Reaching.{start, straight, passes, branches, undefined}
use Rattle.rv_straight.proofs.Leaps.{code_from, code_at}
use Rattle.rv_routines.specs.Holds.{HoldsMemory}
use Rattle.rv_routines.specs.Routines.{Tested, kept, is_scratch}
use Rattle.rv_routines.specs.RoutineCodes.{fit_code}
use Rattle.rv_routines.specs.Tests.{check_test}
use Rattle.rv_routines.specs.Laws.{LawOfFit}
use Rattle.rv_routines.proofs.Returning.{tested_after}
use Rattle.rv_routines.proofs.Checking.{lt_of, tested}

-- the same behind the test of a number
pub shifted_out : (y bits : ℕ) → nat_lt y (2 ^ bits) ≡ true → (y / 2 ^ bits == 0) ≡ true
shifted_out y bits e =
    let lt = lt_of y (2 ^ bits) e in
    let zero_is : y / 2 ^ bits ≡ 0 = omega (arith, div_below y (2 ^ bits) 1 (pow_pos bits) (omega arith)) in
    grind arith

pub shifted_in : (y bits : ℕ) → nat_lt y (2 ^ bits) ≡ false → (y / 2 ^ bits == 0) ≡ false
shifted_in y bits e =
    let le : 2 ^ bits ≤ y = grind arith in
    let some = le-div 1 y (2 ^ bits) (pow_pos bits) (omega arith) in
    grind arith

module _ {image : Image} {last : ℕ} (sizes : Sizes) (legal_sizes : IsLegal sizes) (bits : ℕ) (few_bits : bits < 64) {s : State} (mm : abstract.Memory) (holds : HoldsMemory sizes mm s.memory) (c : IsNext image last s (fit_code bits sizes.descr (length mm.cells))) (file : IsFile s.registers) (few : register s.registers 26 ≤ length image.statements) (even : register s.registers 11 % 2 ≡ 0) where
  abbrev y : ℕ
  y = register s.registers 12

  abbrev ws : Writes
  ws = (28, y / 2 ^ bits) ∷ []

  to_1 : Reaches c 1 1 ws s.memory
  to_1 =
      let same : bits % 64 ≡ bits = omega arith in
      straight (start c file) 1 (Value (y / 2 ^ bits) ∷ []) (omega arith) (omega arith) (ap (λ n. y / 2 ^ n) same ▸ tt)

  kept_in : Keeps is_scratch s.registers (written s.registers ws)
  kept_in q free = to_1.know.reads q ∙ read_kept is_scratch s.registers ws q refl free

  by_bits : (b : Bool) → nat_lt y (2 ^ bits) ≡ b → Tested (kept s.memory) image last 18 16 s (cond b (check_test mm s.registers) None)
  by_bits true e =
      let r = passes to_1 refl (omega arith) (ap not (shifted_out y bits e)) in
      let v = at s (s.pc + 8) ws s.memory in
      let few' : register v.registers 26 ≤ length image.statements = rw (kept_in 26 refl) few in
      let even' : register v.registers 11 % 2 ≡ 0 = rw (kept_in 11 refl) even in
      let h = tested sizes legal_sizes {s = v} mm holds (code_from c 2 v (omega arith) refl) r.know.file few' even' in
      let h' = subst (λ x. Tested (kept s.memory) image last 16 14 v (descr_at mm (cast_signed w64 x))) (kept_in 10 refl) h in
      tested_after image last 2 16 14 s (s.pc + 8) (written s.registers ws) kept (check_test mm s.registers) (λ most o g. r.onward false most o g) kept_in h'
  by_bits false e =
      let r = branches to_1 16 refl (omega arith) (omega arith) (ap not (shifted_in y bits e)) (omega (arith, c.low)) in
      comes_within image last false 5 18 s _ (undefined r _ refl refl (omega arith) refl few) (omega arith)

pub fits : LawOfFit
fits image last sizes count place bits is few_bits apart = record {
  free = apart.free place (omega arith) (omega (arith, apart.some));
  low = omega (arith, apart.low);
  even = apart.even;
  runs = λ memory s same at holds file few even. by_bits sizes (legal sizes is) bits few_bits memory holds (subst (λ n. IsNext image last s (fit_code bits sizes.descr n)) (sym same) (code_at apart s at)) file few even (nat_lt (register s.registers 12) (2 ^ bits)) refl;
}
