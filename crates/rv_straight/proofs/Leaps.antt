-- Jumps and calls by AUIPC and JALR, and what stands from an instruction on.
use Rattle.std.proofs.Common.{◌≡◌, ℕ, zero, suc, ◌+◌, ◌-◌, ◌*◌, ◌/◌, ◌%◌, ◌^◌, ◌<◌, ◌≤◌, List, [], ◌∷◌, length, take, drop, length-drop, Some, Bool, false, refl, sym, ap, subst, ◌∙◌, arith}
use Rattle.std.specs.Prelude.{slice_get}
use Rattle.rv_isa.specs.declared.instr.IOp.TheVariants.{Jalr}
use Rattle.rv_isa.specs.declared.instr.UOp.TheVariants.{Auipc}
use Rattle.rv_isa.specs.declared.instr.Instr.{Instr}
use Rattle.rv_isa.specs.declared.instr.Instr.TheVariants.{I, U}
use Rattle.rv_isa.specs.InstrWords.{twos}
use Rattle.image_file.specs.Image.{Image}
use Rattle.rv_emulate.specs.EmulatorMemory.{Memory}
use Rattle.rv_emulate.specs.EmulatorStates.{State, Outcome, On}
use Rattle.rv_emulate.specs.InstrValues.{sum64, extended}
use Rattle.rv_straight.specs.InstalledWays.{Comes}
use Rattle.rv_straight.specs.Registers.{Writes, Knows}
use Rattle.rv_straight.specs.InstrEffects.{Value}
use Rattle.rv_straight.specs.Straight.{Follow, at, ◌▸◌}
use Rattle.rv_straight.specs.Code.{StandAt, IsNext, IsApart}
use Rattle.rv_straight.specs.Constants.{lower_of}
use Rattle.rv_straight.specs.Jumps.{distance, far_upper}
use Rattle.rv_straight.proofs.Ways.{then_comes}
use Rattle.rv_straight.proofs.Registers.{read_here, written_again}
use Rattle.rv_straight.proofs.Straight.{between, straight, known}
use Rattle.rv_straight.proofs.Branches.{jumps}

-- the two parts lead there
pub far_lands : (from to : ℕ) → from < 2 ^ 31 - 2 ^ 12 → to < 2 ^ 31 - 2 ^ 12 → to % 4 ≡ 0 → sum64 (sum64 from (extended (far_upper from to * 2 ^ 12))) (twos 64 (lower_of (distance from to))) / 2 * 2 ≡ to
far_lands from to h g e = grind arith

-- what AUIPC puts
abbrev pub half_way : ℕ → ℕ → ℕ
half_way from to = sum64 from (extended (far_upper from to * 2 ^ 12))

stand_from : (words : List ℕ) (code : List Instr) (pc k : ℕ) → StandAt words pc code → StandAt words (pc + 4 * k) (drop k code)
stand_from words [] pc zero h = tt
stand_from words [] pc (suc k) h = tt
stand_from words (i ∷ code) pc zero h = let place : pc + 4 * 0 ≡ pc = omega arith in rw place h
stand_from words (i ∷ code) pc (suc k) h = let place : pc + 4 * suc k ≡ pc + 4 + 4 * k = omega arith in rw place (stand_from words code (pc + 4) k h.2)

-- a code from its k-th instruction on
pub code_from : {image : Image} {last : ℕ} {s : State} {code : List Instr} (c : IsNext image last s code) (k : ℕ) (t : State) → k ≤ length code → t.pc ≡ s.pc + 4 * k → IsNext image last t (drop k code)
code_from {image} {last} {s} {code} c k t le at =
    let long : length (drop k code) + k ≡ length code = omega (arith, length-drop k code) in
    record {
      stands = subst (λ p. StandAt image.words p (drop k code)) (sym at) (stand_from image.words code s.pc k c.stands);
      free = λ q low high. c.free q (omega arith) (omega arith);
      low = omega (arith, c.low);
    }

-- a code between statements, where a state is there
pub code_at : {image : Image} {last place : ℕ} {code : List Instr} (c : IsApart image last place code) (s : State) → s.pc ≡ place → IsNext image last s code
code_at {image} {last} {place} {code} c s at = record {
  stands = subst (λ p. StandAt image.words p code) (sym at) c.stands;
  free = λ q low high. c.free q (omega arith) (omega arith);
  low = omega (arith, at, c.low);
}

module _ (image : Image) (last : ℕ) (s : State) (code : List Instr) (c : IsNext image last s code) where
  abbrev t : ℕ → Writes → Memory → State
  t k ws m = at s (s.pc + 4 * k) ws m

  -- from the state itself
  pub from_start : (prints : Bool) (most : ℕ) (o : Outcome) → Comes image last prints most (t 0 [] s.memory) o → Comes image last prints most s o
  from_start prints most o h = let place : s.pc + 4 * 0 ≡ s.pc = omega arith in subst (λ p. Comes image last prints most (record s { pc = p }) o) place h

  -- the two instructions lead there, with the place behind them in rd
  pub leaps : (k : ℕ) (ws : Writes) (m : Memory) (through rd to : ℕ) → 0 < through → take 1 (drop k code) ≡ U Auipc through (far_upper (s.pc + 4 * k) to) ∷ [] → slice_get code (k + 1) ≡ Some (I Jalr rd through (lower_of (distance (s.pc + 4 * k) to))) → k + 2 ≤ length code → Knows s.registers ws → to < 2 ^ 31 - 2 ^ 12 → to % 4 ≡ 0 → Comes image last false 2 (t k ws m) (On (at s to ((rd, s.pc + 4 * (k + 2)) ∷ (through, half_way (s.pc + 4 * k) to) ∷ ws) m))
  leaps k ws m through rd to some e jump room know near even =
      let from = s.pc + 4 * k in
      let hi : ℕ = half_way from to in
      let is : List Instr = U Auipc through (far_upper from to) ∷ [] in
      let does : Follow image.constants s.registers s.pc k ws m is (Value hi ∷ []) = refl ▸ tt in
      let first = straight image last s code c k ws m is (Value hi ∷ []) e (omega arith) (omega arith) know does in
      let then = known image last s code c k ws m is (Value hi ∷ []) e know does in
      let us : Writes = (through, hi) ∷ ws in
      let lands = ap (λ x. sum64 x (twos 64 (lower_of (distance from to))) / 2 * 2) (read_here s.registers ws through hi some) ∙ far_lands from to (omega (arith, c.low)) near even in
      let second = jumps image last s code c (k + 1) us m rd through (lower_of (distance from to)) to jump then lands in
      let place : suc (k + 1) ≡ k + 2 = omega arith in
      let both = then_comes image last false 1 1 (t k ws m) (t (k + 1) us m) _ first (between image last s code c (k + 1) us m (omega arith) (omega arith)) second in
      subst (λ j. Comes image last false 2 (t k ws m) (On (at s to ((rd, s.pc + 4 * j) ∷ us) m))) place both

  -- a call with the return place in x11
  pub calls : (k : ℕ) (ws : Writes) (m : Memory) (to : ℕ) → take 1 (drop k code) ≡ U Auipc 11 (far_upper (s.pc + 4 * k) to) ∷ [] → slice_get code (k + 1) ≡ Some (I Jalr 11 11 (lower_of (distance (s.pc + 4 * k) to))) → k + 2 ≤ length code → Knows s.registers ws → to < 2 ^ 31 - 2 ^ 12 → to % 4 ≡ 0 → Comes image last false 2 (t k ws m) (On (at s to ((11, s.pc + 4 * (k + 2)) ∷ ws) m))
  calls k ws m to e jump room know near even =
      subst (λ ys. Comes image last false 2 (t k ws m) (On (record s { pc = to; registers = ys; memory = m }))) (written_again s.registers ws 11 (half_way (s.pc + 4 * k) to) (s.pc + 4 * (k + 2))) (leaps k ws m 11 11 to (omega arith) e jump room know near even)
