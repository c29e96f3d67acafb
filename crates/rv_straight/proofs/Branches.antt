-- Branches, jumps through a register, and ends: ways of one step.
use Rattle.std.proofs.Common.{◌≡◌, ℕ, suc, ◌+◌, ◌*◌, ◌/◌, ◌^◌, ◌<◌, ◌≤◌, List, [], ◌∷◌, length, take, drop, Option, Some, Bool, true, false, cond, refl, ap, subst, ◌∙◌, arith}
use Rattle.std.specs.Prelude.{ℤ, pos, slice_get, nat_le, ◌==◌, ◌||◌}
use Rattle.rv_isa.specs.declared.instr.IOp.TheVariants.{Addi, Jalr}
use Rattle.rv_isa.specs.declared.instr.BOp.{BOp}
use Rattle.rv_isa.specs.declared.instr.Instr.{Instr}
use Rattle.rv_isa.specs.declared.instr.Instr.TheVariants.{I, B, Ecall}
use Rattle.rv_isa.specs.InstrWords.{twos}
use Rattle.image_file.specs.Image.{Image}
use Rattle.rv_emulate.specs.EmulatorMemory.{Memory}
use Rattle.rv_emulate.specs.EmulatorStates.{State, On, Ended, register}
use Rattle.rv_emulate.specs.EmulatorSteps.{act, answer, ended, jump}
use Rattle.rv_emulate.specs.Ecalls.{call, end_by, can_read, can_write, is_unit_call}
use Rattle.rv_emulate.specs.InstrValues.{sum64, taken}
use Rattle.rv_straight.specs.InstalledWays.{Comes}
use Rattle.rv_straight.specs.Registers.{Writes, written, read, Knows}
use Rattle.rv_straight.specs.InstrEffects.{Given, Value}
use Rattle.rv_straight.specs.Straight.{at, Follow, ◌▸◌}
use Rattle.rv_straight.specs.Code.{IsNext}
use Rattle.rv_straight.proofs.Ways.{step_at, silent_at, one_call, comes_now, then_comes}
use Rattle.rv_straight.proofs.Registers.{read_zero}
use Rattle.rv_straight.proofs.Straight.{has, between, straight, known}

-- call 1 is no call on a unit
no_unit_call : (constants : List ℕ) (m : Memory) (xs : List ℕ) → register xs 17 ≡ 1 → is_unit_call constants m xs ≡ false
no_unit_call constants m xs e =
    ap (λ a7. cond (a7 == 2) (can_read m xs) (cond (a7 == 3) (can_write constants m xs) ((a7 == 4) || (a7 == 5) || (a7 == 6)))) e

-- it ends as a0 asks, at a statement or at the place after the last
call_one : (count k by : ℕ) (failed : Option ℕ) (pc : ℕ) → k ≤ count → call count 1 by k failed pc ≡ end_by by k failed pc
call_one count k by failed pc h = let yes : nat_le k count ≡ true = grind arith in rw yes refl

module _ (image : Image) (last : ℕ) (s : State) (code : List Instr) (c : IsNext image last s code) where
  abbrev t : ℕ → Writes → Memory → State
  t k ws m = at s (s.pc + 4 * k) ws m

  branch : (k : ℕ) (ws : Writes) (m : Memory) (op : BOp) (rs1 rs2 : ℕ) (imm : ℤ) (b : Bool) → slice_get code k ≡ Some (B op rs1 rs2 imm) → Knows s.registers ws → taken op (read s.registers ws rs1) (read s.registers ws rs2) ≡ b → Comes image last false 1 (t k ws m) (On (at s (cond b (sum64 (s.pc + 4 * k) (twos 64 imm)) (s.pc + 4 * k + 4)) ws m))
  branch k ws m op rs1 rs2 imm b e know h =
      let word = has image.words code s.pc k (B op rs1 rs2 imm) c.stands e in
      let to : Bool → State = λ x. at s (cond x (sum64 (s.pc + 4 * k) (twos 64 imm)) (s.pc + 4 * k + 4)) ws m in
      let acts : act image (B op rs1 rs2 imm) (t k ws m) ≡ On (to b) =
      ap (λ a. On (to (taken op a (register (written s.registers ws) rs2)))) (know.reads rs1)
      ∙ ap (λ a. On (to (taken op (read s.registers ws rs1) a))) (know.reads rs2)
      ∙ ap (λ x. On (to x)) h in
      comes_now image last false (t k ws m) (On (to b)) (step_at image (t k ws m) (B op rs1 rs2 imm) word.0 word.1 ∙ acts) (silent_at image (t k ws m) (B op rs1 rs2 imm) word.0 word.1 refl)

  -- a branch that is not taken, and one that is
  pub passes : (k : ℕ) (ws : Writes) (m : Memory) (op : BOp) (rs1 rs2 : ℕ) (imm : ℤ) → slice_get code k ≡ Some (B op rs1 rs2 imm) → Knows s.registers ws → taken op (read s.registers ws rs1) (read s.registers ws rs2) ≡ false → Comes image last false 1 (t k ws m) (On (t (suc k) ws m))
  passes k ws m op rs1 rs2 imm e know h =
      let place : s.pc + 4 * k + 4 ≡ s.pc + 4 * suc k = omega arith in
      subst (λ p. Comes image last false 1 (t k ws m) (On (at s p ws m))) place (branch k ws m op rs1 rs2 imm false e know h)

  pub branches : (k j : ℕ) (ws : Writes) (m : Memory) (op : BOp) (rs1 rs2 : ℕ) (imm : ℤ) → slice_get code k ≡ Some (B op rs1 rs2 imm) → Knows s.registers ws → taken op (read s.registers ws rs1) (read s.registers ws rs2) ≡ true → sum64 (s.pc + 4 * k) (twos 64 imm) ≡ s.pc + 4 * j → Comes image last false 1 (t k ws m) (On (t j ws m))
  branches k j ws m op rs1 rs2 imm e know h place =
      subst (λ p. Comes image last false 1 (t k ws m) (On (at s p ws m))) place (branch k ws m op rs1 rs2 imm true e know h)

  -- a jump to the place in a register
  pub jumps : (k : ℕ) (ws : Writes) (m : Memory) (rd rs1 : ℕ) (imm : ℤ) (to : ℕ) → slice_get code k ≡ Some (I Jalr rd rs1 imm) → Knows s.registers ws → sum64 (read s.registers ws rs1) (twos 64 imm) / 2 * 2 ≡ to → Comes image last false 1 (t k ws m) (On (at s to ((rd, s.pc + 4 * suc k) ∷ ws) m))
  jumps k ws m rd rs1 imm to e know h =
      let word = has image.words code s.pc k (I Jalr rd rs1 imm) c.stands e in
      let place : s.pc + 4 * k + 4 ≡ s.pc + 4 * suc k = omega arith in
      let acts : act image (I Jalr rd rs1 imm) (t k ws m) ≡ On (at s to ((rd, s.pc + 4 * suc k) ∷ ws) m) =
      ap (λ a. jump (t k ws m) rd (sum64 a (twos 64 imm) / 2 * 2)) (know.reads rs1)
      ∙ ap (λ a. jump (t k ws m) rd a) h
      ∙ ap (λ a. On (at s to ((rd, a) ∷ ws) m)) place in
      comes_now image last false (t k ws m) (On (at s to ((rd, s.pc + 4 * suc k) ∷ ws) m)) (step_at image (t k ws m) (I Jalr rd rs1 imm) word.0 word.1 ∙ acts) (silent_at image (t k ws m) (I Jalr rd rs1 imm) word.0 word.1 refl)

  -- the end by call 1, as the number in a0 asks
  pub ends : (k : ℕ) (ws : Writes) (m : Memory) (by n : ℕ) → slice_get code k ≡ Some Ecall → Knows s.registers ws → read s.registers ws 17 ≡ 1 → read s.registers ws 10 ≡ by → read s.registers ws 26 ≡ n → n ≤ length image.statements → Comes image last false 1 (t k ws m) (Ended (Some (end_by by n s.failed (s.pc + 4 * k))) s.tapes)
  ends k ws m by n e know e17 e10 e26 few =
      let xs = written s.registers ws in
      let p : register xs 17 ≡ 1 = know.reads 17 ∙ e17 in
      let q : register xs 10 ≡ by = know.reads 10 ∙ e10 in
      let r : register xs 26 ≡ n = know.reads 26 ∙ e26 in
      let count = length image.statements in
      let pc = s.pc + 4 * k in
      let end = end_by by n s.failed pc in
      let word = has image.words code s.pc k Ecall c.stands e in
      let acts : act image Ecall (t k ws m) ≡ Ended (Some end) s.tapes =
      ap (λ b. cond b (answer image (t k ws m)) (ended image (t k ws m))) (no_unit_call image.constants m xs p)
      ∙ ap (λ a. Ended (Some (call count a (register xs 10) (register xs 26) s.failed pc)) s.tapes) p
      ∙ ap (λ a. Ended (Some (call count 1 a (register xs 26) s.failed pc)) s.tapes) q
      ∙ ap (λ a. Ended (Some (call count 1 by a s.failed pc)) s.tapes) r
      ∙ ap (λ x. Ended (Some x) s.tapes) (call_one count n by s.failed pc few) in
      comes_now image last false (t k ws m) (Ended (Some end) s.tapes) (step_at image (t k ws m) Ecall word.0 word.1 ∙ acts) (one_call image (t k ws m) p)

  -- by its three instructions, where a number goes to a0
  pub ends_by : (k : ℕ) (ws : Writes) (m : Memory) (by n : ℕ) → by < 2 ^ 11 → take 2 (drop k code) ≡ I Addi 17 0 (pos 1) ∷ I Addi 10 0 (pos by) ∷ [] → slice_get code (k + 2) ≡ Some Ecall → k + 3 ≤ length code → Knows s.registers ws → read s.registers ws 26 ≡ n → n ≤ length image.statements → Comes image last false 3 (t k ws m) (Ended (Some (end_by by n s.failed (s.pc + 4 * (k + 2)))) s.tapes)
  ends_by k ws m by n low e third room know e26 few =
      let is : List Instr = I Addi 17 0 (pos 1) ∷ I Addi 10 0 (pos by) ∷ [] in
      let gs : List Given = Value 1 ∷ Value by ∷ [] in
      let zero_is = read_zero s.registers ws in
      let small : sum64 0 by ≡ by = omega arith in
      let does : Follow image.constants s.registers s.pc k ws m is gs = ap (λ x. sum64 x 1) zero_is ▸ small ▸ tt in
      let way = straight image last s code c k ws m is gs e (omega arith) (omega arith) know does in
      let then = known image last s code c k ws m is gs e know does in
      let ws' : Writes = (10, by) ∷ (17, 1) ∷ ws in
      then_comes image last false 2 1 (t k ws m) (t (k + 2) ws' m) (Ended (Some (end_by by n s.failed (s.pc + 4 * (k + 2)))) s.tapes) way (between image last s code c (k + 2) ws' m (omega arith) (omega arith)) (ends (k + 2) ws' m by n third then refl refl e26 few)
