-- Ways from the beginning of a code are lengthened, and end.
use Rattle.std.proofs.Common.{◌≡◌, ℕ, suc, ◌+◌, ◌-◌, ◌*◌, ◌/◌, ◌%◌, ◌^◌, ◌<◌, ◌≤◌, List, [], ◌∷◌, length, take, drop, length-take, length-drop, Some, true, false, sym, ap, subst, arith}
use Rattle.std.specs.Prelude.{ℤ, pos, slice_get}
use Rattle.rv_isa.specs.declared.instr.IOp.TheVariants.{Addi, Jalr}
use Rattle.rv_isa.specs.declared.instr.BOp.{BOp}
use Rattle.rv_isa.specs.declared.instr.UOp.TheVariants.{Auipc}
use Rattle.rv_isa.specs.declared.instr.Instr.{Instr}
use Rattle.rv_isa.specs.declared.instr.Instr.TheVariants.{I, B, U, Ecall}
use Rattle.rv_isa.specs.InstrWords.{twos}
use Rattle.image_file.specs.Image.{Image}
use Rattle.rv_emulate.specs.declared.end.CpuEnd.TheVariants.{Undefined}
use Rattle.rv_emulate.specs.EmulatorMemory.{Memory}
use Rattle.rv_emulate.specs.Ecalls.{end_by}
use Rattle.rv_emulate.specs.EmulatorStates.{State, Outcome, On, Ended}
use Rattle.rv_emulate.specs.InstrValues.{sum64, taken}
use Rattle.rv_straight.specs.InstalledWays.{Comes}
use Rattle.rv_straight.specs.Registers.{IsFile, Writes, read, Knows}
use Rattle.rv_straight.specs.InstrEffects.{Given}
use Rattle.rv_straight.specs.Straight.{Follow, writes_after, memory_after, at}
use Rattle.rv_straight.specs.Code.{IsNext}
use Rattle.rv_straight.specs.Constants.{lower_of}
use Rattle.rv_straight.specs.Jumps.{distance, far_upper}
use Rattle.rv_straight.specs.Reaching.{Reaches}
use Rattle.rv_straight.proofs.Ways.{then_comes, comes_any}
use Rattle.rv_straight.proofs.Registers.{knows_start}
use Rattle.rv_straight.proofs.Straight.{between, straight as straight_way, known}
use Rattle.rv_straight.proofs.Branches.{passes as passes_way, branches as branches_way, jumps as jumps_way, ends as ends_way, ends_by as ends_by_way}
use Rattle.rv_straight.proofs.Leaps.{from_start, half_way, leaps as leaps_way, calls as calls_way}

pub start : {image : Image} {last : ℕ} {s : State} {code : List Instr} (c : IsNext image last s code) → IsFile s.registers → Reaches c 0 0 [] s.memory
start {image} {last} {s} {code} c file = record {
  know = knows_start s.registers file;
  onward = λ prints most o h. let z : 0 + most ≡ most = omega arith in subst (λ n. Comes image last prints n s o) (sym z) (from_start image last s code c prints most o h);
}

-- the next j instructions of a code
part : (k j : ℕ) (code : List Instr) → k + j ≤ length code → length (take j (drop k code)) ≡ j
part k j code h = omega (arith, length-take j (drop k code), length-drop k code)

module _ {image : Image} {last : ℕ} {s : State} {code : List Instr} {c : IsNext image last s code} {n k : ℕ} {ws : Writes} {m : Memory} (r : Reaches c n k ws m) where
  abbrev here : ℕ → Writes → Memory → State
  here j us mem = at s (s.pc + 4 * j) us mem

  -- a way that ends
  pub ends : (a : ℕ) (o : Outcome) → Comes image last false a (here k ws m) o → Comes image last false (n + a) s o
  ends a o h = r.onward false a o h

  -- and one to another instruction
  pub extend : (a j : ℕ) (us : Writes) (mem : Memory) → 0 < j → j < length code → Knows s.registers us → Comes image last false a (here k ws m) (On (here j us mem)) → Reaches c (n + a) j us mem
  extend a j us mem some lt know h = record {
    know = know;
    onward = λ prints most o g. let z : n + (a + most) ≡ n + a + most = omega arith in subst (λ b. Comes image last prints b s o) z (r.onward prints (a + most) o (then_comes image last prints a most (here k ws m) (here j us mem) o (comes_any image last prints a (here k ws m) (On (here j us mem)) h) (between image last s code c j us mem some lt) g));
  }

  -- j instructions without branches, to the end or to another instruction
  pub runs : (j : ℕ) (gs : List Given) → 0 < j → k + j ≤ length code → Follow image.constants s.registers s.pc k ws m (take j (drop k code)) gs → Comes image last false j (here k ws m) (On (here (k + j) (writes_after ws (take j (drop k code)) gs) (memory_after m (take j (drop k code)) gs)))
  runs j gs some room does =
      let is = take j (drop k code) in
      let long = part k j code room in
      let way = straight_way image last s code c k ws m is gs (ap (λ i. take i (drop k code)) long) (omega arith) (omega arith) r.know does in
      subst (λ i. Comes image last false i (here k ws m) (On (here (k + i) (writes_after ws is gs) (memory_after m is gs)))) long way

  pub knows : (j : ℕ) (gs : List Given) → k + j ≤ length code → Follow image.constants s.registers s.pc k ws m (take j (drop k code)) gs → Knows s.registers (writes_after ws (take j (drop k code)) gs)
  knows j gs room does = known image last s code c k ws m (take j (drop k code)) gs (ap (λ i. take i (drop k code)) (part k j code room)) r.know does

  pub straight : (j : ℕ) (gs : List Given) → 0 < j → k + j < length code → Follow image.constants s.registers s.pc k ws m (take j (drop k code)) gs → Reaches c (n + j) (k + j) (writes_after ws (take j (drop k code)) gs) (memory_after m (take j (drop k code)) gs)
  straight j gs some room does = extend j (k + j) (writes_after ws (take j (drop k code)) gs) (memory_after m (take j (drop k code)) gs) (omega arith) room (knows j gs (omega arith) does) (runs j gs some (omega arith) does)

  -- a branch that is not taken, and one that is
  pub passes : {op : BOp} {rs1 rs2 : ℕ} {imm : ℤ} → slice_get code k ≡ Some (B op rs1 rs2 imm) → suc k < length code → taken op (read s.registers ws rs1) (read s.registers ws rs2) ≡ false → Reaches c (n + 1) (suc k) ws m
  passes {op} {rs1} {rs2} {imm} e room h = extend 1 (suc k) ws m (omega arith) room r.know (passes_way image last s code c k ws m op rs1 rs2 imm e r.know h)

  pub branches : {op : BOp} {rs1 rs2 : ℕ} {imm : ℤ} (j : ℕ) → slice_get code k ≡ Some (B op rs1 rs2 imm) → 0 < j → j < length code → taken op (read s.registers ws rs1) (read s.registers ws rs2) ≡ true → sum64 (s.pc + 4 * k) (twos 64 imm) ≡ s.pc + 4 * j → Reaches c (n + 1) j ws m
  branches {op} {rs1} {rs2} {imm} j e some room h place = extend 1 j ws m some room r.know (branches_way image last s code c k j ws m op rs1 rs2 imm e r.know h place)

  -- the ends: a branch out of the code, a jump to the place in a register, a call with the return place in x11
  pub leaves : {op : BOp} {rs1 rs2 : ℕ} {imm : ℤ} (j : ℕ) → slice_get code k ≡ Some (B op rs1 rs2 imm) → taken op (read s.registers ws rs1) (read s.registers ws rs2) ≡ true → sum64 (s.pc + 4 * k) (twos 64 imm) ≡ s.pc + 4 * j → Comes image last false (n + 1) s (On (here j ws m))
  leaves {op} {rs1} {rs2} {imm} j e h place = r.onward false 1 _ (branches_way image last s code c k j ws m op rs1 rs2 imm e r.know h place)

  pub jumps : {rd rs1 : ℕ} {imm : ℤ} (to : ℕ) → slice_get code k ≡ Some (I Jalr rd rs1 imm) → sum64 (read s.registers ws rs1) (twos 64 imm) / 2 * 2 ≡ to → Comes image last false (n + 1) s (On (at s to ((rd, s.pc + 4 * suc k) ∷ ws) m))
  jumps {rd} {rs1} {imm} to e h = r.onward false 1 _ (jumps_way image last s code c k ws m rd rs1 imm to e r.know h)

  pub calls : (to : ℕ) → take 1 (drop k code) ≡ U Auipc 11 (far_upper (s.pc + 4 * k) to) ∷ [] → slice_get code (k + 1) ≡ Some (I Jalr 11 11 (lower_of (distance (s.pc + 4 * k) to))) → k + 2 ≤ length code → to < 2 ^ 31 - 2 ^ 12 → to % 4 ≡ 0 → Comes image last false (n + 2) s (On (at s to ((11, s.pc + 4 * (k + 2)) ∷ ws) m))
  calls to e jump room near even = r.onward false 2 _ (calls_way image last s code c k ws m to e jump room r.know near even)

  -- a jump by AUIPC and JALR, with the place behind them in rd
  pub leaps : (through rd to : ℕ) → 0 < through → take 1 (drop k code) ≡ U Auipc through (far_upper (s.pc + 4 * k) to) ∷ [] → slice_get code (k + 1) ≡ Some (I Jalr rd through (lower_of (distance (s.pc + 4 * k) to))) → k + 2 ≤ length code → to < 2 ^ 31 - 2 ^ 12 → to % 4 ≡ 0 → Comes image last false (n + 2) s (On (at s to ((rd, s.pc + 4 * (k + 2)) ∷ (through, half_way (s.pc + 4 * k) to) ∷ ws) m))
  leaps through rd to some e jump room near even = r.onward false 2 _ (leaps_way image last s code c k ws m through rd to some e jump room r.know near even)

  -- the end by call 1, as the number in a0 asks; and by its three instructions, where a number goes to a0
  pub ends_now : (by a : ℕ) → slice_get code k ≡ Some Ecall → read s.registers ws 17 ≡ 1 → read s.registers ws 10 ≡ by → read s.registers ws 26 ≡ a → a ≤ length image.statements → Comes image last false (n + 1) s (Ended (Some (end_by by a s.failed (s.pc + 4 * k))) s.tapes)
  ends_now by a e e17 e10 e26 few = r.onward false 1 _ (ends_way image last s code c k ws m by a e r.know e17 e10 e26 few)

  pub ends_by : (by a : ℕ) → by < 2 ^ 11 → take 2 (drop k code) ≡ I Addi 17 0 (pos 1) ∷ I Addi 10 0 (pos by) ∷ [] → slice_get code (k + 2) ≡ Some Ecall → k + 3 ≤ length code → read s.registers ws 26 ≡ a → a ≤ length image.statements → Comes image last false (n + 3) s (Ended (Some (end_by by a s.failed (s.pc + 4 * (k + 2)))) s.tapes)
  ends_by by a low e third room e26 few = r.onward false 3 _ (ends_by_way image last s code c k ws m by a low e third room r.know e26 few)

  pub undefined : (a : ℕ) → take 2 (drop k code) ≡ I Addi 17 0 (pos 1) ∷ I Addi 10 0 (pos 3) ∷ [] → slice_get code (k + 2) ≡ Some Ecall → k + 3 ≤ length code → read s.registers ws 26 ≡ a → a ≤ length image.statements → Comes image last false (n + 3) s (Ended (Some (Undefined a)) s.tapes)
  undefined a e third room e26 few = ends_by 3 a (omega arith) e third room e26 few
