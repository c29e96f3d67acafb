-- A run of stores writes zeros.
use Rattle.std.proofs.Common.{◌≡◌, ℕ, zero, suc, ◌+◌, ◌*◌, ◌%◌, ◌^◌, ◌<◌, ◌≤◌, List, [], ◌∷◌, ◌++◌, length, take, drop, length-append, length-drop, Some, sym, ap, subst, ◌∙◌, arith}
use Rattle.std.specs.Prelude.{pos, slice_get}
use Rattle.sil_base.specs.Bytes.{low_bytes, with_piece}
use Rattle.sil_base.proofs.Numbers.{length-with_piece}
use Rattle.sil_base.specs.declared.places.TheConstants.{FIRST_CELL}
use Rattle.rv_isa.specs.declared.instr.SOp.TheVariants.{Sd}
use Rattle.rv_isa.specs.declared.instr.Instr.{Instr}
use Rattle.rv_isa.specs.declared.instr.Instr.TheVariants.{S}
use Rattle.image_file.specs.Image.{Image}
use Rattle.rv_emulate.specs.EmulatorMemory.{Memory, stored}
use Rattle.rv_emulate.specs.EmulatorStates.{State}
use Rattle.rv_emulate.specs.InstrValues.{sum64}
use Rattle.rv_straight.specs.Registers.{Writes, read}
use Rattle.rv_straight.specs.InstrEffects.{Given, Leaves}
use Rattle.rv_straight.specs.Straight.{Follow, writes_after, memory_after, ◌▸◌}
use Rattle.rv_straight.specs.Code.{IsNext}
use Rattle.rv_straight.specs.Reaching.{Reaches}
use Rattle.rv_straight.proofs.Registers.{read_zero}
use Rattle.rv_straight.proofs.Reaching.{straight}
use Rattle.rv_routines.specs.RoutineCodes.{zeros_code}
use Rattle.rv_routines.specs.Tests.{zeroed}
use Rattle.rv_routines.proofs.Regions.{store_cells}

-- ---- the instructions from one on

pub after_drop : (k : ℕ) (code : List Instr) (i : Instr) (rest : List Instr) → drop k code ≡ i ∷ rest → drop (k + 1) code ≡ rest
after_drop zero [] i rest e = absurd cc
after_drop zero (j ∷ code) i rest e = cc
after_drop (suc k) [] i rest e = absurd cc
after_drop (suc k) (j ∷ code) i rest e =
    let z : suc k + 1 ≡ suc (k + 1) = omega arith in
    rw z (after_drop k code i rest e)

pub first_at : (k : ℕ) (code : List Instr) (i : Instr) (rest : List Instr) → drop k code ≡ i ∷ rest → slice_get code k ≡ Some i
first_at zero [] i rest e = absurd cc
first_at zero (j ∷ code) i rest e = let same : j ≡ i = cc in ap Some same
first_at (suc k) [] i rest e = absurd cc
first_at (suc k) (j ∷ code) i rest e = first_at k code i rest e

-- something stands behind the stores
pub some_behind : (k n : ℕ) (i : Instr) → 0 < length (zeros_code k n ++ i ∷ [])
some_behind k n i = omega (arith, length-append (zeros_code k n) (i ∷ []))

room_at : (k : ℕ) (code tail : List Instr) → drop k code ≡ tail → 0 < length tail → k + length tail ≡ length code
room_at k code tail e some = omega (arith, length-drop k code, ap length e)

-- ---- the stores

-- n words from the j-th one on, at the address in x30
abbrev left : Memory → ℕ → ℕ → ℕ → Memory
left m at j n = record m { cells = zeroed (at + 8 * j) n m.cells }

pub record Zeros {image : Image} {last : ℕ} {s : State} {code : List Instr} (c : IsNext image last s code) (a k : ℕ) (ws : Writes) (m : Memory) (tail : List Instr) : Type 0 where
  pub reaches : Reaches c a k ws m
  pub behind : drop k code ≡ tail

module _ {image : Image} {last : ℕ} {s : State} {code : List Instr} (c : IsNext image last s code) (ws : Writes) (at : ℕ) (tail : List Instr) (some : 0 < length tail) (address : read s.registers ws 30 ≡ FIRST_CELL + at) (whole : at % 8 ≡ 0) (low : at < 2 ^ 26) where
  one : (a k j : ℕ) (m : Memory) (rest : List Instr) → Reaches c a k ws m → drop k code ≡ S Sd 30 0 (pos (8 * j)) ∷ rest → 0 < length rest → at + 8 * j + 8 ≤ length m.cells → j < 8 → Reaches c (a + 1) (k + 1) ws (record m { cells = with_piece (at + 8 * j) (low_bytes 8 0) m.cells })
  one a k j m rest r e more room few =
      let i = S Sd 30 0 (pos (8 * j)) in
      let new = record m { cells = with_piece (at + 8 * j) (low_bytes 8 0) m.cells } in
      let gs : List Given = Leaves new ∷ [] in
      let this : take 1 (drop k code) ≡ i ∷ [] = ap (take 1) e in
      let place : sum64 (FIRST_CELL + at) (8 * j) ≡ FIRST_CELL + (at + 8 * j) = omega arith in
      let even : (FIRST_CELL + (at + 8 * j)) % 8 ≡ 0 = omega arith in
      let store : stored m 8 (sum64 (read s.registers ws 30) (8 * j)) (read s.registers ws 0) ≡ Some new =
      ap (λ x. stored m 8 (sum64 x (8 * j)) (read s.registers ws 0)) address
      ∙ ap (λ x. stored m 8 x (read s.registers ws 0)) place
      ∙ ap (λ x. stored m 8 (FIRST_CELL + (at + 8 * j)) x) (read_zero s.registers ws)
      ∙ store_cells m 8 (at + 8 * j) 0 even room in
      let does : Follow image.constants s.registers s.pc k ws m (i ∷ []) gs = store ▸ tt in
      let long = room_at k code (i ∷ rest) e (omega arith) in
      let Way : List Instr → Type 0 = λ is. Reaches c (a + 1) (k + 1) (writes_after ws is gs) (memory_after m is gs) in
      subst Way this (straight r 1 gs (omega arith) (omega (arith, long, more)) (subst (λ is. Follow image.constants s.registers s.pc k ws m is gs) (sym this) does))

  pub zeros : (n a k j : ℕ) (m : Memory) → Reaches c a k ws m → drop k code ≡ zeros_code j n ++ tail → at + 8 * (j + n) ≤ length m.cells → j + n ≤ 8 → Zeros c (a + n) (k + n) ws (left m at j n) tail
  zeros zero a k j m r e room few =
      let za : a + 0 ≡ a = omega arith in
      let zk : k + 0 ≡ k = omega arith in
      record { reaches = rw (za, zk) r; behind = rw zk e }
  zeros (suc n) a k j m r e room few =
      let rest = zeros_code (suc j) n ++ tail in
      let more : 0 < length rest = omega (arith, length-append (zeros_code (suc j) n) tail, some) in
      let first = one a k j m rest r e more (omega (arith, room)) (omega arith) in
      let new = record m { cells = with_piece (at + 8 * j) (low_bytes 8 0) m.cells } in
      let size = length-with_piece (at + 8 * j) (low_bytes 8 0) m.cells (omega (arith, room)) in
      let then = zeros n (a + 1) (k + 1) (suc j) new first (after_drop k code (S Sd 30 0 (pos (8 * j))) rest e) (omega (arith, size, room)) (omega arith) in
      let za : a + suc n ≡ a + 1 + n = omega arith in
      let zk : k + suc n ≡ k + 1 + n = omega arith in
      let zj : at + 8 * j + 8 ≡ at + 8 * suc j = omega arith in
      let then' = subst (λ p. Zeros c (a + 1 + n) (k + 1 + n) ws (record m { cells = zeroed p n new.cells }) tail) (sym zj) then in
      rw (za, zk) then'
