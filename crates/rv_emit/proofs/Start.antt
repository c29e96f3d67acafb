-- The start of the code: the empty stack's top goes into the first two words of scratch, and the run to statement 0.
use Rattle.std.proofs.Common.{◌≡◌, ℕ, zero, suc, ◌+◌, ◌-◌, ◌*◌, ◌%◌, ◌^◌, ◌<◌, ◌≤◌, List, [], ◌∷◌, length, get_or, replicate, None, false, refl, arith}
use Rattle.std.proofs.lemmas.List.{length-replicate}
use Rattle.sil_base.specs.Bytes.{low_bytes, with_piece}
use Rattle.sil_base.proofs.Numbers.{length-with_piece, length-low_bytes}
use Rattle.sil_base.specs.declared.limits.TheConstants.{SCRATCH_BYTES, STATEMENT_INSTRUCTIONS}
use Rattle.sil_base.specs.declared.places.TheConstants.{FIRST_SCRATCH, FIRST_WORD}
use Rattle.unit_io.specs.Tapes.{Tapes}
use Rattle.image_file.specs.Image.{Image}
use Rattle.rv_emulate.specs.EmulatorMemory.{Memory}
use Rattle.rv_emulate.specs.EmulatorStates.{State, On, start, first_memory, first_registers, register}
use Rattle.rv_emulate.specs.InstrValues.{extended}
use Rattle.rv_straight.specs.InstalledWays.{Comes}
use Rattle.rv_straight.specs.Registers.{IsFile, Writes, Knows}
use Rattle.rv_straight.specs.InstrEffects.{Value, Leaves}
use Rattle.rv_straight.specs.Straight.{at, ◌▸◌}
use Rattle.rv_straight.specs.Code.{IsNext}
use Rattle.rv_straight.specs.Constants.{upper_of}
use Rattle.rv_straight.specs.Reaching.{Reaches}
use Rattle.rv_straight.proofs.Ways.{comes_within}
use Rattle.rv_straight.proofs.Registers.{knows_start, knows_write}
use Rattle.rv_straight.proofs.Reaching.{start as from_here, straight, leaps}
use Rattle.rv_straight.proofs.Numbers.{constant_is}
use Rattle.rv_straight.proofs.Leaps.{half_way}
use Rattle.rv_routines.proofs.Regions.{store_scratch}
use Rattle.rv_emit.specs.Code.{start_code}
use Rattle.rv_emit.specs.Carries.{HasRegions, Starts, with_stack}

-- ---- the first registers

zero_at : (n q : ℕ) → get_or {A = ℕ} (replicate n 0) q 0 ≡ 0
zero_at zero q = refl
zero_at (suc n) zero = refl
zero_at (suc n) (suc q) = zero_at n q

zero_file : IsFile (replicate 32 0)
zero_file = record { size = refl; small = small }
  where
    small : (q : ℕ) → register (replicate 32 0) q < 2 ^ 64
    small zero = omega arith
    small (suc q) = omega (arith, zero_at 32 (suc q))

first_file : (n : ℕ) → n < 2 ^ 64 → IsFile (first_registers n)
first_file n h = (knows_write (replicate 32 0) ((25, n) ∷ []) 27 n (knows_write (replicate 32 0) [] 25 n (knows_start (replicate 32 0) zero_file) (omega arith) h) (omega arith) h).file

-- ---- the instructions

module _ (image : Image) (last top to : ℕ) (xs : List ℕ) (m : Memory) (tapes : Tapes) where
  abbrev s : State
  s = record { pc = FIRST_WORD; registers = xs; memory = m; tapes = tapes; failed = None }

  abbrev up : ℕ
  up = extended (upper_of top * 2 ^ 12)

  abbrev ws : Writes
  ws = (29, top) ∷ (29, up) ∷ (28, FIRST_SCRATCH) ∷ []

  abbrev pub us : Writes
  us = (0, FIRST_WORD + 28) ∷ (28, half_way (FIRST_WORD + 20) to) ∷ ws

  abbrev m1 : Memory
  m1 = record m { scratch = with_piece 0 (low_bytes 8 top) m.scratch }

  abbrev pub m2 : Memory
  m2 = record m { scratch = with_stack top m.scratch }

  module _ (c : IsNext image last s (start_code top to)) (file : IsFile xs) (cells : length m.cells ≤ 2 ^ 26) (kinds : length m.kinds ≤ 2 ^ 20) (tables : length m.tables ≤ 2 ^ 20) (room : 16 ≤ length m.scratch) (small : top < 2 ^ 31 - 2 ^ 11) (near : to < 2 ^ 31 - 2 ^ 12) (even : to % 4 ≡ 0) where
    long_1 : length m1.scratch ≡ length m.scratch
    long_1 = length-with_piece 0 (low_bytes 8 top) m.scratch (omega (arith, room, length-low_bytes 8 top))

    stored_both : Reaches c 5 5 ws m2
    stored_both =
        straight (from_here c file) 5 (Value FIRST_SCRATCH ∷ Value up ∷ Value top ∷ Leaves m1 ∷ Leaves m2 ∷ []) (omega arith) (omega arith)
        (refl ▸ refl ▸ constant_is top small ▸ store_scratch m 0 top cells kinds tables (omega (arith, room)) ▸ store_scratch m1 1 top cells kinds tables (omega (arith, room, long_1)) ▸ tt)

    pub goes : Comes image last false 7 s (On (at s to us m2))
    goes = leaps stored_both 28 0 to (omega arith) refl refl (omega arith) near even

    pub knows : Knows xs us
    knows = knows_write xs ((28, half_way (FIRST_WORD + 20) to) ∷ ws) 0 (FIRST_WORD + 28) (knows_write xs ws 28 (half_way (FIRST_WORD + 20) to) stored_both.know (omega arith) (omega arith)) (omega arith) (omega arith)

-- ---- the start

pub starts : (image : Image) (last top to : ℕ) (tapes : Tapes) (n : ℕ) → n < 2 ^ 64 → HasRegions image → IsNext image last (start image tapes n) (start_code top to) → top < 2 ^ 31 - 2 ^ 11 → to < 2 ^ 31 - 2 ^ 12 → to % 4 ≡ 0 → Starts image last to top tapes n
unfolding start
starts image last top to tapes n few regions c small near even =
    let xs = first_registers n in
    let m = first_memory image in
    let file = first_file n few in
    let long = length-replicate {A = ℕ} SCRATCH_BYTES 0 in
    let room : 16 ≤ length m.scratch = omega arith in
    let way = goes image last top to xs m tapes c file regions.cells regions.kinds regions.tables room small near even in
    let know = knows image last top to xs m tapes c file regions.cells regions.kinds regions.tables room small near even in
    record {
      state = at (start image tapes n) to (us image last top to xs m tapes) (m2 image last top to xs m tapes);
      comes = comes_within image last false 7 STATEMENT_INSTRUCTIONS (start image tapes n) _ way (omega arith);
      there = refl;
      file = know.file;
      bound = know.reads 25;
      left = know.reads 27;
      memory = refl;
      same_tapes = refl;
    }
