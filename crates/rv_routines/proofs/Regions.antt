-- What loads give and stores leave, region by region.
use Rattle.std.proofs.Common.{◌≡◌, ℕ, zero, suc, ◌+◌, ◌-◌, ◌*◌, ◌%◌, ◌^◌, ◌<◌, ◌≤◌, List, [], ◌∷◌, length, Some, None, true, refl, ap, ◌∙◌, arith}
use Rattle.std.proofs.lemmas.Option.{slice_get_within}
use Rattle.std.specs.Prelude.{slice_get, ◌==◌}
use Rattle.sil_base.specs.Bytes.{number, piece, low_bytes, with_piece}
use Rattle.sil_base.specs.declared.places.TheConstants.{FIRST_CELL, FIRST_CONSTANT, FIRST_KIND, FIRST_SCRATCH, FIRST_TABLE}
use Rattle.rv_emulate.specs.EmulatorMemory.{Memory, loaded, load_from, stored, store_into}

-- ---- a region holds an address, or ends before it

past_region : (first : ℕ) (bytes : List ℕ) (n address : ℕ) → first + length bytes < address + n → load_from first bytes n address ≡ None
past_region first bytes n address h = grind arith

in_region : (first : ℕ) (bytes : List ℕ) (n i : ℕ) → i + n ≤ length bytes → load_from first bytes n (first + i) ≡ Some (number (piece i n bytes))
in_region first bytes n i h =
    let at : first + i - first ≡ i = omega arith in
    rw at (grind arith)

past_store : (first : ℕ) (bytes : List ℕ) (n address v : ℕ) → first + length bytes < address + n → store_into first bytes n address v ≡ None
past_store first bytes n address v h = grind arith

in_store : (first : ℕ) (bytes : List ℕ) (n i v : ℕ) → i + n ≤ length bytes → store_into first bytes n (first + i) v ≡ Some (with_piece i (low_bytes n v) bytes)
in_store first bytes n i v h =
    let at : first + i - first ≡ i = omega arith in
    rw at (grind arith)

-- ---- the cells

pub load_cells : (constants : List ℕ) (m : Memory) (n i : ℕ) → (FIRST_CELL + i) % n ≡ 0 → i + n ≤ length m.cells → loaded constants m n (FIRST_CELL + i) ≡ Some (number (piece i n m.cells))
unfolding loaded
load_cells constants m n i e h =
    let at : FIRST_CELL + i - FIRST_CELL ≡ i = omega arith in
    rw at (grind arith)

pub store_cells : (m : Memory) (n i v : ℕ) → (FIRST_CELL + i) % n ≡ 0 → i + n ≤ length m.cells → stored m n (FIRST_CELL + i) v ≡ Some (record m { cells = with_piece i (low_bytes n v) m.cells })
unfolding stored
store_cells m n i v e h =
    let at : FIRST_CELL + i - FIRST_CELL ≡ i = omega arith in
    rw at (grind arith)

-- ---- the kinds

pub piece_one : (xs : List ℕ) (i k : ℕ) → slice_get xs i ≡ Some k → piece i 1 xs ≡ k ∷ []
piece_one [] i k e = absurd cc
piece_one (x ∷ xs) zero k e = let same : x ≡ k = cc in ap (λ y. y ∷ []) same
piece_one (x ∷ xs) (suc i) k e = piece_one xs i k e

pub load_kind : (constants : List ℕ) (m : Memory) (i k : ℕ) → length m.cells ≤ 2 ^ 26 → slice_get m.kinds i ≡ Some k → loaded constants m 1 (FIRST_KIND + i) ≡ Some k
unfolding loaded
load_kind constants m i k room e =
    let within : i < length m.kinds = slice_get_within m.kinds i k e in
    let value : number (piece i 1 m.kinds) ≡ k = ap number (piece_one m.kinds i k e) ∙ omega arith in
    let a = past_region FIRST_CELL m.cells 1 (FIRST_KIND + i) (omega arith) in
    let b = in_region FIRST_KIND m.kinds 1 i (omega arith) in
    let aligned : ((FIRST_KIND + i) % 1 == 0) ≡ true = grind arith in
    rw (aligned, a, b) (ap Some value)

pub store_kind : (m : Memory) (i v : ℕ) → length m.cells ≤ 2 ^ 26 → i < length m.kinds → stored m 1 (FIRST_KIND + i) v ≡ Some (record m { kinds = with_piece i (low_bytes 1 v) m.kinds })
unfolding stored
store_kind m i v room h =
    let a = past_store FIRST_CELL m.cells 1 (FIRST_KIND + i) v (omega (arith, room)) in
    let b = in_store FIRST_KIND m.kinds 1 i v (omega arith) in
    let aligned : ((FIRST_KIND + i) % 1 == 0) ≡ true = grind arith in
    rw (aligned, a, b) refl

-- ---- words of the tables

pub load_table : (constants : List ℕ) (m : Memory) (i : ℕ) → length m.cells ≤ 2 ^ 26 → length m.kinds ≤ 2 ^ 20 → 8 * i + 8 ≤ length m.tables → loaded constants m 8 (FIRST_TABLE + 8 * i) ≡ Some (number (piece (8 * i) 8 m.tables))
unfolding loaded
load_table constants m i room few h =
    let a = past_region FIRST_CELL m.cells 8 (FIRST_TABLE + 8 * i) (omega arith) in
    let b = past_region FIRST_KIND m.kinds 8 (FIRST_TABLE + 8 * i) (omega arith) in
    let c = in_region FIRST_TABLE m.tables 8 (8 * i) h in
    let aligned : ((FIRST_TABLE + 8 * i) % 8 == 0) ≡ true = grind arith in
    rw (aligned, a, b, c) refl

pub store_table : (m : Memory) (i v : ℕ) → length m.cells ≤ 2 ^ 26 → length m.kinds ≤ 2 ^ 20 → 8 * i + 8 ≤ length m.tables → stored m 8 (FIRST_TABLE + 8 * i) v ≡ Some (record m { tables = with_piece (8 * i) (low_bytes 8 v) m.tables })
unfolding stored
store_table m i v room few h =
    let a = past_store FIRST_CELL m.cells 8 (FIRST_TABLE + 8 * i) v (omega arith) in
    let b = past_store FIRST_KIND m.kinds 8 (FIRST_TABLE + 8 * i) v (omega arith) in
    let c = in_store FIRST_TABLE m.tables 8 (8 * i) v h in
    let aligned : ((FIRST_TABLE + 8 * i) % 8 == 0) ≡ true = grind arith in
    rw (aligned, a, b, c) refl

-- ---- words of the scratch region

pub load_scratch : (constants : List ℕ) (m : Memory) (i : ℕ) → length m.cells ≤ 2 ^ 26 → length m.kinds ≤ 2 ^ 20 → length m.tables ≤ 2 ^ 20 → length constants ≤ 2 ^ 26 → 8 * i + 8 ≤ length m.scratch → loaded constants m 8 (FIRST_SCRATCH + 8 * i) ≡ Some (number (piece (8 * i) 8 m.scratch))
unfolding loaded
load_scratch constants m i room few tables texts h =
    let a = past_region FIRST_CELL m.cells 8 (FIRST_SCRATCH + 8 * i) (omega arith) in
    let b = past_region FIRST_KIND m.kinds 8 (FIRST_SCRATCH + 8 * i) (omega arith) in
    let c = past_region FIRST_TABLE m.tables 8 (FIRST_SCRATCH + 8 * i) (omega arith) in
    let d = past_region FIRST_CONSTANT constants 8 (FIRST_SCRATCH + 8 * i) (omega arith) in
    let e = in_region FIRST_SCRATCH m.scratch 8 (8 * i) h in
    let aligned : ((FIRST_SCRATCH + 8 * i) % 8 == 0) ≡ true = grind arith in
    rw (aligned, a, b, c, d, e) refl

pub store_scratch : (m : Memory) (i v : ℕ) → length m.cells ≤ 2 ^ 26 → length m.kinds ≤ 2 ^ 20 → length m.tables ≤ 2 ^ 20 → 8 * i + 8 ≤ length m.scratch → stored m 8 (FIRST_SCRATCH + 8 * i) v ≡ Some (record m { scratch = with_piece (8 * i) (low_bytes 8 v) m.scratch })
unfolding stored
store_scratch m i v room few tables h =
    let a = past_store FIRST_CELL m.cells 8 (FIRST_SCRATCH + 8 * i) v (omega arith) in
    let b = past_store FIRST_KIND m.kinds 8 (FIRST_SCRATCH + 8 * i) v (omega arith) in
    let c = past_store FIRST_TABLE m.tables 8 (FIRST_SCRATCH + 8 * i) v (omega arith) in
    let e = in_store FIRST_SCRATCH m.scratch 8 (8 * i) v h in
    let aligned : ((FIRST_SCRATCH + 8 * i) % 8 == 0) ≡ true = grind arith in
    rw (aligned, a, b, c, e) refl
