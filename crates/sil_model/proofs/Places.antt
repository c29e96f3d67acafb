-- Where addresses lie, and what a write leaves at a place.
use Rattle.std.proofs.Common.{◌≡◌, ◌≢◌, ℕ, zero, suc, ◌<◌, List, [], ◌∷◌, length, Option, Some, None, ℤ, pos, negsuc, refl, ap, subst, arith}
use Rattle.std.specs.Prelude.{slice_get, slice_set, ◌==◌, if◌then◌else◌}
use Rattle.std.proofs.lemmas.Option.{same_Some}
use Rattle.std.proofs.Math.ListN.{length-set}
use Rattle.layout_params.specs.declared.cell.Cell.{Cell}
use Rattle.sil_model.specs.Memory.{Memory, IsMemory}
use Rattle.sil_model.specs.Access.{◌>>=◌, byte_place, cell_number, with_cell}

-- ---- lists

pub set_here : {A : Type 0} (xs : List A) (i : ℕ) (v : A) → i < length xs → slice_get (slice_set xs i v) i ≡ Some v
set_here [] i v h = absurd (omega arith)
set_here (x ∷ xs) zero v h = refl
set_here (x ∷ xs) (suc i) v h = set_here xs i v (omega arith)

pub set_there : {A : Type 0} (xs : List A) (i j : ℕ) (v : A) → j ≢ i → slice_get (slice_set xs i v) j ≡ slice_get xs j
set_there [] i j v ne = refl
set_there (x ∷ xs) zero zero v ne = absurd (ne refl)
set_there (x ∷ xs) zero (suc j) v ne = refl
set_there (x ∷ xs) (suc i) zero v ne = refl
set_there (x ∷ xs) (suc i) (suc j) v ne = set_there xs i j v (omega arith)

-- ---- places

-- a place that was found is in a cell that is there
pub place_within : (m : Memory) (at : ℤ) (p : ℕ × ℕ) → IsMemory m → byte_place m at ≡ Some p → p.1 < m.limits.cell_size
unfolding byte_place
place_within m (negsuc at) p h is = cc
place_within m (pos at) p h is = grind (arith, is, h.limits.least)

pub place_there : (m : Memory) (at : ℤ) (p : ℕ × ℕ) → byte_place m at ≡ Some p → p.0 < length m.cells
unfolding byte_place
place_there m (negsuc at) p is = cc
place_there m (pos at) p is = grind (arith, is)

first_of_whole : (o : Option (ℕ × ℕ)) (i : ℕ) → (o >>= (λ p. if p.1 == 0 then Some p.0 else None)) ≡ Some i → (p : ℕ × ℕ) × (o ≡ Some p) × (p.0 ≡ i)
first_of_whole None i is = absurd (grind (arith, is))
first_of_whole (Some (n, zero)) i is = ((n, zero), refl, same_Some n i is)
first_of_whole (Some (n, suc k)) i is = absurd (grind (arith, is))

-- a cell's address is a place in it
pub number_place : (m : Memory) (at : ℤ) (i : ℕ) → cell_number m at ≡ Some i → (p : ℕ × ℕ) × (byte_place m at ≡ Some p) × (p.0 ≡ i)
unfolding cell_number
number_place m at i is = first_of_whole (byte_place m at) i is

pub number_there : (m : Memory) (at : ℤ) (i : ℕ) → cell_number m at ≡ Some i → i < length m.cells
number_there m at i is =
    let found = number_place m at i is in
    subst (λ j. j < length m.cells) found.2 (place_there m at found.0 found.1)

-- a write moves nothing
pub same_place : (m : Memory) (i : ℕ) (cell : Cell) (at : ℤ) → byte_place (with_cell m i cell) at ≡ byte_place m at
unfolding byte_place
same_place m i cell (negsuc at) = refl
same_place m i cell (pos at) = rw (length-set m.cells i cell) refl

pub same_number : (m : Memory) (i : ℕ) (cell : Cell) (at : ℤ) → cell_number (with_cell m i cell) at ≡ cell_number m at
unfolding cell_number
same_number m i cell at = ap (λ o. o >>= (λ p. if p.1 == 0 then Some p.0 else None)) (same_place m i cell at)
