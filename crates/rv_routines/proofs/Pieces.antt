-- Pieces of bytes and elements of lists after a write.
use Rattle.std.proofs.Common.{◌≡◌, ◌≢◌, ℕ, zero, suc, ◌+◌, ◌%◌, ◌<◌, ◌≤◌, List, [], ◌∷◌, ◌++◌, length, take, drop, Some, refl, ap, arith}
use Rattle.std.specs.Prelude.{slice_get, slice_set}
use Rattle.sil_base.specs.Bytes.{low_bytes, piece, with_piece}

-- a write within a piece is a write in the piece
at_front : (n : ℕ) (new bytes : List ℕ) → length new ≤ n → n ≤ length bytes → take n (new ++ drop (length new) bytes) ≡ new ++ drop (length new) (take n bytes)
at_front n [] bytes h g = refl
at_front zero (x ∷ new) bytes h g = absurd (omega (arith, h))
at_front (suc n) (x ∷ new) [] h g = absurd (omega (arith, g))
at_front (suc n) (x ∷ new) (b ∷ bytes) h g = ap (λ ys. x ∷ ys) (at_front n new bytes (omega (arith, h)) (omega (arith, g)))

pub behind : (k n : ℕ) (new bytes : List ℕ) → k + length new ≤ n → n ≤ length bytes → take n (with_piece k new bytes) ≡ with_piece k new (take n bytes)
behind zero n new bytes h g = let z : 0 + length new ≡ length new = omega arith in rw z (at_front n new bytes (omega (arith, h)) g)
behind (suc k) zero new bytes h g = absurd (omega (arith, h))
behind (suc k) (suc n) new [] h g = absurd (omega (arith, g))
behind (suc k) (suc n) new (b ∷ bytes) h g =
    let z : suc k + length new ≡ suc (k + length new) = omega arith in
    rw z (ap (λ ys. b ∷ ys) (behind k n new bytes (omega (arith, h)) (omega (arith, g))))

pub piece_written : (p k n : ℕ) (new bytes : List ℕ) → k + length new ≤ n → p + n ≤ length bytes → piece p n (with_piece (p + k) new bytes) ≡ with_piece k new (piece p n bytes)
piece_written zero k n new bytes h g = let z : 0 + k ≡ k = omega arith in rw z (behind k n new bytes h (omega (arith, g)))
piece_written (suc p) k n new [] h g = absurd (omega (arith, g))
piece_written (suc p) k n new (b ∷ bytes) h g =
    let z : suc p + k ≡ suc (p + k) = omega arith in
    let w : suc (p + k) + length new ≡ suc (p + k + length new) = omega arith in
    rw (z, w) (piece_written p k n new bytes h (omega (arith, g)))

pub set_here : {A : Type 0} (xs : List A) (i : ℕ) (v : A) → i < length xs → slice_get (slice_set xs i v) i ≡ Some v
set_here [] i v h = absurd (omega arith)
set_here (x ∷ xs) zero v h = refl
set_here (x ∷ xs) (suc i) v h = set_here xs i v (omega arith)

pub set_there : {A : Type 0} (xs : List A) (i j : ℕ) (v : A) → j ≢ i → slice_get (slice_set xs i v) j ≡ slice_get xs j
set_there [] i j v ne = refl
set_there (x ∷ xs) zero zero v ne = absurd (ne refl)
set_there (x ∷ xs) zero (suc j) v ne = refl
set_there (x ∷ xs) (suc i) zero v ne = refl
set_there (x ∷ xs) (suc i) (suc j) v ne = set_there xs i j v (omega arith)

-- a kind byte was written
pub kind_written : (i v : ℕ) (kinds : List ℕ) → i < length kinds → v < 256 → with_piece i (low_bytes 1 v) kinds ≡ slice_set kinds i v
kind_written i v [] h lt = absurd (omega (arith, h))
kind_written zero v (k ∷ kinds) h lt = let small : v % 256 ≡ v = omega arith in rw small refl
kind_written (suc i) v (k ∷ kinds) h lt =
    let z : suc i + 1 ≡ suc (i + 1) = omega arith in
    rw z (ap (λ ks. k ∷ ks) (kind_written i v kinds (omega (arith, h)) lt))

pub kind_here : (i v : ℕ) (kinds : List ℕ) → i < length kinds → slice_get (slice_set kinds i v) i ≡ Some v
kind_here i v kinds h = set_here kinds i v h

pub kind_there : (i j v : ℕ) (kinds : List ℕ) → j ≢ i → slice_get (slice_set kinds i v) j ≡ slice_get kinds j
kind_there i j v kinds ne = set_there kinds i j v ne
