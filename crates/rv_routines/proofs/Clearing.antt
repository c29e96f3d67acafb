-- A cell of zeros.
use Rattle.std.proofs.Common.{◌≡◌, ℕ, zero, suc, ◌+◌, ◌*◌, ◌/◌, ◌%◌, ◌<◌, ◌≤◌, List, [], ◌∷◌, ◌++◌, length, drop, replicate, Some, refl, sym, ap, subst, ◌∙◌, arith, length-append}
use Rattle.std.proofs.lemmas.List.{length-replicate}
use Rattle.std.specs.Prelude.{slice_get}
use Rattle.sil_base.specs.Bytes.{low_bytes, piece, with_piece, AreBytes}
use Rattle.sil_base.proofs.Numbers.{length-with_piece, piece-with_piece}
use Rattle.rv_emulate.specs.EmulatorMemory.{Memory}
use Rattle.rv_routines.specs.Holds.{DifferInCell}
use Rattle.rv_routines.specs.Tests.{zeroed, cleared}
use Rattle.rv_routines.proofs.Pieces.{kind_written, kind_here}
use Rattle.rv_routines.proofs.Differing.{differ_bytes, differ_kind, differ_then}

-- one write behind another is one write
front : (a b bytes : List ℕ) → length a + length b ≤ length bytes → with_piece (length a) b (a ++ drop (length a) bytes) ≡ (a ++ b) ++ drop (length a + length b) bytes
front [] b bytes h = let z : 0 + length b ≡ length b = omega arith in rw z refl
front (x ∷ a) b [] h = absurd (omega (arith, h))
front (x ∷ a) b (y ∷ bytes) h =
    let z : suc (length a) + length b ≡ suc (length a + length b) = omega arith in
    rw z (ap (λ ys. x ∷ ys) (front a b bytes (omega (arith, h))))

pub adjacent : (at : ℕ) (a b bytes : List ℕ) → at + (length a + length b) ≤ length bytes → with_piece (at + length a) b (with_piece at a bytes) ≡ with_piece at (a ++ b) bytes
adjacent zero a b bytes h =
    let z : 0 + length a ≡ length a = omega arith in
    let w : 0 + length (a ++ b) ≡ length a + length b = omega (arith, length-append a b) in
    rw (z, w) (front a b bytes (omega (arith, h)))
adjacent (suc at) a b [] h = absurd (omega (arith, h))
adjacent (suc at) a b (y ∷ bytes) h =
    let z : suc at + length a ≡ suc (at + length a) = omega arith in
    let v : suc (at + length a) + length b ≡ suc (at + length a + length b) = omega arith in
    let w : suc at + length (a ++ b) ≡ suc (at + length (a ++ b)) = omega arith in
    rw (z, v, w) (ap (λ ys. y ∷ ys) (adjacent at a b bytes (omega (arith, h))))

-- zeros word by word are zeros
zero_bytes : (n : ℕ) → low_bytes 8 0 ++ replicate (8 * n) 0 ≡ replicate (8 * suc n) 0
zero_bytes n =
    let e : 8 * suc n ≡ suc (suc (suc (suc (suc (suc (suc (suc (8 * n)))))))) = omega arith in
    rw e refl

pub zeroed_is : (n at : ℕ) (bytes : List ℕ) → at + 8 * n ≤ length bytes → zeroed at n bytes ≡ with_piece at (replicate (8 * n) 0) bytes
zeroed_is zero at bytes h = sym (nothing at bytes)
  where
    nothing : (at : ℕ) (bytes : List ℕ) → with_piece at [] bytes ≡ bytes
    nothing zero bytes = refl
    nothing (suc at) [] = let z : suc at + 0 ≡ suc at = omega arith in rw z refl
    nothing (suc at) (b ∷ bytes) =
        let z : suc at + 0 ≡ suc (at + 0) = omega arith in
        rw z (ap (λ ys. b ∷ ys) (nothing at bytes))
zeroed_is (suc n) at bytes h =
    let first = with_piece at (low_bytes 8 0) bytes in
    let size = length-with_piece at (low_bytes 8 0) bytes (omega (arith, h)) in
    let long = length-replicate {A = ℕ} (8 * n) 0 in
    zeroed_is n (at + 8) first (omega (arith, h, size)) ∙ adjacent at (low_bytes 8 0) (replicate (8 * n) 0) bytes (omega (arith, h, long)) ∙ ap (λ zs. with_piece at zs bytes) (zero_bytes n)

zeros_are_bytes : (n : ℕ) → AreBytes (replicate n 0)
zeros_are_bytes zero i = omega arith
zeros_are_bytes (suc n) zero = omega arith
zeros_are_bytes (suc n) (suc i) = zeros_are_bytes n i

module _ (d i kind : ℕ) (m : Memory) (words : d % 8 ≡ 0) (room : i * d + d ≤ length m.cells) (here : i < length m.kinds) (small : kind < 256) where
  abbrev zeros : List ℕ
  zeros = replicate d 0

  abbrev after : Memory
  after = record m { cells = with_piece (i * d + 0) zeros m.cells }

  whole : 8 * (d / 8) ≡ d
  whole = omega arith

  -- the i-th cell is written whole
  pub cells_are : (cleared d i kind m).cells ≡ after.cells
  cells_are =
      let z : i * d ≡ i * d + 0 = omega arith in
      zeroed_is (d / 8) (i * d) m.cells (omega (arith, whole)) ∙ ap (λ n. with_piece (i * d) (replicate n 0) m.cells) whole ∙ ap (λ p. with_piece p zeros m.cells) z

  long : length zeros ≡ d
  long = length-replicate {A = ℕ} d 0

  differ_after : DifferInCell d i m (record after { kinds = with_piece i (low_bytes 1 kind) m.kinds })
  differ_after = differ_then d i m after (record after { kinds = with_piece i (low_bytes 1 kind) m.kinds }) (differ_bytes d i 0 zeros m (omega (arith, long)) room (zeros_are_bytes d)) (differ_kind d i kind after here small)

  pub differ_cleared : DifferInCell d i m (cleared d i kind m)
  differ_cleared = subst (λ cells. DifferInCell d i m (record m { cells = cells; kinds = with_piece i (low_bytes 1 kind) m.kinds })) (sym cells_are) differ_after

  -- its bytes are zeros, and its kind is there
  pub zeros_here : piece (i * d) d (cleared d i kind m).cells ≡ zeros
  zeros_here =
      let z : i * d + 0 ≡ i * d = omega arith in
      let read : piece (i * d) (length zeros) (with_piece (i * d) zeros m.cells) ≡ zeros = piece-with_piece (i * d) zeros m.cells (omega (arith, long)) in
      ap (λ cells. piece (i * d) d cells) cells_are ∙ ap (λ p. piece (i * d) d (with_piece p zeros m.cells)) z ∙ subst (λ n. piece (i * d) n (with_piece (i * d) zeros m.cells) ≡ zeros) long read

  pub kind_there : slice_get (cleared d i kind m).kinds i ≡ Some kind
  kind_there = ap (λ ks. slice_get ks i) (kind_written i kind m.kinds here small) ∙ kind_here i kind m.kinds here
