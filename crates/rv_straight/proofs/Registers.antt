-- The register file after writes.
use Rattle.std.proofs.Common.{◌≡◌, ◌≢◌, ℕ, zero, suc, ◌^◌, ◌<◌, ◌⊎◌, inl, inr, List, [], ◌∷◌, length, get_or, set, Bool, true, false, cond, ◌==◌, ◌&&◌, refl, sym, ap, ◌∙◌, arith, get_or-set_other, get_or-set_same}
use Rattle.std.proofs.lemmas.List.{length-set}
use Rattle.std.proofs.lemmas.Bool.{cases_eq}
use Rattle.rv_emulate.specs.EmulatorStates.{register, with_register}
use Rattle.rv_straight.specs.Registers.{IsFile, Writes, written, read, are, Knows}

pub knows_start : (xs : List ℕ) → IsFile xs → Knows xs []
knows_start xs h = record { file = h; reads = λ q. refl }

size_with : (xs : List ℕ) (q v : ℕ) → length (with_register xs q v) ≡ length xs
size_with xs zero v = refl
size_with xs (suc q) v = length-set xs (suc q) v

register_with : (xs : List ℕ) (r v q : ℕ) → length xs ≡ 32 → r < 32 → register (with_register xs r v) (suc q) ≡ cond (suc q == r) v (register xs (suc q))
register_with xs zero v q size lt = let no : (suc q == 0) ≡ false = grind arith in rw no refl
register_with xs (suc r) v q size lt = on (cases_eq q r)
  where
    on : (q ≡ r) ⊎ (q ≢ r) → get_or (set xs (suc r) v) (suc q) 0 ≡ cond (suc q == suc r) v (get_or xs (suc q) 0)
    on (inl e) = let yes : (suc q == suc r) ≡ true = grind arith in let room : suc r < length xs = omega arith in rw (yes, e) (get_or-set_same xs (suc r) v 0 room)
    on (inr ne) = let no : (suc q == suc r) ≡ false = grind arith in let apart : suc q ≢ suc r = omega arith in rw no (get_or-set_other xs (suc r) (suc q) v 0 apart)

small_with : (xs : List ℕ) (r v q : ℕ) → IsFile xs → r < 32 → v < 2 ^ 64 → register (with_register xs r v) q < 2 ^ 64
small_with xs r v zero h lt small = omega arith
small_with xs r v (suc q) h lt small = rw (register_with xs r v q h.size lt) (either (suc q == r))
  where
    either : (b : Bool) → cond b v (register xs (suc q)) < 2 ^ 64
    either true = small
    either false = h.small (suc q)

pub knows_write : (xs : List ℕ) (ws : Writes) (r v : ℕ) → Knows xs ws → r < 32 → v < 2 ^ 64 → Knows xs ((r, v) ∷ ws)
knows_write xs ws r v k lt small = record {
  file = record { size = size_with (written xs ws) r v ∙ k.file.size; small = λ q. small_with (written xs ws) r v q k.file lt small };
  reads = reads;
}
  where
    reads : (q : ℕ) → register (with_register (written xs ws) r v) q ≡ read xs ((r, v) ∷ ws) q
    reads zero = refl
    reads (suc q) = register_with (written xs ws) r v q k.file.size lt ∙ ap (λ y. cond (suc q == r) v y) (k.reads (suc q))

pub read_zero : (xs : List ℕ) (ws : Writes) → read xs ws 0 ≡ 0
read_zero xs [] = refl
read_zero xs (w ∷ ws) = refl

-- the register that was written last
pub read_here : (xs : List ℕ) (ws : Writes) (r v : ℕ) → 0 < r → read xs ((r, v) ∷ ws) r ≡ v
read_here xs ws zero v h = absurd (omega arith)
read_here xs ws (suc r) v h = let yes : (suc r == suc r) ≡ true = grind arith in rw yes refl

-- and any other
pub read_other : (xs : List ℕ) (ws : Writes) (r v q : ℕ) → q ≢ r → read xs ((r, v) ∷ ws) q ≡ read xs ws q
read_other xs ws r v zero h = sym (read_zero xs ws)
read_other xs ws r v (suc q) h = let no : (suc q == r) ≡ false = grind arith in rw no refl

set-set : (xs : List ℕ) (i x y : ℕ) → set (set xs i x) i y ≡ set xs i y
set-set [] i x y = refl
set-set (z ∷ xs) zero x y = refl
set-set (z ∷ xs) (suc i) x y = ap (λ ys. z ∷ ys) (set-set xs i x y)

-- of two writes of a register the later counts
pub written_again : (xs : List ℕ) (ws : Writes) (r x y : ℕ) → written xs ((r, y) ∷ (r, x) ∷ ws) ≡ written xs ((r, y) ∷ ws)
written_again xs ws zero x y = refl
written_again xs ws (suc r) x y = set-set (written xs ws) (suc r) x y

-- where all writes are of free registers, another is as it was
pub read_kept : (free : ℕ → Bool) (xs : List ℕ) (ws : Writes) (q : ℕ) → are free ws ≡ true → free q ≡ false → read xs ws q ≡ register xs q
read_kept free xs [] q all h = refl
read_kept free xs (w ∷ ws) zero all h = refl
read_kept free xs (w ∷ ws) (suc q) all h =
    let both = all_true (free w.0) (are free ws) all in
    rw (apart (suc q == w.0) refl both.0) (read_kept free xs ws (suc q) both.1 h)
  where
    all_true : (a b : Bool) → (a && b) ≡ true → (a ≡ true) × (b ≡ true)
    all_true true b e = (refl, e)
    all_true false b e = absurd cc

    apart : (b : Bool) → (suc q == w.0) ≡ b → free w.0 ≡ true → (suc q == w.0) ≡ false
    apart false e is = e
    apart true e is =
        let same : suc q ≡ w.0 = grind arith in
        let other : free (suc q) ≡ true = ap free same ∙ is in
        absurd cc
