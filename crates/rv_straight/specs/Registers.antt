-- The register file, and writes to it.
use Rattle.std.specs.Prelude.{◌≡◌, ℕ, zero, suc, ◌^◌, ◌<◌, List, [], ◌∷◌, length, Bool, true, false, ◌&&◌, ◌==◌, if◌then◌else◌}
use Rattle.rv_emulate.specs.EmulatorStates.{register, with_register}

-- 32 registers, each of 64 bits
pub record IsFile (xs : List ℕ) : Type 0 where
  pub size : length xs ≡ 32
  pub small : (q : ℕ) → register xs q < 2 ^ 64

-- all registers but those that are free are as they were
abbrev pub Keeps : (ℕ → Bool) → List ℕ → List ℕ → Type 0
Keeps free xs ys = (q : ℕ) → free q ≡ false → register ys q ≡ register xs q

-- writes to registers, each with its value, the latest first
abbrev pub Writes : Type 0
Writes = List (ℕ × ℕ)

abbrev pub written : List ℕ → Writes → List ℕ
written xs [] = xs
written xs (w ∷ ws) = with_register (written xs ws) w.0 w.1

-- a register after writes
abbrev pub read : List ℕ → Writes → ℕ → ℕ
read xs [] q = register xs q
read xs (w ∷ ws) zero = 0
read xs (w ∷ ws) (suc q) = if suc q == w.0 then w.1 else read xs ws (suc q)

-- all of these writes are of such registers
abbrev pub are : (ℕ → Bool) → Writes → Bool
are free [] = true
are free (w ∷ ws) = free w.0 && are free ws

-- what is known of registers after writes
pub record Knows (xs : List ℕ) (ws : Writes) : Type 0 where
  pub file : IsFile (written xs ws)
  pub reads : (q : ℕ) → register (written xs ws) q ≡ read xs ws q
