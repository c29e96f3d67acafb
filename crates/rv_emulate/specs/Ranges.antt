-- Numbers that rise.
use Rattle.std.specs.Prelude.{ℕ, ◌<◌, List, length, slice_index}

-- numbers that rise strictly
abbrev pub Rises : List ℕ → Type 0
Rises xs = (i j : ℕ) → i < j → j < length xs → slice_index xs i < slice_index xs j
