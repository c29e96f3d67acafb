-- The places of the statements of an image.
use Rattle.std.specs.Prelude.{ℕ, map, slice_index_or}
use Rattle.image_file.specs.Image.{Image}

-- the place of statement k, and past the last statement the place after it
abbrev pub place : Image → ℕ → ℕ → ℕ
place image last k = slice_index_or (map (λ e. e.place) image.statements) k last
