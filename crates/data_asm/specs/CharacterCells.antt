-- Characters in cells.
use Rattle.std.specs.Prelude.{ℕ, ◌-◌, zero, suc, List, [], ◌∷◌, ◌++◌, length, take, drop, replicate}
use Rattle.std.specs.Int.{div_ceil}
use Rattle.layout_params.specs.declared.cell.Cell.{Cell}
use Rattle.layout_params.specs.declared.cell.Cell.TheVariants.{Chars}

-- a cell of these characters, and zero bytes after them
abbrev pub characters : List ℕ → Cell
characters text = Chars (text ++ replicate (64 - length text) 0)

-- so many cells of so many characters each
abbrev pub cells_of_text : ℕ → ℕ → List ℕ → List Cell
cells_of_text size zero text = []
cells_of_text size (suc n) text = characters (take size text) ∷ cells_of_text size n (drop size text)

-- a text in as many cells as it needs
abbrev pub text_cells : ℕ → List ℕ → List Cell
text_cells size text = cells_of_text size (div_ceil (length text) size) text

-- so many characters, all blanks, in as many cells as they need
abbrev pub blank_cells : ℕ → ℕ → List Cell
blank_cells size n = replicate (div_ceil n size) (characters (replicate size 32))
