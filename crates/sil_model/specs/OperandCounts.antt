-- The operands of a statement by their number.
use Rattle.std.specs.Prelude.{ℕ, ◌+◌, List, [], ◌∷◌, length, Option, Some, None, ℤ}
use Rattle.sil_model.specs.declared.program.Arg.{Arg}
use Rattle.sil_model.specs.declared.program.Arg.TheVariants.{Places, Gotos}

-- the operands, each item of a list by itself
abbrev pub item_count : Arg → ℕ
item_count (Places ats) = length ats
item_count (Gotos locations) = length locations
item_count _ = 1

abbrev pub operand_count : List Arg → ℕ
operand_count [] = 0
operand_count (arg ∷ args) = item_count arg + operand_count args

-- the items of a list that was found
abbrev pub listed : Option (List ℤ) → ℕ
listed None = 0
listed (Some ats) = length ats
