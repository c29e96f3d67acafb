-- The parts of a selection by number, and the symbols of the dynamic storage.
use Rattle.std.specs.Prelude.{ℕ, ◌+◌, List, [], ◌∷◌, Option, Some, ℤ, pos}
use Rattle.layout_params.specs.declared.cell.Field.TheVariants.{A}
use Rattle.sil_model.specs.declared.program.Specials.{Specials}
use Rattle.sil_model.specs.Access.{◌>>=◌}
use Rattle.sil_micro.specs.declared.op.Fixed.TheVariants.{Number}
use Rattle.sil_micro.specs.declared.op.Op.{Op}
use Rattle.sil_micro.specs.declared.op.Op.TheVariants.{Const, JumpIf, LoadField, Begin}
use Rattle.sil_micro.specs.declared.op.Target.TheVariants.{Statement}
use Rattle.sil_micro.specs.declared.op.Test.TheVariants.{Eq}
use Rattle.exp_common.specs.Locations.{lead}

-- the number goes to register 2
unfoldable pub selection_head : ℕ → ℤ → List Op
selection_head k d = Begin k ∷ Const 1 (Number d) ∷ LoadField A 2 1 ∷ []

-- for each location, counted from i on, a jump to where it leads, where that is its number
unfoldable pub choices_code : ℕ → ℕ → List (Option ℕ) → List Op
choices_code k i [] = []
choices_code k i (location ∷ locations) = Const 3 (Number (pos i)) ∷ JumpIf Eq 2 3 (Statement (lead k location)) ∷ choices_code k (i + 1) locations

-- FRSGPT, HDSGPT and TLSGP1
abbrev pub storage : Specials → Option (ℤ × ℤ × ℤ)
storage specials = do
  first ← specials.first
  head ← specials.head
  tail ← specials.tail
  Some (first, head, tail)
