-- The operands of an output.
use Rattle.std.specs.Prelude.{◌≡◌, ℕ, List, Some, ℤ}
use Rattle.sil_model.specs.declared.program.Arg.{Arg}
use Rattle.sil_model.specs.Arguments.{format_at, maybe_places_at, place_at}

-- the place of the descriptor that names the unit, the text of the format, and the places of the items
pub record IsOutput (args : List Arg) (d : ℤ) (text : List ℕ) (places : List ℤ) : Type 0 where
  pub unit_is : place_at args 0 ≡ Some d
  pub format_is : format_at args 1 ≡ Some text
  pub places_are : maybe_places_at args 2 ≡ Some places
