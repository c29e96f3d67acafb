-- The operands of calls.
use Rattle.std.specs.Prelude.{◌≡◌, ℕ, List, Option, Some, ℤ}
use Rattle.sil_model.specs.declared.program.Arg.{Arg}
use Rattle.sil_model.specs.declared.program.Flow.TheVariants.{To}
use Rattle.sil_model.specs.Arguments.{goto_at, gotos_at, maybe_place_at, maybe_places_at}

-- the place of the call's descriptor, the statement where the procedure begins, the places of the arguments and the locations to return to
pub record IsCall (args : List Arg) (descriptor : Option ℤ) (procedure : ℕ) (places : List ℤ) (locations : List (Option ℕ)) : Type 0 where
  pub descriptor_is : maybe_place_at args 0 ≡ Some descriptor
  pub procedure_is : goto_at args 1 ≡ Some (To procedure)
  pub places_are : maybe_places_at args 2 ≡ Some places
  pub locations_are : gotos_at args 3 ≡ Some locations
