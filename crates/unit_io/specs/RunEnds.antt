-- What a run comes to.
use Rattle.std.specs.Prelude.{ℕ, List, Option}
use Rattle.unit_io.specs.Tapes.{Tapes}

-- the end, the tapes then, and the numbers of the statements that were met, in order; there is no end where the run came to a call on a unit that doesn't tell its tape
pub record Run (End : Type 0) : Type 0 where
  pub end : Option End
  pub tapes : Tapes
  pub met : List ℕ
