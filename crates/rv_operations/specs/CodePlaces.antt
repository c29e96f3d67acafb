-- Where operations, statements and routines stand.
use Rattle.std.specs.Prelude.{ℕ, Option}
use Rattle.rv_operations.specs.declared.places.Routines.{Routines}
use Rattle.sil_micro.specs.declared.op.Target.{Target}
use Rattle.sil_micro.specs.declared.op.Target.TheVariants.{Op, Statement}

-- the place of the operation of a number, that of a statement's first operation and, where it has one, of its return part, and the routines
pub record Places : Type 0 where
  pub op : ℕ → ℕ
  pub statement : ℕ → ℕ
  pub returns : ℕ → Option ℕ
  pub routines : Routines

abbrev pub target_place : Places → Target → ℕ
target_place places (Op q) = places.op q
target_place places (Statement k) = places.statement k
