-- Legal parameters are those without a fault.
use Rattle.std.specs.Prelude.{◌≡◌, ℕ, List, None}
use Rattle.layout_params.specs.Parameters.{Parameters, AreLegal}
use Rattle.layout_params.specs.ParameterFaults.{value_fault}

-- legal values break no rule on values, whatever their lines are
abbrev pub LegalHaveNoFault : Type 0
LegalHaveNoFault = (line : List ℕ → ℕ) (p : Parameters) → AreLegal p → value_fault line p ≡ None

-- values that break no rule are legal
abbrev pub FaultlessAreLegal : Type 0
FaultlessAreLegal = (line : List ℕ → ℕ) (p : Parameters) → value_fault line p ≡ None → AreLegal p
