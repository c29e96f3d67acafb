-- Small codes.
use Rattle.std.specs.Prelude.{[], ◌∷◌, Some, None}
use Rattle.sil_micro.specs.declared.op.Op.TheVariants.{Begin, End, Jump}
use Rattle.sil_micro.specs.declared.op.Target.TheVariants.{Op, Statement}
use Rattle.sil_micro.specs.Codes.{MicroCode}

-- its one statement is begun twice
abbrev pub begun_twice : MicroCode
begun_twice = record { ops = Begin 0 ∷ Begin 0 ∷ []; entries = Some 0 ∷ []; returns = None ∷ []; static_cells = 0; formats = [] }

-- two operations, of which one goes to the operation of number 3
abbrev pub jumping_out : MicroCode
jumping_out = record { ops = Begin 0 ∷ Jump (Op 3) ∷ []; entries = Some 0 ∷ []; returns = None ∷ []; static_cells = 0; formats = [] }

-- the first statement goes to the second, which ends
abbrev pub two_statements : MicroCode
two_statements = record { ops = Begin 0 ∷ Jump (Statement 1) ∷ Begin 1 ∷ End 0 ∷ []; entries = Some 0 ∷ Some 2 ∷ []; returns = None ∷ None ∷ []; static_cells = 0; formats = [] }
