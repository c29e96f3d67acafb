-- Reads into four characters, one after another.
use Rattle.std.specs.Prelude.{ℕ, zero, suc, List, [], ◌∷◌, ◌++◌, replicate, Option, Some, None, ℤ, pos, codes}
use Rattle.sil_base.specs.declared.places.TheConstants.{FIRST_CELL}
use Rattle.unit_io.specs.Tapes.{TapeState, no_tapes, with_tape}
use Rattle.layout_params.specs.declared.cell.Cell.TheVariants.{Chars}
use Rattle.sil_model.specs.States.{State}
use Rattle.sil_micro.specs.declared.op.Op.{Op}
use Rattle.sil_micro.specs.declared.op.Op.TheVariants.{UnitCall}
use Rattle.sil_micro.specs.declared.op.Text.TheVariants as text
use Rattle.sil_micro.specs.declared.op.Values.TheVariants as values
use Rattle.sil_micro.specs.MicroStates.{Setting, Micro, first_micro, no_registers}
use Rattle.sil_micro.specs.Operations.{Effect, On, act}
use Rattle.sil_micro.specs.UnitCalls.{chars_of}

-- a tape of `AB` and `ABCDE`, whose third call fails
abbrev pub two_records : TapeState
two_records = record { records = codes "AB" ∷ codes "ABCDE" ∷ []; place = 0; calls = 0; fails = 3 ∷ [] }

-- a record of a number that is no byte, whose lowest eight bits are those of `A`
abbrev pub wide_record : TapeState
wide_record = record { records = (321 ∷ []) ∷ []; place = 0; calls = 0; fails = [] }

-- a cell of characters, the first of which are `wxyz`, and unit 5 with this tape
abbrev pub before_reads : TapeState → State
before_reads t = record {
  statement = 0;
  memory = record { limits = record { cell_size = 16; flag_limit = 255; value_limit = 65535 }; cells = Chars (codes "wxyz" ++ replicate 60 0) ∷ [] };
  tables = [];
  current = pos 0;
  previous = pos 0;
  steps = 0;
  tapes = with_tape no_tapes 5 t;
}

-- register 1 says the unit, 2 the address, and 3 that there are four characters
abbrev pub reading : TapeState → Micro
reading t = record (first_micro (before_reads t)) { registers = record no_registers { r1 = pos 5; r2 = pos FIRST_CELL; r3 = pos 4 } }

-- a read whose answer goes to register 4
abbrev pub read_op : Op
read_op = UnitCall 2 1 4 (text.Chars 2 3) values.None

abbrev pub go_on : Setting → Effect → Effect
go_on g (On u) = act g read_op u
go_on g e = e

-- so many of them
abbrev pub reads : Setting → ℕ → TapeState → Effect
reads g zero t = On (reading t)
reads g (suc n) t = go_on g (reads g n t)

-- the answer, the unit where it failed, and the characters
abbrev pub left : Effect → Option (ℤ × Option ℕ × List ℕ)
left (On u) = Some (u.registers.r4, u.failed, chars_of u 2 3)
left e = None
