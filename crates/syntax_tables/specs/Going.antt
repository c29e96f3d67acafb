-- What the code has read so far, against the reading.
use Rattle.std.specs.Prelude.{◌≡◌, ℕ, List, [], ◌∷◌, ◌++◌}
use Rattle.std.specs.declared.result.Result.TheVariants.{Ok, Err}
use Rattle.sil_base.specs.declared.fault_stop.FaultStop.{FaultStop}
use Rattle.sil_base.specs.declared.fault_stop.FaultStop.TheVariants as stop
use Rattle.syntax_tables.specs.TableFiles.{Reading, reading, table_fault}
use Rattle.syntax_tables.specs.declared.saying.Said.{Said}
use Rattle.syntax_tables.specs.declared.reading.Reader.{Reader}

-- the lines that were read come first
abbrev pub after_lines : List Said → Reading → Reading
after_lines lines (Ok more) = Ok (lines ++ more)
after_lines lines (Err e) = Err e

-- what is written, where these lines are still to be read
abbrev pub going_on : Reader → List (List ℕ) → Reading
going_on r lines = after_lines r.lines.items (reading r.place r.number lines)

-- the stop at a line that breaks a rule, but for want of memory
abbrev pub Breaks : ℕ → ℕ → FaultStop → Type 0
Breaks number rule (stop.Faults faults) = faults ≡ table_fault number rule ∷ []
Breaks number rule stop.Memory = Unit {0}
