-- Lines that break a rule, and what stops at them.
use Rattle.std.specs.Prelude.{◌≡◌, ◌≢◌, ℕ, List, []}
use Rattle.sil_base.specs.declared.line.Fault.{Fault}
use Rattle.sil_base.specs.declared.fault_stop.FaultStop.{FaultStop}
use Rattle.sil_base.specs.declared.fault_stop.FaultStop.TheVariants as stop

-- a line of a file that breaks a rule
abbrev pub fault_at : ℕ → ℕ → ℕ → ℕ → Fault
fault_at file letter line rule = record { line = record { file = file; number = line }; code = record { letter = letter; rule = rule } }

-- a stop by faults is by those that there are; want of memory may come at any time
abbrev pub IsStopFor : List Fault → FaultStop → Type 0
IsStopFor faults (stop.Faults found) = (found ≡ faults) × (found ≢ [])
IsStopFor faults stop.Memory = Unit {0}
