-- Why parameters aren't read.
use Rattle.std.specs.Prelude.{◌≡◌, Option, Some}
use Rattle.sil_base.specs.declared.line.Fault.{Fault}
use Rattle.layout_params.specs.declared.stop.ParamStop.{ParamStop}
use Rattle.layout_params.specs.declared.stop.ParamStop.TheVariants as stop

-- a stop by a fault is by the fault that there is; want of memory may come at any time
abbrev pub IsStopFor : Option Fault → ParamStop → Type 0
IsStopFor found (stop.Fault f) = found ≡ Some f
IsStopFor found stop.Memory = Unit {0}
