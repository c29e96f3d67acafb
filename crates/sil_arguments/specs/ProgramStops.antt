-- Stops of the crates below.
use Rattle.sil_base.specs.declared.fault_stop.FaultStop.{FaultStop}
use Rattle.sil_base.specs.declared.fault_stop.FaultStop.TheVariants as below
use Rattle.sil_arguments.specs.declared.stop.ProgramStop.{ProgramStop}
use Rattle.sil_arguments.specs.declared.stop.ProgramStop.TheVariants as stop

-- a stop of the crates below
abbrev pub stop_below : FaultStop → ProgramStop
stop_below (below.Faults faults) = stop.Faults faults
stop_below below.Memory = stop.Memory
