-- Why files give no program.
use Rattle.std.specs.Prelude.{ℕ, Bool, true, false}
use Rattle.sil_base.specs.Causes.{Rose}
use Rattle.sil_base.specs.declared.loading.LoadStop.{LoadStop}
use Rattle.sil_base.specs.declared.loading.LoadStop.TheVariants as load
use Rattle.layout_params.specs.declared.stop.ParamStop.{ParamStop}
use Rattle.layout_params.specs.declared.stop.ParamStop.TheVariants as params
use Rattle.sil_arguments.specs.declared.stop.ProgramStop.{ProgramStop}
use Rattle.sil_arguments.specs.declared.stop.ProgramStop.TheVariants as program
use Rattle.sil_check.specs.declared.stop.CheckStop.{CheckStop}
use Rattle.sil_check.specs.declared.stop.CheckStop.TheVariants as stop

-- the stop where a file can't be loaded
abbrev pub stop_by_load : LoadStop → CheckStop
stop_by_load (load.Missing name) = stop.Missing name
stop_by_load (load.TooLong name) = stop.TooLong name
stop_by_load (load.Failed name) = stop.Failed name
stop_by_load load.Memory = stop.Memory

-- the stop where parameters aren't legal
abbrev pub stop_by_params : ParamStop → CheckStop
stop_by_params (params.Fault fault) = stop.Params fault
stop_by_params params.Memory = stop.Memory

-- the stop where cards have no program
abbrev pub stop_by_program : ProgramStop → CheckStop
stop_by_program (program.Faults faults) = stop.Faults faults
stop_by_program program.NotBuilt = stop.NotBuilt
stop_by_program program.Memory = stop.Memory

-- a stop that only a fault of the store or want of memory brings
abbrev pub is_free : CheckStop → Bool
is_free (stop.Missing name) = false
is_free (stop.TooLong name) = false
is_free (stop.Failed name) = true
is_free (stop.Params fault) = false
is_free (stop.Faults faults) = false
is_free stop.NotBuilt = false
is_free stop.Memory = true

-- a stop by a store fault comes only where the store's count rose
abbrev pub CheckCause : CheckStop → ℕ → ℕ → Type 0
CheckCause (stop.Missing name) before now = Unit {0}
CheckCause (stop.TooLong name) before now = Unit {0}
CheckCause (stop.Failed name) before now = Rose before now
CheckCause (stop.Params fault) before now = Unit {0}
CheckCause (stop.Faults faults) before now = Unit {0}
CheckCause stop.NotBuilt before now = Unit {0}
CheckCause stop.Memory before now = Unit {0}

-- a stop that comes after the loads
abbrev pub IsAfterLoads : CheckStop → Type 0
IsAfterLoads (stop.Missing name) = ⊥
IsAfterLoads (stop.TooLong name) = ⊥
IsAfterLoads (stop.Failed name) = ⊥
IsAfterLoads (stop.Params fault) = Unit {0}
IsAfterLoads (stop.Faults faults) = Unit {0}
IsAfterLoads stop.NotBuilt = Unit {0}
IsAfterLoads stop.Memory = Unit {0}

-- NotBuilt is answered only where this holds
abbrev pub OnNotBuilt : Type 0 → CheckStop → Type 0
OnNotBuilt P (stop.Missing name) = Unit {0}
OnNotBuilt P (stop.TooLong name) = Unit {0}
OnNotBuilt P (stop.Failed name) = Unit {0}
OnNotBuilt P (stop.Params fault) = Unit {0}
OnNotBuilt P (stop.Faults faults) = Unit {0}
OnNotBuilt P stop.NotBuilt = P
OnNotBuilt P stop.Memory = Unit {0}
