-- What commands run, and how those runs end.
use Rattle.std.specs.Prelude.{◌≡◌, Bool, true, false, ◌≤◌, Option, Some, None}
use Rattle.command_words.specs.CommandOrders.{CommandOrder, checks, installs, runs, traces, simulates, lists, goes, demos}
use Rattle.unit_io.specs.Tapes.{all_told}
use Rattle.unit_io.specs.Units.{AllUnits, tapes_of}
use Rattle.rv_emulate.specs.declared.end.CpuEnd.{CpuEnd}
use Rattle.rv_emulate.specs.declared.end.CpuEnd.TheVariants as run
use Rattle.image_runs.specs.ImageRuns.{FaultCause}

-- what a command runs: nothing; nothing, but it reads an image file; the abstract machine; an image that it has installed; one that it has installed, saved and loaded again; or an image file, whatever its bytes
pub data Engine : Type 0 where
  Idle : Engine
  Reader : Engine
  Machine : Engine
  OwnImage : Engine
  SavedImage : Engine
  AnyImage : Engine

abbrev pub engine_of : Option CommandOrder → Engine
engine_of None = Idle
engine_of (Some (checks names)) = Idle
engine_of (Some (installs names image)) = Idle
engine_of (Some (runs image n)) = AnyImage
engine_of (Some (traces image n)) = AnyImage
engine_of (Some (simulates names n)) = Machine
engine_of (Some (lists image)) = Reader
engine_of (Some (goes names image n)) = SavedImage
engine_of (Some (demos cards seed)) = OwnImage

-- the ends that runs of installed programs have over units that all tell their tapes; memory may be wanted
abbrev pub IsProgramEnd : CpuEnd → Type 0
IsProgramEnd (run.Exit code) = code ≤ 1
IsProgramEnd (run.Trap statement) = Unit {0}
IsProgramEnd (run.Undefined statement) = Unit {0}
IsProgramEnd run.Budget = Unit {0}
IsProgramEnd (run.UnitFault statement unit) = Unit {0}
IsProgramEnd (run.Illegal pc) = ⊥
IsProgramEnd (run.Fetch pc) = ⊥
IsProgramEnd (run.Load pc) = ⊥
IsProgramEnd (run.Store pc) = ⊥
IsProgramEnd (run.BadCall pc) = ⊥
IsProgramEnd run.Runaway = ⊥
IsProgramEnd run.Memory = Unit {0}

-- those of the abstract machine, whatever its units tell
abbrev pub IsMachineEnd : CpuEnd → Type 0
IsMachineEnd (run.Exit code) = Unit {0}
IsMachineEnd (run.Trap statement) = Unit {0}
IsMachineEnd (run.Undefined statement) = Unit {0}
IsMachineEnd run.Budget = Unit {0}
IsMachineEnd (run.UnitFault statement unit) = Unit {0}
IsMachineEnd (run.Illegal pc) = ⊥
IsMachineEnd (run.Fetch pc) = ⊥
IsMachineEnd (run.Load pc) = ⊥
IsMachineEnd (run.Store pc) = ⊥
IsMachineEnd (run.BadCall pc) = ⊥
IsMachineEnd run.Runaway = ⊥
IsMachineEnd run.Memory = Unit {0}

-- the ends that an engine has, by whether the store tells its files and all units tell their tapes: a store that tells nothing may give other bytes than were saved
abbrev pub RunCause : Engine → CpuEnd → Bool → Bool → Type 0
RunCause Idle end stored told = ⊥
RunCause Reader end stored told = ⊥
RunCause Machine end stored told = IsMachineEnd end
RunCause OwnImage end stored told = told ≡ true → IsProgramEnd end
RunCause SavedImage end stored told = stored ≡ true → told ≡ true → IsProgramEnd end
RunCause AnyImage end stored told = Unit {0}

-- what brings the end of a run: an end that the engine has; and a unit that failed has counted it
pub record RanSo (engine : Engine) (end : CpuEnd) (stored : Bool) (units units' : AllUnits) : Type 0 where
  pub ends : RunCause engine end stored (all_told (tapes_of units))
  pub faults : FaultCause end units units'

-- an image is refused by commands alone that take any, or that load one from a store that tells nothing
abbrev pub MayRefuse : Engine → Bool → Type 0
MayRefuse Idle stored = ⊥
MayRefuse Reader stored = Unit {0}
MayRefuse Machine stored = ⊥
MayRefuse OwnImage stored = ⊥
MayRefuse SavedImage stored = stored ≡ false
MayRefuse AnyImage stored = Unit {0}
