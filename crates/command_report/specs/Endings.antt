-- The status and the lines of each ending.
use Rattle.std.specs.Prelude.{ℕ, List, [], ◌∷◌, ◌++◌, Bool, true, false, ◌==◌, nat_lt, if◌then◌else◌, codes, decimal}
use Rattle.std.specs.List.{flat_map}
use Rattle.sil_base.specs.declared.line.Fault.{Fault}
use Rattle.sil_base.specs.declared.loading.LoadStop.{LoadStop}
use Rattle.sil_base.specs.declared.loading.LoadStop.TheVariants as load
use Rattle.std.specs.declared.result.Result.{Result}
use Rattle.std.specs.declared.result.Result.TheVariants.{Ok, Err}
use Rattle.sil_check.specs.declared.stop.CheckStop.{CheckStop}
use Rattle.sil_check.specs.declared.stop.CheckStop.TheVariants as check
use Rattle.image_file.specs.declared.stop.ImageStop.{ImageStop}
use Rattle.image_file.specs.declared.stop.ImageStop.TheVariants as image
use Rattle.rv_emulate.specs.declared.end.CpuEnd.{CpuEnd}
use Rattle.rv_emulate.specs.declared.end.CpuEnd.TheVariants as run
use Rattle.command_report.specs.declared.ending.Stop.{Stop}
use Rattle.command_report.specs.declared.ending.Stop.TheVariants as stop
use Rattle.command_report.specs.declared.ending.Ending.{Ending}
use Rattle.command_report.specs.declared.ending.Ending.TheVariants as ending

-- ---- statuses

abbrev pub run_status : CpuEnd → ℕ
run_status (run.Exit code) = if code == 0 then 0 else 1
run_status (run.Trap statement) = 6
run_status (run.Undefined statement) = 7
run_status run.Budget = 8
run_status (run.UnitFault statement unit) = 11
run_status (run.Illegal pc) = 9
run_status (run.Fetch pc) = 9
run_status (run.Load pc) = 9
run_status (run.Store pc) = 9
run_status (run.BadCall pc) = 9
run_status run.Runaway = 9
run_status run.Memory = 12

abbrev pub stop_status : Stop → ℕ
stop_status (stop.Missing name) = 13
stop_status (stop.TooLong name) = 15
stop_status (stop.StoreFault name) = 10
stop_status (stop.Parameters fault) = 4
stop_status (stop.Faults faults) = 3
stop_status stop.NotBuilt = 16
stop_status (stop.ImageRefused part) = 5
stop_status stop.Memory = 12

abbrev pub status_of : Ending → ℕ
status_of ending.Words = 2
status_of (ending.Stopped stop) = stop_status stop
status_of (ending.Checked statements cells) = 0
status_of (ending.Installed bytes) = 0
status_of ending.Listed = 0
status_of (ending.Ran end) = run_status end

-- a run came to an end
abbrev pub has_run : Ending → Bool
has_run ending.Words = false
has_run (ending.Stopped stop) = false
has_run (ending.Checked statements cells) = false
has_run (ending.Installed bytes) = false
has_run ending.Listed = false
has_run (ending.Ran end) = true

-- a status after finishes, of which so many failed
abbrev pub finish_status : ℕ → ℕ → ℕ
finish_status status failed = if failed == 0 then status else (if nat_lt status 10 then 11 else status)

-- ---- lines

-- a line of a word and a number
abbrev pub numbered_line : List ℕ → ℕ → List ℕ
numbered_line word number = word ++ decimal number ++ codes "\n"

-- a line of a word and a name
abbrev pub named_line : List ℕ → List ℕ → List ℕ
named_line word name = word ++ name ++ codes "\n"

-- the name of a file that is checked: the source, the tables or the parameters
abbrev pub checked_file : ℕ → List ℕ
checked_file file = if file == 0 then codes "source " else (if file == 1 then codes "tables " else codes "params ")

-- a line that breaks a rule, as `source 12 C3`
abbrev pub fault_line : Fault → List ℕ
fault_line fault = checked_file fault.line.file ++ decimal fault.line.number ++ codes " " ++ fault.code.letter ∷ decimal fault.code.rule ++ codes "\n"

abbrev pub fault_lines : List Fault → List ℕ
fault_lines faults = flat_map fault_line faults

abbrev pub run_line : CpuEnd → List ℕ
run_line (run.Exit code) = numbered_line (codes "exit ") code
run_line (run.Trap statement) = numbered_line (codes "trap ") statement
run_line (run.Undefined statement) = numbered_line (codes "undefined ") statement
run_line run.Budget = codes "budget\n"
run_line (run.UnitFault statement unit) = codes "unit fault " ++ decimal statement ++ codes " " ++ decimal unit ++ codes "\n"
run_line (run.Illegal pc) = numbered_line (codes "machine fault illegal ") pc
run_line (run.Fetch pc) = numbered_line (codes "machine fault fetch ") pc
run_line (run.Load pc) = numbered_line (codes "machine fault load ") pc
run_line (run.Store pc) = numbered_line (codes "machine fault store ") pc
run_line (run.BadCall pc) = numbered_line (codes "machine fault call ") pc
run_line run.Runaway = codes "machine fault runaway\n"
run_line run.Memory = codes "memory\n"

abbrev pub stop_line : Stop → List ℕ
stop_line (stop.Missing name) = named_line (codes "missing ") name
stop_line (stop.TooLong name) = named_line (codes "too long ") name
stop_line (stop.StoreFault name) = named_line (codes "store fault ") name
stop_line (stop.Parameters fault) = fault_line fault
stop_line (stop.Faults faults) = fault_lines faults
stop_line stop.NotBuilt = codes "not built\n"
stop_line (stop.ImageRefused part) = numbered_line (codes "image refused I") part
stop_line stop.Memory = codes "memory\n"

-- what was checked: the statements and all cells, the hidden buffer, the dynamic storage and the stack among them
abbrev pub checked_line : ℕ → ℕ → List ℕ
checked_line statements cells = codes "checked " ++ decimal statements ++ codes " statements " ++ decimal cells ++ codes " cells\n"

-- the bytes of the image that was installed
abbrev pub installed_line : ℕ → List ℕ
installed_line bytes = codes "installed " ++ decimal bytes ++ codes " bytes\n"

-- a demo of so many statements, and the bytes of its image
abbrev pub demo_line : ℕ → ℕ → List ℕ
demo_line statements bytes = codes "demo " ++ decimal statements ++ codes " statements " ++ decimal bytes ++ codes " bytes\n"

-- the line of an ending; a list has none of its own
abbrev pub line_of : Ending → List ℕ
line_of ending.Words = codes "words\n"
line_of (ending.Stopped stop) = stop_line stop
line_of (ending.Checked statements cells) = checked_line statements cells
line_of (ending.Installed bytes) = installed_line bytes
line_of ending.Listed = []
line_of (ending.Ran end) = run_line end

-- ---- how endings come

abbrev pub ending_of : Result Ending Stop → Ending
ending_of (Ok end) = end
ending_of (Err stop) = ending.Stopped stop

-- the stop where a file can't be loaded
abbrev pub unloaded_by : LoadStop → Stop
unloaded_by (load.Missing name) = stop.Missing name
unloaded_by (load.TooLong name) = stop.TooLong name
unloaded_by (load.Failed name) = stop.StoreFault name
unloaded_by load.Memory = stop.Memory

-- the stop where files give no program
abbrev pub stop_by : CheckStop → Stop
stop_by (check.Missing name) = stop.Missing name
stop_by (check.TooLong name) = stop.TooLong name
stop_by (check.Failed name) = stop.StoreFault name
stop_by (check.Params fault) = stop.Parameters fault
stop_by (check.Faults faults) = stop.Faults faults
stop_by check.NotBuilt = stop.NotBuilt
stop_by check.Memory = stop.Memory

-- the stop where bytes are no image, or memory ran out as they were read
abbrev pub refused_by : ImageStop → Stop
refused_by (image.Part part) = stop.ImageRefused part
refused_by image.Memory = stop.Memory

-- a stop that only a fault of the store or want of memory brings
abbrev pub is_free : Stop → Bool
is_free (stop.Missing name) = false
is_free (stop.TooLong name) = false
is_free (stop.StoreFault name) = true
is_free (stop.Parameters fault) = false
is_free (stop.Faults faults) = false
is_free stop.NotBuilt = false
is_free (stop.ImageRefused part) = false
is_free stop.Memory = true

-- an end that only want of memory brings
abbrev pub is_free_run : CpuEnd → Bool
is_free_run run.Memory = true
is_free_run (run.Exit code) = false
is_free_run (run.Trap statement) = false
is_free_run (run.Undefined statement) = false
is_free_run run.Budget = false
is_free_run (run.UnitFault statement unit) = false
is_free_run (run.Illegal pc) = false
is_free_run (run.Fetch pc) = false
is_free_run (run.Load pc) = false
is_free_run (run.Store pc) = false
is_free_run (run.BadCall pc) = false
is_free_run run.Runaway = false

abbrev pub is_free_end : Ending → Bool
is_free_end ending.Words = false
is_free_end (ending.Stopped stop) = is_free stop
is_free_end (ending.Checked statements cells) = false
is_free_end (ending.Installed bytes) = false
is_free_end ending.Listed = false
is_free_end (ending.Ran end) = is_free_run end
