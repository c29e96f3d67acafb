-- What the code's values stand for.
use Rattle.std.specs.Prelude.{◌≡◌, ℕ, zero, suc, ◌-◌, ◌/◌, ◌%◌, Bool, true, false, ◌&&◌, ◌==◌, nat_le, List, [], map, Option, Some, None, if◌then◌else◌, slice_get}
use Rattle.layout_params.specs.Parameters.{standard}
use Rattle.sil_macros.specs.declared.names.Macro.TheVariants.{Endex}
use Rattle.rv_isa.specs.declared.instr.Instr.{Instr}
use Rattle.sil_base.specs.declared.places.TheConstants.{FIRST_WORD}
use Rattle.unit_io.specs.Tapes.{Tapes}
use Rattle.image_file.specs.Image.{Image, StatementEntry}
use Rattle.rv_emulate.specs.declared.code.Code.{Code}
use Rattle.rv_emulate.specs.declared.memory.Regions.{Regions}
use Rattle.rv_emulate.specs.declared.flat.Flat.{Flat}
use Rattle.rv_emulate.specs.declared.storage.Storage.{Storage}
use Rattle.rv_emulate.specs.declared.hart.Hart.{Hart}
use Rattle.rv_emulate.specs.declared.end.CpuEnd.{CpuEnd}
use Rattle.rv_emulate.specs.declared.end.CpuEnd.TheVariants.{Fetch}
use Rattle.rv_emulate.specs.declared.end.CpuStep.{CpuStep}
use Rattle.rv_emulate.specs.declared.end.CpuStep.TheVariants as steps
use Rattle.rv_emulate.specs.EmulatorMemory.{Memory}
use Rattle.rv_emulate.specs.FlatInstrs.{instr_by}
use Rattle.rv_emulate.specs.Cpus.{CpuState}
use Rattle.rv_emulate.specs.EmulatorStates.{State, Outcome, On, Ended}
use Rattle.rv_emulate.specs.EmulatorSteps.{ends_with, with_instr}
use Rattle.rv_emulate.specs.EmulatorRuns.{on_state}

abbrev pub memory_of : Regions → Memory
memory_of m = record { cells = m.cells.items; kinds = m.kinds.items; tables = m.tables.items; scratch = m.scratch.items }

-- the instruction that a flat one stands for, none where it is that of a word that is no instruction
abbrev pub instr_of : Flat → Option Instr
instr_of f = instr_by f.what f.rd f.rs1 f.rs2 f.imm

-- the state at a place, with these tapes
abbrev pub state_at : ℕ → Storage → Tapes → State
state_at pc s tapes = record { pc = pc; registers = s.registers; memory = memory_of s.memory; tapes = tapes; failed = s.failed }

abbrev pub state_of : Hart → Tapes → State
state_of h tapes = state_at h.pc h.storage tapes

-- what contracts see of a Cpu
abbrev pub view_of : Code → Hart → Option CpuEnd → CpuState
view_of c h ended = record {
  code = map instr_of c.flats.items;
  constants = c.constants.items;
  places = c.places.items;
  pc = h.pc;
  registers = h.storage.registers;
  memory = memory_of h.storage.memory;
  failed = h.storage.failed;
  ended = ended;
}

abbrev pub entry_of : ℕ → StatementEntry
entry_of place = record { place = place; card = 0; name = Endex }

-- an image with these constants and places
abbrev pub image_of : Code → Image
image_of c = record {
  settings = standard.settings;
  statements = map entry_of c.places.items;
  words = [];
  constants = c.constants.items;
  cells = [];
  kinds = [];
  tables = [];
}

-- the instruction at a place of the code: none outside it, and none where the word there is no instruction
abbrev pub instr_at : List (Option Instr) → ℕ → Option (Option Instr)
instr_at instrs pc = if (pc % 4 == 0) && nat_le FIRST_WORD pc then slice_get instrs ((pc - FIRST_WORD) / 4) else None

abbrev pub with_fetched : Image → Option (Option Instr) → State → Outcome
with_fetched image None s = ends_with (Fetch s.pc) s
with_fetched image (Some o) s = with_instr image o s

-- a step, by the instructions of the words
unfoldable pub code_step : Code → State → Outcome
code_step c s = with_fetched (image_of c) (instr_at (map instr_of c.flats.items) s.pc) s

-- n steps, or fewer to the end
unfoldable pub code_run : Code → ℕ → State → Outcome
code_run c zero s = On s
code_run c (suc n) s = on_state (code_step c s) (code_run c n)

-- what a store leaves: the new value where it can be done, else the old one
abbrev pub Puts : {X : Type 0} → Bool → Option X → X → X → Type 0
Puts true o old new = o ≡ Some new
Puts false o old new = (o ≡ None) × (new ≡ old)

-- the step is made, or the run ends and nothing changes
abbrev pub Steps : Outcome → CpuStep → State → State → Type 0
Steps (On t) steps.Next old new = t ≡ new
Steps (Ended e tapes) (steps.Ended d) old new = (e ≡ Some d) × (tapes ≡ new.tapes) × (new ≡ old)
Steps _ _ old new = ⊥

-- the run has ended so, or has come to this state
abbrev pub Runs : Outcome → Option CpuEnd → State → Type 0
Runs (On t) None new = t ≡ new
Runs (Ended e tapes) (Some d) new = (e ≡ Some d) × (tapes ≡ new.tapes)
Runs _ _ new = ⊥
