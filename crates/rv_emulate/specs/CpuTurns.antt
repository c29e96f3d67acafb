-- What turns of a run do, and what they leave of the units.
use Rattle.std.specs.Prelude.{◌≡◌, ◌≢◌, ◌⊎◌, ◌<◌, ℕ, true, List, [], map, Option, Some, None}
use Rattle.rv_isa.specs.declared.instr.Instr.{Instr}
use Rattle.rv_isa.specs.declared.instr.Instr.TheVariants.{Ecall}
use Rattle.unit_io.specs.Numbered.{unit_at}
use Rattle.unit_io.specs.Tapes.{Tapes}
use Rattle.unit_io.specs.Units.{AllUnits, KeepsCounts, RoseAt}
use Rattle.image_file.specs.Image.{Image}
use Rattle.rv_emulate.specs.declared.code.Code.{Code}
use Rattle.rv_emulate.specs.declared.end.CpuEnd.{CpuEnd}
use Rattle.rv_emulate.specs.declared.end.CpuEnd.TheVariants.{UnitFault, Memory}
use Rattle.rv_emulate.specs.declared.end.CpuStep.{CpuStep}
use Rattle.rv_emulate.specs.declared.end.CpuStep.TheVariants as steps
use Rattle.rv_emulate.specs.EmulatorStates.{State, Outcome, On, register}
use Rattle.rv_emulate.specs.EmulatorSteps.{ecall, unit_of, with_instr}
use Rattle.rv_emulate.specs.Ecalls.{is_unit_call}
use Rattle.rv_emulate.specs.UnitAnswers.{CutOff, text_of, values_of}
use Rattle.rv_emulate.specs.Cpus.{IfEnded, is_told}
use Rattle.rv_emulate.specs.CpuView.{Steps, Runs, code_run, code_step, instr_at, instr_of}

-- no count of faults falls, and no unit comes
pub record KeepsUnits (before after : AllUnits) : Type 0 where
  pub counts : KeepsCounts before after
  pub absent : (n : ℕ) → unit_at before n ≡ None → unit_at after n ≡ None

-- the unit failed before, or its count of faults rose
abbrev pub FailedOrRose : ℕ → State → AllUnits → AllUnits → Type 0
FailedOrRose n old before after = (old.failed ≡ Some n) ⊎ RoseAt n before after

abbrev pub without_tapes : State → State
without_tapes s = record s { tapes = [] }

-- a print at this state is cut off for want of memory, and leaves these tapes
pub record IsCut (constants : List ℕ) (s : State) (after : Tapes) : Type 0 where
  pub call : register s.registers 17 ≡ 3
  pub can : is_unit_call constants s.memory s.registers ≡ true
  pub left : CutOff (text_of constants s.memory s.registers) (values_of constants s.memory s.registers) (unit_of s) s.tapes after

-- a turn makes the step of the definition, unless there was no memory or the unit that it calls doesn't tell its tape. Where it ends the run, the state is what it was
pub record IsTurn (constants : List ℕ) (o : Outcome) (step : CpuStep) (old new : State) (before after : AllUnits) : Type 0 where
  pub makes : step ≢ steps.Ended Memory → is_told o ≡ true → Steps o step old new
  pub units : KeepsUnits before after
  pub stays : IfEnded step (λ e. without_tapes new ≡ without_tapes old)
  pub failed : (n : ℕ) → new.failed ≡ Some n → FailedOrRose n old before after
  pub faults : (k n : ℕ) → step ≡ steps.Ended (UnitFault k n) → old.failed ≡ Some n
  pub cut : step ≡ steps.Ended Memory → IsCut constants old new.tapes

-- a turn at an instruction: one that is no call leaves the units alone
abbrev pub Acts : Image → Option Instr → CpuStep → State → State → AllUnits → AllUnits → Type 0
Acts image (Some Ecall) step old new before after = IsTurn image.constants (ecall image old) step old new before after
Acts image o step old new before after = Steps (with_instr image o old) step old new × (after ≡ before)

-- a turn at the place of a code
pub record IsStep (code : Code) (step : CpuStep) (old new : State) (before after : AllUnits) : Type 0 where
  pub turn : IsTurn code.constants.items (code_step code old) step old new before after
  pub at : step ≡ steps.Ended Memory → instr_at (map instr_of code.flats.items) old.pc ≡ Some (Some Ecall)

-- the state that is reached in k steps, where the units tell so far, calls a print there that is cut off
pub record CutsAt (code : Code) (k : ℕ) (old : State) (after : Tapes) (s : State) : Type 0 where
  pub reached : code_run code k old ≡ On s
  pub at : instr_at (map instr_of code.flats.items) s.pc ≡ Some (Some Ecall)
  pub cut : IsCut code.constants.items s after

abbrev pub Cuts : Code → ℕ → State → Tapes → Type 0
Cuts code n old after = (k : ℕ) × (k < n) × (is_told (code_run code k old) ≡ true → (s : State) × CutsAt code k old after s)

-- at most n turns one after another make the run of the definition
pub record IsRun (code : Code) (n : ℕ) (end : Option CpuEnd) (old new : State) (before after : AllUnits) : Type 0 where
  pub makes : end ≢ Some Memory → is_told (code_run code n old) ≡ true → Runs (code_run code n old) end new
  pub units : KeepsUnits before after
  pub failed : (unit : ℕ) → new.failed ≡ Some unit → FailedOrRose unit old before after
  pub faults : (k unit : ℕ) → end ≡ Some (UnitFault k unit) → FailedOrRose unit old before after
  pub cut : end ≡ Some Memory → Cuts code n old new.tapes
