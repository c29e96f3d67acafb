-- Calls that end a run, and prints that haven't begun.
use Rattle.std.proofs.Common.{◌≡◌, ◌≢◌, inl, ℕ, List, Bool, true, false, Option, Some, None, refl, sym, ap, ◌∙◌, if◌then◌else◌}
use Rattle.std.specs.Prelude.{◌&&◌, ◌==◌, nat_le, nat_lt, length}
use Rattle.sil_format.specs.declared.value.Value.{Value}
use Rattle.unit_io.specs.Numbered.{unit_at, with_unit}
use Rattle.unit_io.proofs.Places.{with_unit-same}
use Rattle.unit_io.specs.Tapes.{TapeState, Tapes}
use Rattle.unit_io.specs.Units.{AllUnits}
use Rattle.unit_io.specs.Calls.{OnUnit}
use Rattle.unit_calls.specs.Printing.{PrintsFirst}
use Rattle.image_file.specs.Image.{Image}
use Rattle.rv_emulate.specs.declared.end.CpuEnd.{CpuEnd}
use Rattle.rv_emulate.specs.declared.end.CpuEnd.TheVariants.{UnitFault}
use Rattle.rv_emulate.specs.declared.end.CpuEnd.TheVariants as ends
use Rattle.rv_emulate.specs.declared.end.CpuStep.TheVariants as steps
use Rattle.rv_emulate.specs.EmulatorStates.{State, register, statement_number}
use Rattle.rv_emulate.specs.Ecalls.{call, is_unit_call, unit_fault}
use Rattle.rv_emulate.specs.EmulatorSteps.{ecall}
use Rattle.rv_emulate.specs.CpuTurns.{IsTurn}
use Rattle.rv_emulate.specs.UnitAnswers.{CutOff}
use Rattle.rv_emulate.proofs.UnitLaws.{units_same}

-- a print that hasn't begun
pub nothing_printed : (text : List ℕ) (values : List Value) (n : ℕ) (before : Tapes) → CutOff text values n before before
nothing_printed text values n before = on (unit_at before n) refl
  where
    on : (o : Option (Option TapeState)) → unit_at before n ≡ o → OnUnit o (before ≡ before) (Unit {0}) (λ t. PrintsFirst text values n t before before)
    on None e = refl
    on (Some None) e = tt
    on (Some (Some t)) e = (0, sym (with_unit-same before n) ∙ ap (with_unit before n) e)

-- ---- calls that end the run

fault_by : (statement k n pc : ℕ) (failed : Option ℕ) → unit_fault statement failed pc ≡ UnitFault k n → failed ≡ Some n
fault_by statement k n pc None e = absurd cc
fault_by statement k n pc (Some unit) e = let same : unit ≡ n = cc in ap Some same

call_fault : (count a7 a0 statement k n pc : ℕ) (failed : Option ℕ) → call count a7 a0 statement failed pc ≡ UnitFault k n → failed ≡ Some n
call_fault count a7 a0 statement k n pc failed e = on ((a7 == 1) && nat_le statement count) (nat_lt a0 2) (a0 == 2) (a0 == 3) (a0 == 4) (a0 == 5) e
  where
    on : (x p q r s u : Bool) → (if x then (if p then ends.Exit a0 else if q then ends.Trap statement else if r then ends.Undefined statement else if s then ends.Budget else if u then unit_fault statement failed pc else ends.BadCall pc) else ends.BadCall pc) ≡ UnitFault k n → failed ≡ Some n
    on false p q r s u f = absurd cc
    on true true q r s u f = absurd cc
    on true false true r s u f = absurd cc
    on true false false true s u f = absurd cc
    on true false false false true u f = absurd cc
    on true false false false false true f = fault_by statement k n pc failed f
    on true false false false false false f = absurd cc

fault_or_bad : (statement pc : ℕ) (failed : Option ℕ) → unit_fault statement failed pc ≢ ends.Memory
fault_or_bad statement pc None e = cc
fault_or_bad statement pc (Some unit) e = cc

never_memory : (count a7 a0 statement pc : ℕ) (failed : Option ℕ) → call count a7 a0 statement failed pc ≢ ends.Memory
never_memory count a7 a0 statement pc failed = on ((a7 == 1) && nat_le statement count) (nat_lt a0 2) (a0 == 2) (a0 == 3) (a0 == 4) (a0 == 5)
  where
    on : (x p q r s u : Bool) → (if x then (if p then ends.Exit a0 else if q then ends.Trap statement else if r then ends.Undefined statement else if s then ends.Budget else if u then unit_fault statement failed pc else ends.BadCall pc) else ends.BadCall pc) ≢ ends.Memory
    on false p q r s u f = cc
    on true true q r s u f = cc
    on true false true r s u f = cc
    on true false false true s u f = cc
    on true false false false true u f = cc
    on true false false false false true f = fault_or_bad statement pc failed f
    on true false false false false false f = cc

-- a call that ends the run
pub ended_turn : (image : Image) (s : State) (d : CpuEnd) (us : AllUnits) → is_unit_call image.constants s.memory s.registers ≡ false → d ≡ call (length image.statements) (register s.registers 17) (register s.registers 10) (statement_number s) s.failed s.pc → IsTurn image.constants (ecall image s) (steps.Ended d) s s us us
ended_turn image s d us can is = record {
  makes = λ memory told. rw can (ap Some (sym is), refl, refl);
  units = units_same us;
  stays = refl;
  failed = λ n e. inl e;
  faults = λ k n e. let same : d ≡ UnitFault k n = cc in call_fault (length image.statements) (register s.registers 17) (register s.registers 10) (statement_number s) k n s.pc s.failed (sym is ∙ same);
  cut = λ e. let same : d ≡ ends.Memory = cc in absurd (never_memory (length image.statements) (register s.registers 17) (register s.registers 10) (statement_number s) s.pc s.failed (sym is ∙ same));
}
