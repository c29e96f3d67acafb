-- Where a run that is cut off stands.
use Rattle.std.proofs.Common.{◌≡◌, ℕ, map, Option, Some, sym, ap, subst, ◌∙◌}
use Rattle.std.specs.Prelude.{unwrap_or}
use Rattle.rv_isa.specs.declared.instr.Instr.TheVariants.{Ecall}
use Rattle.unit_io.specs.Tapes.{Tapes}
use Rattle.unit_io.specs.Units.{AllUnits, tapes_of}
use Rattle.image_file.specs.Image.{Image}
use Rattle.rv_emulate.specs.declared.code.Code.{Code}
use Rattle.rv_emulate.specs.declared.hart.Hart.{Hart}
use Rattle.rv_emulate.specs.declared.end.CpuEnd.{CpuEnd}
use Rattle.rv_emulate.specs.declared.end.CpuEnd.TheVariants.{Memory, Runaway}
use Rattle.rv_emulate.specs.declared.end.CpuStep.{CpuStep}
use Rattle.rv_emulate.specs.declared.end.CpuStep.TheVariants as steps
use Rattle.rv_emulate.specs.EmulatorStates.{State}
use Rattle.rv_emulate.specs.Cpus.{CpuState, IsOf, is_told, state}
use Rattle.rv_emulate.specs.CpuView.{instr_at, instr_of, state_of, view_of}
use Rattle.rv_emulate.specs.CpuTurns.{Cuts, IsCut, IsRun, IsStep}
use Rattle.rv_emulate.specs.CutRuns.{IsCutAt, IsCutWithin}
use Rattle.rv_emulate.proofs.Alike.{IsCodeOf, instr_of_word, run_alike}
use Rattle.rv_emulate.proofs.Standing.{alike, end_is_memory}

cut_at : (code : Code) (image : Image) (s : State) (after : Tapes) → IsCodeOf code image → instr_at (map instr_of code.flats.items) s.pc ≡ Some (Some Ecall) → IsCut code.constants.items s after → IsCutAt image s after
cut_at code image s after h at cut = record {
  at = sym (instr_of_word image.words s.pc) ∙ ap (λ xs. instr_at xs s.pc) (sym h.instrs) ∙ at;
  cut = subst (λ c. IsCut c s after) h.constants cut;
}

code_is : (image : Image) (code : Code) (u : Hart) (e : Option CpuEnd) (cpu : CpuState) → view_of code u e ≡ cpu → IsOf image cpu → IsCodeOf code image
code_is image code u e cpu is of = let P : CpuState → Type 0 = λ c. IsOf image c in alike image code u e (subst P (sym is) of)

-- a step that is cut off
pub step_cut : (image : Image) (code : Code) (u : Hart) (t : State) (e : Option CpuEnd) (d : CpuStep) (cpu : CpuState) (us vs : AllUnits) → view_of code u e ≡ cpu → IsOf image cpu → IsStep code d (state_of u (tapes_of us)) t us vs → d ≡ steps.Ended Memory → IsCutAt image (state cpu (tapes_of us)) t.tapes
step_cut image code u t e d cpu us vs is of h end =
    let P : CpuState → Type 0 = λ c. IsCutAt image (state c (tapes_of us)) t.tapes in
    subst P is (cut_at code image (state_of u (tapes_of us)) t.tapes (code_is image code u e cpu is of) (h.at end) (h.turn.cut end))

within : (code : Code) (image : Image) (n : ℕ) (old : State) (after : Tapes) → IsCodeOf code image → Cuts code n old after → IsCutWithin image n old after
within code image n old after h (k, lt, at) = (
  k,
  lt,
  λ told.
      let same = run_alike code image h k old in
      let there = at (ap is_told (sym same) ∙ told) in
      (there.0, same ∙ there.1.reached, cut_at code image there.0 after h there.1.at there.1.cut),
)

-- a run that is cut off
pub run_cut : (image : Image) (code : Code) (u : Hart) (t : State) (e r : Option CpuEnd) (d : CpuEnd) (n : ℕ) (cpu : CpuState) (us vs : AllUnits) → view_of code u e ≡ cpu → IsOf image cpu → IsRun code n r (state_of u (tapes_of us)) t us vs → d ≡ unwrap_or r Runaway → d ≡ Memory → IsCutWithin image n (state cpu (tapes_of us)) t.tapes
run_cut image code u t e r d n cpu us vs is of h so end =
    let P : CpuState → Type 0 = λ c. IsCutWithin image n (state c (tapes_of us)) t.tapes in
    subst P is (within code image n (state_of u (tapes_of us)) t.tapes (code_is image code u e cpu is of) (h.cut (end_is_memory r d so end)))
