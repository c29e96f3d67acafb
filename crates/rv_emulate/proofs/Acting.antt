-- An instruction that is no call leaves the units alone.
use Rattle.std.proofs.Common.{◌≡◌, ◌≢◌, ℕ, ◌*◌, inl, List, Option, Some, None, ℤ, refl, sym, ap, subst, ◌∙◌}
use Rattle.std.specs.Prelude.{option_map, map}
use Rattle.rv_isa.specs.declared.instr.IOp.{IOp}
use Rattle.rv_isa.specs.declared.instr.IOp.TheVariants.{Lb, Lh, Lw, Ld, Lbu, Lhu, Lwu}
use Rattle.rv_isa.specs.declared.instr.IOp.TheVariants as i
use Rattle.rv_isa.specs.declared.instr.UOp.TheVariants.{Lui, Auipc}
use Rattle.rv_isa.specs.declared.instr.Instr.{Instr}
use Rattle.rv_isa.specs.declared.instr.Instr.TheVariants.{R, I, S, B, U, J, Ecall}
use Rattle.rv_isa.specs.InstrWords.{twos}
use Rattle.unit_io.specs.Units.{AllUnits}
use Rattle.image_file.specs.Image.{Image}
use Rattle.rv_emulate.specs.declared.code.Code.{Code}
use Rattle.rv_emulate.specs.declared.end.CpuEnd.TheVariants.{UnitFault, Fetch}
use Rattle.rv_emulate.specs.declared.end.CpuEnd.TheVariants.{Memory as OutOfMemory}
use Rattle.rv_emulate.specs.declared.end.CpuStep.{CpuStep}
use Rattle.rv_emulate.specs.declared.end.CpuStep.TheVariants as steps
use Rattle.rv_emulate.specs.EmulatorMemory.{Memory, loaded, stored}
use Rattle.rv_emulate.specs.EmulatorStates.{State, Outcome, On, Ended, register}
use Rattle.rv_emulate.specs.EmulatorSteps.{i_step, load_step, store_step, with_instr, extended_from, s_width, sum64}
use Rattle.rv_emulate.specs.Cpus.{IfEnded}
use Rattle.rv_emulate.specs.CpuView.{code_step, image_of, instr_at, instr_of, with_fetched, Steps}
use Rattle.rv_emulate.specs.CpuTurns.{Acts, IsStep, IsTurn, without_tapes}
use Rattle.rv_emulate.proofs.UnitLaws.{units_same}

-- no unit call fails, and the end is none for one that did
abbrev Plain : State → Outcome → Type 0
Plain s (On t) = t.failed ≡ s.failed
Plain s (Ended None tapes) = Unit {0}
Plain s (Ended (Some d) tapes) = ((k n : ℕ) → d ≢ UnitFault k n) × (d ≢ OutOfMemory)

plain_load : (s : State) (rd : ℕ) (o : Option ℕ) → Plain s (load_step s rd o)
plain_load s rd None = (λ k n e. cc, λ e. cc)
plain_load s rd (Some v) = refl

plain_store : (s : State) (o : Option Memory) → Plain s (store_step s o)
plain_store s None = (λ k n e. cc, λ e. cc)
plain_store s (Some m) = refl

plain_i : (image : Image) (op : IOp) (s : State) (rd x : ℕ) (imm : ℤ) → Plain s (i_step image op s rd x imm)
plain_i image Lb s rd x imm = plain_load s rd (option_map (extended_from (8 * 1)) (loaded image.constants s.memory 1 (sum64 x (twos 64 imm))))
plain_i image Lh s rd x imm = plain_load s rd (option_map (extended_from (8 * 2)) (loaded image.constants s.memory 2 (sum64 x (twos 64 imm))))
plain_i image Lw s rd x imm = plain_load s rd (option_map (extended_from (8 * 4)) (loaded image.constants s.memory 4 (sum64 x (twos 64 imm))))
plain_i image Ld s rd x imm = plain_load s rd (loaded image.constants s.memory 8 (sum64 x (twos 64 imm)))
plain_i image Lbu s rd x imm = plain_load s rd (loaded image.constants s.memory 1 (sum64 x (twos 64 imm)))
plain_i image Lhu s rd x imm = plain_load s rd (loaded image.constants s.memory 2 (sum64 x (twos 64 imm)))
plain_i image Lwu s rd x imm = plain_load s rd (loaded image.constants s.memory 4 (sum64 x (twos 64 imm)))
plain_i image i.Addi s rd x imm = refl
plain_i image i.Slti s rd x imm = refl
plain_i image i.Sltiu s rd x imm = refl
plain_i image i.Xori s rd x imm = refl
plain_i image i.Ori s rd x imm = refl
plain_i image i.Andi s rd x imm = refl
plain_i image i.Slli s rd x imm = refl
plain_i image i.Srli s rd x imm = refl
plain_i image i.Srai s rd x imm = refl
plain_i image i.Jalr s rd x imm = refl
plain_i image i.Addiw s rd x imm = refl
plain_i image i.Slliw s rd x imm = refl
plain_i image i.Srliw s rd x imm = refl
plain_i image i.Sraiw s rd x imm = refl
plain_i image i.Fence s rd x imm = refl

stays : (o : Outcome) (step : CpuStep) (s t : State) → Steps o step s t → IfEnded step (λ e. without_tapes t ≡ without_tapes s)
stays (On v) steps.Next s t h = tt
stays (On v) (steps.Ended d) s t h = absurd h
stays (Ended e tapes) steps.Next s t h = absurd h
stays (Ended e tapes) (steps.Ended d) s t h = ap without_tapes h.2

still_failed : (o : Outcome) (step : CpuStep) (s t : State) → Plain s o → Steps o step s t → t.failed ≡ s.failed
still_failed (On v) steps.Next s t plain h = ap (λ x. x.failed) (sym h) ∙ plain
still_failed (On v) (steps.Ended d) s t plain h = absurd h
still_failed (Ended e tapes) steps.Next s t plain h = absurd h
still_failed (Ended e tapes) (steps.Ended d) s t plain h = ap (λ x. x.failed) h.2

no_fault : (o : Outcome) (step : CpuStep) (s t : State) (k n : ℕ) → Plain s o → Steps o step s t → step ≢ steps.Ended (UnitFault k n)
no_fault (On v) steps.Next s t k n plain h e = cc
no_fault (On v) (steps.Ended d) s t k n plain h e = absurd h
no_fault (Ended x tapes) steps.Next s t k n plain h e = absurd h
no_fault (Ended None tapes) (steps.Ended d) s t k n plain h e = let f = h.0 in cc
no_fault (Ended (Some c) tapes) (steps.Ended d) s t k n plain h e = let f = h.0 in plain.0 k n cc

no_cut : (o : Outcome) (step : CpuStep) (s t : State) → Plain s o → Steps o step s t → step ≢ steps.Ended OutOfMemory
no_cut (On v) steps.Next s t plain h e = cc
no_cut (On v) (steps.Ended d) s t plain h e = absurd h
no_cut (Ended x tapes) steps.Next s t plain h e = absurd h
no_cut (Ended None tapes) (steps.Ended d) s t plain h e = let f = h.0 in cc
no_cut (Ended (Some c) tapes) (steps.Ended d) s t plain h e = let f = h.0 in plain.1 cc

-- a step that is plain, and leaves the units alone
plain_turn : (constants : List ℕ) (o : Outcome) (step : CpuStep) (s t : State) (us vs : AllUnits) → Plain s o → Steps o step s t → vs ≡ us → IsTurn constants o step s t us vs
plain_turn constants o step s t us vs plain h same =
    let P : AllUnits → Type 0 = λ xs. IsTurn constants o step s t us xs in
    subst P (sym same) (record {
      makes = λ memory told. h;
      units = units_same us;
      stays = stays o step s t h;
      failed = λ n e. inl (sym (still_failed o step s t plain h) ∙ e);
      faults = λ k n e. absurd (no_fault o step s t k n plain h e);
      cut = λ e. absurd (no_cut o step s t plain h e);
    })

acts_turn : (image : Image) (o : Option Instr) (step : CpuStep) (s t : State) (us vs : AllUnits) → Acts image o step s t us vs → IsTurn image.constants (with_instr image o s) step s t us vs
acts_turn image (Some Ecall) step s t us vs h = h
acts_turn image None step s t us vs h = plain_turn _ (with_instr image None s) step s t us vs (λ k n e. cc, λ e. cc) h.0 h.1
acts_turn image (Some (R op rd rs1 rs2)) step s t us vs h = plain_turn _ (with_instr image (Some (R op rd rs1 rs2)) s) step s t us vs refl h.0 h.1
acts_turn image (Some (I op rd rs1 imm)) step s t us vs h = plain_turn _ (with_instr image (Some (I op rd rs1 imm)) s) step s t us vs (plain_i image op s rd (register s.registers rs1) imm) h.0 h.1
acts_turn image (Some (S op rs1 rs2 imm)) step s t us vs h = plain_turn _ (with_instr image (Some (S op rs1 rs2 imm)) s) step s t us vs (plain_store s (stored s.memory (s_width op) (sum64 (register s.registers rs1) (twos 64 imm)) (register s.registers rs2))) h.0 h.1
acts_turn image (Some (B op rs1 rs2 imm)) step s t us vs h = plain_turn _ (with_instr image (Some (B op rs1 rs2 imm)) s) step s t us vs refl h.0 h.1
acts_turn image (Some (U Lui rd imm)) step s t us vs h = plain_turn _ (with_instr image (Some (U Lui rd imm)) s) step s t us vs refl h.0 h.1
acts_turn image (Some (U Auipc rd imm)) step s t us vs h = plain_turn _ (with_instr image (Some (U Auipc rd imm)) s) step s t us vs refl h.0 h.1
acts_turn image (Some (J rd imm)) step s t us vs h = plain_turn _ (with_instr image (Some (J rd imm)) s) step s t us vs refl h.0 h.1

-- want of memory comes from calls alone
from_call : (image : Image) (o : Option Instr) (step : CpuStep) (s t : State) (us vs : AllUnits) → Acts image o step s t us vs → step ≡ steps.Ended OutOfMemory → o ≡ Some Ecall
from_call image (Some Ecall) step s t us vs h e = refl
from_call image None step s t us vs h e = absurd (no_cut (with_instr image None s) step s t (λ k n f. cc, λ f. cc) h.0 e)
from_call image (Some (R op rd rs1 rs2)) step s t us vs h e = absurd (no_cut (with_instr image (Some (R op rd rs1 rs2)) s) step s t refl h.0 e)
from_call image (Some (I op rd rs1 imm)) step s t us vs h e = absurd (no_cut (with_instr image (Some (I op rd rs1 imm)) s) step s t (plain_i image op s rd (register s.registers rs1) imm) h.0 e)
from_call image (Some (S op rs1 rs2 imm)) step s t us vs h e = absurd (no_cut (with_instr image (Some (S op rs1 rs2 imm)) s) step s t (plain_store s (stored s.memory (s_width op) (sum64 (register s.registers rs1) (twos 64 imm)) (register s.registers rs2))) h.0 e)
from_call image (Some (B op rs1 rs2 imm)) step s t us vs h e = absurd (no_cut (with_instr image (Some (B op rs1 rs2 imm)) s) step s t refl h.0 e)
from_call image (Some (U Lui rd imm)) step s t us vs h e = absurd (no_cut (with_instr image (Some (U Lui rd imm)) s) step s t refl h.0 e)
from_call image (Some (U Auipc rd imm)) step s t us vs h e = absurd (no_cut (with_instr image (Some (U Auipc rd imm)) s) step s t refl h.0 e)
from_call image (Some (J rd imm)) step s t us vs h e = absurd (no_cut (with_instr image (Some (J rd imm)) s) step s t refl h.0 e)

-- a turn at an instruction
instr_made : (code : Code) (s t : State) (o : Option Instr) (step : CpuStep) (us vs : AllUnits) → instr_at (map instr_of code.flats.items) s.pc ≡ Some o → Acts (image_of code) o step s t us vs → IsTurn code.constants.items (code_step code s) step s t us vs
unfolding code_step
instr_made code s t o step us vs at h = rw at (acts_turn (image_of code) o step s t us vs h)

pub instr_turn : (code : Code) (s t : State) (o : Option Instr) (step : CpuStep) (us vs : AllUnits) → instr_at (map instr_of code.flats.items) s.pc ≡ Some o → Acts (image_of code) o step s t us vs → IsStep code step s t us vs
instr_turn code s t o step us vs at h = record {
  turn = instr_made code s t o step us vs at h;
  at = λ e. at ∙ ap Some (from_call (image_of code) o step s t us vs h e);
}

-- a turn where none is
fetch_made : (code : Code) (s : State) (us : AllUnits) → instr_at (map instr_of code.flats.items) s.pc ≡ None → IsTurn code.constants.items (code_step code s) (steps.Ended (Fetch s.pc)) s s us us
unfolding code_step
fetch_made code s us at = rw at (plain_turn _ (with_fetched (image_of code) None s) (steps.Ended (Fetch s.pc)) s s us us (λ k n e. cc, λ e. cc) (refl, refl, refl) refl)

pub fetch_turn : (code : Code) (s : State) (us : AllUnits) → instr_at (map instr_of code.flats.items) s.pc ≡ None → IsStep code (steps.Ended (Fetch s.pc)) s s us us
fetch_turn code s us at = record { turn = fetch_made code s us at; at = λ e. absurd cc }
