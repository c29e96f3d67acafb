-- What stands in the place of x0 is never written.
use Rattle.std.proofs.Common.{◌≡◌, ℕ, zero, suc, List, [], ◌∷◌, Option, Some, None, Bool, true, false, refl, sym, ap, ◌∙◌, set}
use Rattle.std.specs.Prelude.{ℤ, slice_index, slice_set, if◌then◌else◌}
use Rattle.unit_io.specs.Numbered.{unit_at}
use Rattle.unit_io.specs.Tapes.{TapeState}
use Rattle.rv_isa.specs.declared.instr.IOp.{IOp}
use Rattle.rv_isa.specs.declared.instr.IOp.TheVariants.{Addi, Slti, Sltiu, Xori, Ori, Andi, Slli, Srli, Srai, Lb, Lh, Lw, Ld, Lbu, Lhu, Lwu, Jalr, Addiw, Slliw, Srliw, Sraiw, Fence}
use Rattle.rv_isa.specs.declared.instr.UOp.TheVariants.{Lui, Auipc}
use Rattle.rv_isa.specs.declared.instr.Instr.{Instr}
use Rattle.rv_isa.specs.declared.instr.Instr.TheVariants.{R, I, S, B, U, J, Ecall}
use Rattle.rv_isa.specs.Decoded.{decoded}
use Rattle.rv_isa.specs.InstrWords.{twos}
use Rattle.image_file.specs.Image.{Image}
use Rattle.rv_emulate.specs.Ecalls.{is_unit_call}
use Rattle.rv_emulate.specs.EmulatorMemory.{Memory, loaded, stored}
use Rattle.rv_emulate.specs.EmulatorStates.{State, Outcome, On, Ended, register, with_register}
use Rattle.rv_emulate.specs.EmulatorSteps.{act, i_step, load_step, store_step, answer, answer_on, ended, unit_of, with_instr, with_word, word_at, step, sum64, s_width, extended_from}
use Rattle.rv_emulate.specs.EmulatorRuns.{run, on_state}
use Rattle.std.specs.Option.{option_map}

first_with : (xs : List ℕ) (rd v : ℕ) → slice_index (with_register xs rd v) 0 ≡ slice_index xs 0
first_with xs zero v = refl
first_with [] (suc rd) v = refl
first_with (x ∷ xs) (suc rd) v = refl

-- the state that an outcome leaves has this in the place
abbrev Has : ℕ → Outcome → Type 0
Has x (On t) = slice_index t.registers 0 ≡ x
Has x (Ended e tapes) = Unit {0}

abbrev here : State → ℕ
here s = slice_index s.registers 0

load_has : (s : State) (rd : ℕ) (o : Option ℕ) → Has (here s) (load_step s rd o)
load_has s rd None = tt
load_has s rd (Some v) = first_with s.registers rd v

store_has : (s : State) (o : Option Memory) → Has (here s) (store_step s o)
store_has s None = tt
store_has s (Some m) = refl

answer_has : (image : Image) (s : State) (o : Option (Option TapeState)) → Has (here s) (answer_on image s o)
answer_has image s None = first_with s.registers 10 _
answer_has image s (Some None) = tt
answer_has image s (Some (Some t)) = first_with s.registers 10 _

call_has : (image : Image) (s : State) (b : Bool) → Has (here s) (if b then answer image s else ended image s)
call_has image s true = answer_has image s (unit_at s.tapes (unit_of s))
call_has image s false = tt

i_has : (image : Image) (op : IOp) (s : State) (rd x : ℕ) (imm : ℤ) → Has (here s) (i_step image op s rd x imm)
i_has image Addi s rd x imm = first_with s.registers rd _
i_has image Slti s rd x imm = first_with s.registers rd _
i_has image Sltiu s rd x imm = first_with s.registers rd _
i_has image Xori s rd x imm = first_with s.registers rd _
i_has image Ori s rd x imm = first_with s.registers rd _
i_has image Andi s rd x imm = first_with s.registers rd _
i_has image Slli s rd x imm = first_with s.registers rd _
i_has image Srli s rd x imm = first_with s.registers rd _
i_has image Srai s rd x imm = first_with s.registers rd _
i_has image Addiw s rd x imm = first_with s.registers rd _
i_has image Slliw s rd x imm = first_with s.registers rd _
i_has image Srliw s rd x imm = first_with s.registers rd _
i_has image Sraiw s rd x imm = first_with s.registers rd _
i_has image Lb s rd x imm = load_has s rd _
i_has image Lh s rd x imm = load_has s rd _
i_has image Lw s rd x imm = load_has s rd _
i_has image Ld s rd x imm = load_has s rd _
i_has image Lbu s rd x imm = load_has s rd _
i_has image Lhu s rd x imm = load_has s rd _
i_has image Lwu s rd x imm = load_has s rd _
i_has image Jalr s rd x imm = first_with s.registers rd _
i_has image Fence s rd x imm = refl

act_has : (image : Image) (i : Instr) (s : State) → Has (here s) (act image i s)
act_has image (R op rd rs1 rs2) s = first_with s.registers rd _
act_has image (I op rd rs1 imm) s = i_has image op s rd (register s.registers rs1) imm
act_has image (S op rs1 rs2 imm) s = store_has s (stored s.memory (s_width op) (sum64 (register s.registers rs1) (twos 64 imm)) (register s.registers rs2))
act_has image (B op rs1 rs2 imm) s = refl
act_has image (U Lui rd imm) s = first_with s.registers rd _
act_has image (U Auipc rd imm) s = first_with s.registers rd _
act_has image (J rd imm) s = first_with s.registers rd _
act_has image Ecall s = call_has image s (is_unit_call image.constants s.memory s.registers)

instr_has : (image : Image) (o : Option Instr) (s : State) → Has (here s) (with_instr image o s)
instr_has image None s = tt
instr_has image (Some i) s = act_has image i s

word_has : (image : Image) (o : Option ℕ) (s : State) → Has (here s) (with_word image o s)
word_has image None s = tt
word_has image (Some w) s = instr_has image (decoded w) s

step_has : (image : Image) (s : State) → Has (here s) (step image s)
unfolding step
step_has image s = word_has image (word_at image.words s.pc) s

-- so it stays through a run
pub kept : (image : Image) (n : ℕ) (s t : State) → run image n s ≡ On t → here t ≡ here s
unfolding run
kept image zero s t e = let same : s ≡ t = cc in sym (ap (λ v. here v) same)
kept image (suc n) s t e = on (λ v f. kept image n v t f) (step image s) (step_has image s) e
  where
    on : ((v : State) → run image n v ≡ On t → here t ≡ here v) → (o : Outcome) → Has (here s) o → on_state o (run image n) ≡ On t → here t ≡ here s
    on again (On v) h f = again v f ∙ h
    on again (Ended x tapes) h f = absurd cc
