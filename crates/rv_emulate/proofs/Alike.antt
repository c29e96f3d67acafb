-- A step asks an image only for its code, its constants and the number of its statements.
use Rattle.std.proofs.Common.{◌≡◌, ℕ, zero, suc, ◌-◌, ◌*◌, ◌/◌, ◌%◌, List, [], ◌∷◌, length, map, Bool, true, false, cond, ◌&&◌, ◌==◌, nat_le, Option, Some, None, ℤ, refl, sym, ap, ◌∙◌}
use Rattle.std.specs.Prelude.{option_map, slice_get}
use Rattle.unit_io.specs.Numbered.{unit_at}
use Rattle.unit_io.specs.Tapes.{TapeState}
use Rattle.rv_isa.specs.declared.instr.IOp.{IOp}
use Rattle.rv_isa.specs.declared.instr.IOp.TheVariants.{Addi, Slti, Sltiu, Xori, Ori, Andi, Slli, Srli, Srai, Lb, Lh, Lw, Ld, Lbu, Lhu, Lwu, Jalr, Addiw, Slliw, Srliw, Sraiw, Fence}
use Rattle.rv_isa.specs.declared.instr.UOp.TheVariants.{Lui, Auipc}
use Rattle.rv_isa.specs.declared.instr.Instr.{Instr}
use Rattle.rv_isa.specs.declared.instr.Instr.TheVariants.{R, I, S, B, U, J, Ecall}
use Rattle.rv_isa.specs.InstrWords.{twos}
use Rattle.rv_isa.specs.Decoded.{decoded}
use Rattle.sil_base.specs.declared.places.TheConstants.{FIRST_WORD}
use Rattle.image_file.specs.Image.{Image}
use Rattle.rv_emulate.specs.declared.code.Code.{Code}
use Rattle.rv_emulate.specs.EmulatorMemory.{loaded}
use Rattle.rv_emulate.specs.EmulatorStates.{State, Outcome, On, Ended, register, statement_number}
use Rattle.rv_emulate.specs.Ecalls.{call, is_unit_call, made_by, memory_after}
use Rattle.rv_emulate.specs.EmulatorSteps.{step, act, i_step, answer, answer_on, answered, ended, ecall, load_step, loads, loads_signed, unit_of, with_instr, with_word, word_at, extended_from, sum64}
use Rattle.rv_emulate.specs.EmulatorRuns.{run, on_state}
use Rattle.rv_emulate.specs.CpuView.{image_of, instr_at, instr_of, with_fetched, code_step, code_run}

-- the image has this code
pub record IsCodeOf (code : Code) (image : Image) : Type 0 where
  pub instrs : map instr_of code.flats.items ≡ map decoded image.words
  pub constants : code.constants.items ≡ image.constants
  pub count : length (image_of code).statements ≡ length image.statements

-- ---- the instruction at a place

get_map : (words : List ℕ) (k : ℕ) → slice_get (map decoded words) k ≡ option_map decoded (slice_get words k)
get_map [] k = refl
get_map (w ∷ words) zero = refl
get_map (w ∷ words) (suc k) = get_map words k

if_map : (b : Bool) (o : Option ℕ) → cond b (option_map decoded o) None ≡ option_map decoded (cond b o None)
if_map true o = refl
if_map false o = refl

pub instr_of_word : (words : List ℕ) (pc : ℕ) → instr_at (map decoded words) pc ≡ option_map decoded (word_at words pc)
instr_of_word words pc =
    ap (λ o. cond ((pc % 4 == 0) && nat_le FIRST_WORD pc) o None) (get_map words ((pc - FIRST_WORD) / 4))
    ∙ if_map ((pc % 4 == 0) && nat_le FIRST_WORD pc) (slice_get words ((pc - FIRST_WORD) / 4))

module _ (i j : Image) (constants : i.constants ≡ j.constants) (count : length i.statements ≡ length j.statements) where
  loads_alike : (s : State) (rd n address : ℕ) → loads j s rd n address ≡ loads i s rd n address
  loads_alike s rd n address = ap (λ c. load_step s rd (loaded c s.memory n address)) (sym constants)

  loads_signed_alike : (s : State) (rd n address : ℕ) → loads_signed j s rd n address ≡ loads_signed i s rd n address
  loads_signed_alike s rd n address = ap (λ c. load_step s rd (option_map (extended_from (8 * n)) (loaded c s.memory n address))) (sym constants)

  i_alike : (op : IOp) (s : State) (rd x : ℕ) (imm : ℤ) → i_step j op s rd x imm ≡ i_step i op s rd x imm
  i_alike Addi s rd x imm = refl
  i_alike Slti s rd x imm = refl
  i_alike Sltiu s rd x imm = refl
  i_alike Xori s rd x imm = refl
  i_alike Ori s rd x imm = refl
  i_alike Andi s rd x imm = refl
  i_alike Slli s rd x imm = refl
  i_alike Srli s rd x imm = refl
  i_alike Srai s rd x imm = refl
  i_alike Addiw s rd x imm = refl
  i_alike Slliw s rd x imm = refl
  i_alike Srliw s rd x imm = refl
  i_alike Sraiw s rd x imm = refl
  i_alike Lb s rd x imm = loads_signed_alike s rd 1 (sum64 x (twos 64 imm))
  i_alike Lh s rd x imm = loads_signed_alike s rd 2 (sum64 x (twos 64 imm))
  i_alike Lw s rd x imm = loads_signed_alike s rd 4 (sum64 x (twos 64 imm))
  i_alike Ld s rd x imm = loads_alike s rd 8 (sum64 x (twos 64 imm))
  i_alike Lbu s rd x imm = loads_alike s rd 1 (sum64 x (twos 64 imm))
  i_alike Lhu s rd x imm = loads_alike s rd 2 (sum64 x (twos 64 imm))
  i_alike Lwu s rd x imm = loads_alike s rd 4 (sum64 x (twos 64 imm))
  i_alike Jalr s rd x imm = refl
  i_alike Fence s rd x imm = refl

  answer_alike : (s : State) (o : Option (Option TapeState)) → answer_on j s o ≡ answer_on i s o
  answer_alike s None = refl
  answer_alike s (Some None) = refl
  answer_alike s (Some (Some t)) = ap (λ c. answered s (made_by c s.memory s.registers t) (memory_after s.memory s.registers t)) (sym constants)

  -- a call that is answered, and one that ends the run
  call_alike : (s : State) (b : Bool) → cond b (answer j s) (ended j s) ≡ cond b (answer i s) (ended i s)
  call_alike s true = answer_alike s (unit_at s.tapes (unit_of s))
  call_alike s false =
      ap (λ n. Ended (Some (call n (register s.registers 17) (register s.registers 10) (statement_number s) s.failed s.pc)) s.tapes) (sym count)

  ecall_alike : (s : State) → ecall j s ≡ ecall i s
  ecall_alike s =
      ap (λ c. cond (is_unit_call c s.memory s.registers) (answer j s) (ended j s)) (sym constants) ∙ call_alike s (is_unit_call i.constants s.memory s.registers)

  act_alike : (n : Instr) (s : State) → act j n s ≡ act i n s
  act_alike (R op rd rs1 rs2) s = refl
  act_alike (I op rd rs1 imm) s = i_alike op s rd (register s.registers rs1) imm
  act_alike (S op rs1 rs2 imm) s = refl
  act_alike (B op rs1 rs2 imm) s = refl
  act_alike (U Lui rd imm) s = refl
  act_alike (U Auipc rd imm) s = refl
  act_alike (J rd imm) s = refl
  act_alike Ecall s = ecall_alike s

  instr_alike : (o : Option Instr) (s : State) → with_instr j o s ≡ with_instr i o s
  instr_alike None s = refl
  instr_alike (Some n) s = act_alike n s

  fetched_alike : (o : Option ℕ) (s : State) → with_word j o s ≡ with_fetched i (option_map decoded o) s
  fetched_alike None s = refl
  fetched_alike (Some w) s = instr_alike (decoded w) s

module _ (code : Code) (image : Image) (h : IsCodeOf code image) where
  pub step_alike : (s : State) → step image s ≡ code_step code s
  unfolding step code_step
  step_alike s =
      fetched_alike (image_of code) image h.constants h.count (word_at image.words s.pc) s
      ∙ ap (λ o. with_fetched (image_of code) o s) (sym (instr_of_word image.words s.pc))
      ∙ ap (λ xs. with_fetched (image_of code) (instr_at xs s.pc) s) (sym h.instrs)

  pub run_alike : (n : ℕ) (s : State) → run image n s ≡ code_run code n s
  unfolding run code_run
  run_alike zero s = refl
  run_alike (suc n) s = ap (λ o. on_state o (run image n)) (step_alike s) ∙ on (λ t. run_alike n t) (code_step code s)
    where
      on : ((t : State) → run image n t ≡ code_run code n t) → (o : Outcome) → on_state o (run image n) ≡ on_state o (code_run code n)
      on again (On t) = again t
      on again (Ended e t) = refl
