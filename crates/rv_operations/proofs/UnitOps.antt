-- Calls on units.
use Rattle.std.proofs.Common.{◌≡◌, ℕ, ◌+◌, ◌*◌, ◌%◌, ◌^◌, ◌<◌, ◌≤◌, List, [], ◌∷◌, length, drop, Option, Some, None, Bool, true, false, cond, ◌==◌, refl, ap, subst, ◌∙◌, arith}
use Rattle.std.specs.Prelude.{pos, slice_get}
use Rattle.std.specs.Int.{w64, cast_unsigned}
use Rattle.unit_io.specs.Numbered.{unit_at}
use Rattle.unit_io.specs.Tapes.{TapeState, Tapes, with_tape}
use Rattle.unit_calls.specs.CallsMade.{Made, absent, unit_number}
use Rattle.rv_isa.specs.declared.instr.IOp.TheVariants.{Addi}
use Rattle.rv_isa.specs.declared.instr.Instr.{Instr}
use Rattle.rv_isa.specs.declared.instr.Instr.TheVariants.{I, Ecall}
use Rattle.sil_model.specs.Memory as abstract
use Rattle.sil_micro.specs.MicroStates.{Setting, Micro, held}
use Rattle.sil_micro.specs.MicroWords.{unsigned}
use Rattle.sil_micro.specs.Operations.{Effect, On, answered, call_on, failed_unit, unit_held}
use Rattle.image_file.specs.Image.{Image}
use Rattle.rv_emulate.specs.Ecalls.{bytes_read, is_unit_call, made_by, memory_after}
use Rattle.rv_emulate.specs.EmulatorMemory.{Memory, bytes_at, with_bytes}
use Rattle.rv_emulate.specs.EmulatorStates as emulator
use Rattle.rv_emulate.specs.EmulatorStates.{State, register}
use Rattle.rv_emulate.specs.EmulatorSteps as steps
use Rattle.rv_emulate.specs.EmulatorSteps.{act, answer, answer_on, ended, step, unit_of}
use Rattle.rv_straight.specs.InstalledWays.{Permits, Comes}
use Rattle.rv_straight.specs.Registers.{Keeps, Writes, written, are, Knows}
use Rattle.rv_straight.specs.InstrEffects.{Value}
use Rattle.rv_straight.specs.Straight.{at, ◌▸◌}
use Rattle.rv_straight.specs.Code.{IsNext}
use Rattle.rv_straight.specs.Reaching.{Reaches}
use Rattle.rv_straight.proofs.Ways.{step_at, comes_now, comes_any, comes_within, then_comes}
use Rattle.rv_straight.proofs.Registers.{read_kept, knows_write}
use Rattle.rv_straight.proofs.Straight.{has}
use Rattle.rv_straight.proofs.Leaps.{code_from}
use Rattle.rv_straight.proofs.Reaching.{start}
use Rattle.rv_operations.specs.Homes.{home, is_temporary}
use Rattle.rv_operations.specs.CodePlaces.{Places}
use Rattle.rv_operations.specs.StandsFor.{StandsFor}
use Rattle.rv_operations.specs.Does.{Does, Begins}
use Rattle.rv_operations.proofs.Setting.{sets}
use Rattle.rv_operations.proofs.Standing.{with_memory, with_register}

-- a call on a unit leaves tapes, and the unit of the last call where it failed
abbrev called_micro : Micro → Tapes → Option ℕ → Micro
called_micro u tapes failed = record u { state = record u.state { tapes = tapes }; failed = failed }

stands_called : (g : Setting) (u : Micro) (s : State) (tapes : Tapes) (failed : Option ℕ) → StandsFor g u s → StandsFor g (called_micro u tapes failed) (record s { tapes = tapes; failed = failed })
stands_called g u s tapes failed st = record {
  file = st.file;
  registers = st.registers;
  fit = st.fit;
  bound = st.bound;
  statement = st.statement;
  left = st.left;
  memory = st.memory;
  count = st.count;
  words = record { current = st.words.current; previous = st.words.previous; words = st.words.words; current_fits = st.words.current_fits; previous_fits = st.words.previous_fits; words_fit = st.words.words_fit };
  tables = record { bytes = st.tables.bytes; count = st.tables.count; whole = st.tables.whole };
  tapes = refl;
  failed = refl;
}

-- of a call on an absent unit none has failed
abbrev unfailed : Micro → Micro
unfailed u = record u { failed = None }

stands_unfailed : (g : Setting) (u : Micro) (s : State) → StandsFor g u s → StandsFor g (unfailed u) (record s { failed = None })
stands_unfailed g u s st = record {
  file = st.file;
  registers = st.registers;
  fit = st.fit;
  bound = st.bound;
  statement = st.statement;
  left = st.left;
  memory = st.memory;
  count = st.count;
  words = record { current = st.words.current; previous = st.words.previous; words = st.words.words; current_fits = st.words.current_fits; previous_fits = st.words.previous_fits; words_fit = st.words.words_fit };
  tables = record { bytes = st.tables.bytes; count = st.tables.count; whole = st.tables.whole };
  tapes = st.tapes;
  failed = refl;
}

same_failed : (b : Bool) (n : ℕ) → steps.failed_unit b n ≡ failed_unit b n
same_failed true n = refl
same_failed false n = refl

-- a call that can be made is the next to last instruction, and the last one takes its answer
module _ {image : Image} {last : ℕ} {g : Setting} {code : List Instr} {u : Micro} {s : State} (places : Places) (b : Begins image last g code u s) (unit : ℕ) {to k : ℕ} {ws : Writes} (to_ok : to < 16) (p : Reaches b.code k k ws s.memory) (named : register (written s.registers ws) 10 ≡ cast_unsigned w64 (held u.registers unit)) (call : slice_get code k ≡ Some Ecall) (behind : drop (k + 1) code ≡ I Addi (home to) 10 (pos 0) ∷ []) (size : length code ≡ k + 2) (temporary : are is_temporary ws ≡ true) (can : is_unit_call image.constants s.memory (written s.registers ws) ≡ true) where
  abbrev before : State
  before = at s (s.pc + 4 * k) ws s.memory

  -- ---- the last instruction, by what the call leaves

  module _ (v : Micro) (memory : Memory) (tapes : Tapes) (failed : Option ℕ) (stands : StandsFor g v (record s { memory = memory; tapes = tapes; failed = failed })) (reply : ℕ) (small : reply ≤ 4) where
    abbrev all : Writes
    all = (10, reply) ∷ ws

    abbrev after : State
    after = record s { pc = s.pc + 4 * k + 4; registers = written s.registers all; memory = memory; tapes = tapes; failed = failed }

    know : Knows s.registers all
    know = knows_write s.registers ws 10 reply p.know (omega arith) (omega (arith, small))

    kept : Keeps is_temporary s.registers after.registers
    kept q free = know.reads q ∙ read_kept is_temporary s.registers all q temporary free

    rest : IsNext image last after (I Addi (home to) 10 (pos 0) ∷ [])
    rest = subst (λ is. IsNext image last after is) behind (code_from b.code (k + 1) after (omega (arith, size)) (omega arith))

    moved_out : (register after.registers 10 + 0) % 2 ^ 64 ≡ reply
    moved_out = ap (λ x. (x + 0) % 2 ^ 64) (know.reads 10) ∙ omega (arith, small)

    takes : Does image last g places false 1 (s.pc + 4 * (k + 2)) after (On (with_register v to (pos reply)))
    takes = sets places stands kept (start rest know.file) 1 (Value reply ∷ []) to (pos reply) [] (s.pc + 4 * (k + 2)) to_ok (record { sfits = omega (arith, small) }) (omega arith) (omega arith) (moved_out ▸ tt) refl refl refl (omega arith)

    finishes : (prints : Bool) (most : ℕ) → Permits image prints before → k + 2 ≤ most → step image before ≡ emulator.On after → Does image last g places prints most (s.pc + 4 * (k + 2)) s (On (with_register v to (pos reply)))
    finishes prints most permits le is =
        let h = takes in
        let here = b.code.free (s.pc + 4 * k + 4) (omega arith) (omega (arith, size)) in
        let way = p.onward prints 2 (emulator.On h.0) (then_comes image last prints 1 1 before after (emulator.On h.0) (comes_now image last prints before (emulator.On after) is permits) here (comes_any image last prints 1 after (emulator.On h.0) h.1)) in
        (h.0, comes_within image last prints (k + 2) most s (emulator.On h.0) way le, h.2, h.3)

  -- ---- the call, by its unit

  number : unit_of before ≡ unit_held u unit
  unfolding unsigned
  number = ap unit_number named

  found : unit_at s.tapes (unit_of before) ≡ unit_at u.state.tapes (unit_held u unit)
  found = ap (λ tapes. unit_at tapes (unit_of before)) b.stands.tapes ∙ ap (λ n. unit_at u.state.tapes n) number

  calls_unit : (o : Option (Option TapeState)) → unit_at u.state.tapes (unit_held u unit) ≡ o → step image before ≡ answer_on image before o
  calls_unit o is =
      let word = has image.words code s.pc k Ecall b.code.stands call in
      step_at image before Ecall word.0 word.1 ∙ ap (λ x. cond x (answer image before) (ended image before)) can ∙ ap (λ x. answer_on image before x) (found ∙ is)

  -- a unit that tells its tape
  module _ (t : TapeState) (made : Made) (made_is : made_by image.constants s.memory (written s.registers ws) t ≡ made) (small : made.answer ≤ 4) where
    abbrev tapes_left : Tapes
    tapes_left = with_tape u.state.tapes (unit_held u unit) made.tape

    abbrev failed_left : Option ℕ
    failed_left = failed_unit made.failed (unit_held u unit)

    -- and leaves a memory
    module _ (model : abstract.Memory) (memory : Memory) (memory_is : memory_after s.memory (written s.registers ws) t ≡ memory) (stands : StandsFor g (with_memory u model) (record s { memory = memory })) where
      abbrev left : ℕ → Tapes → Option ℕ → emulator.Outcome
      left n tapes failed = emulator.On (record s { pc = s.pc + 4 * k + 4; registers = written s.registers ((10, made.answer) ∷ ws); memory = memory; tapes = with_tape tapes n made.tape; failed = failed })

      abbrev stands_left : StandsFor g (called_micro (with_memory u model) tapes_left failed_left) (record s { memory = memory; tapes = tapes_left; failed = failed_left })
      stands_left = stands_called g (with_memory u model) (record s { memory = memory }) tapes_left failed_left stands

      told : unit_at u.state.tapes (unit_held u unit) ≡ Some (Some t) → step image before ≡ emulator.On (after (called_micro (with_memory u model) tapes_left failed_left) memory tapes_left failed_left stands_left made.answer small)
      told is =
          calls_unit (Some (Some t)) is
          ∙ ap (λ x. steps.answered before x (memory_after s.memory (written s.registers ws) t)) made_is
          ∙ ap (λ m. steps.answered before made m) memory_is
          ∙ ap (λ n. left n s.tapes (steps.failed_unit made.failed n)) number
          ∙ ap (λ tapes. left (unit_held u unit) tapes (steps.failed_unit made.failed (unit_held u unit))) b.stands.tapes
          ∙ ap (λ failed. left (unit_held u unit) u.state.tapes failed) (same_failed made.failed (unit_held u unit))

      pub reads : (prints : Bool) (most : ℕ) → Permits image prints before → k + 2 ≤ most → unit_at u.state.tapes (unit_held u unit) ≡ Some (Some t) → Does image last g places prints most (s.pc + 4 * (k + 2)) s (answered (unit_held u unit) to (with_memory u model) made)
      reads prints most permits le is = finishes (called_micro (with_memory u model) tapes_left failed_left) memory tapes_left failed_left stands_left made.answer small prints most permits le (told is)

    -- or the same
    abbrev read_into : Bool → Memory
    read_into x = cond x (with_bytes s.memory (register (written s.registers ws) 11) (bytes_read t (bytes_at [] s.memory (register (written s.registers ws) 12) (register (written s.registers ws) 11)))) s.memory

    pub answers : (register (written s.registers ws) 17 == 2) ≡ false → (prints : Bool) (most : ℕ) → Permits image prints before → k + 2 ≤ most → unit_at u.state.tapes (unit_held u unit) ≡ Some (Some t) → Does image last g places prints most (s.pc + 4 * (k + 2)) s (answered (unit_held u unit) to u made)
    answers no_read prints most permits le is = reads u.state.memory s.memory (ap read_into no_read) b.stands prints most permits le is

  -- a unit that doesn't tell its tape ends the run without an end
  untold : (prints : Bool) (most : ℕ) → Permits image prints before → k + 2 ≤ most → unit_at u.state.tapes (unit_held u unit) ≡ Some None → Comes image last prints most s (emulator.Ended None u.state.tapes)
  untold prints most permits le is =
      let here = comes_now image last prints before (emulator.Ended None s.tapes) (calls_unit (Some None) is) permits in
      subst (λ tapes. Comes image last prints most s (emulator.Ended None tapes)) b.stands.tapes
      (comes_within image last prints (k + 1) most s (emulator.Ended None s.tapes) (p.onward prints 1 (emulator.Ended None s.tapes) here) (omega (arith, le)))

  -- an absent unit gives its answer
  pub calls : (prints : Bool) (most : ℕ) → Permits image prints before → k + 2 ≤ most → (effect : TapeState → Effect) → ((t : TapeState) → unit_at u.state.tapes (unit_held u unit) ≡ Some (Some t) → Does image last g places prints most (s.pc + 4 * (k + 2)) s (effect t)) → Does image last g places prints most (s.pc + 4 * (k + 2)) s (call_on (unit_at u.state.tapes (unit_held u unit)) to u effect)
  calls prints most permits le effect told = by (unit_at u.state.tapes (unit_held u unit)) refl
    where
      by : (o : Option (Option TapeState)) → unit_at u.state.tapes (unit_held u unit) ≡ o → Does image last g places prints most (s.pc + 4 * (k + 2)) s (call_on o to u effect)
      by None is = finishes (unfailed u) s.memory s.tapes None (stands_unfailed g u s b.stands) absent (omega arith) prints most permits le (calls_unit None is)
      by (Some None) is = untold prints most permits le is
      by (Some (Some t)) is = told t is
