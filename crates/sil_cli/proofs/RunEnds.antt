-- How runs of installed programs end over units that all tell their tapes: by an exit with 0 or 1, a trap, an undefined use, a failure of a unit or the bound.
use Rattle.std.proofs.Common.{◌≡◌, ℕ, zero, suc, ◌≤◌, List, [], ◌∷◌, Bool, true, false, ◌==◌, ◌&&◌, Option, None, Some, refl, sym, ap, subst, ◌∙◌, arith}
use Rattle.std.proofs.lemmas.Bool.Decides.{nat_tests}
use Rattle.std.specs.Prelude.{ℤ, is_some, nat_le, nat_lt, slice_get, slice_set, if◌then◌else◌}
use Rattle.unit_io.specs.RunEnds.{Run}
use Rattle.unit_io.specs.Numbered.{in_place, unit_at, with_unit}
use Rattle.unit_io.specs.Tapes.{TapeState, Tapes, all_told, with_tape}
use Rattle.unit_calls.specs.CallsMade.{Made}
use Rattle.layout_params.specs.Parameters.{Parameters}
use Rattle.sil_macros.specs.declared.names.Macro.{Macro}
use Rattle.sil_macros.specs.declared.names.Macro.TheVariants.{Bkspce, Enfile, Output, Rewind, Stprnt, Stread}
use Rattle.sil_model.specs.declared.end.End.{End}
use Rattle.sil_model.specs.declared.end.End.TheVariants as ends
use Rattle.sil_model.specs.declared.program.Flow.TheVariants.{Next, To, Exit, Trap}
use Rattle.sil_model.specs.declared.program.Program.{Program}
use Rattle.sil_model.specs.declared.program.Statement.{Statement}
use Rattle.sil_model.specs.Access.{◌>>=◌}
use Rattle.sil_model.specs.Effects.{Effect}
use Rattle.sil_model.specs.Effects as effects
use Rattle.sil_model.specs.Settling.{settle}
use Rattle.sil_runs.specs.Machine.{make_step, with_statement, after_step, ended}
use Rattle.sil_runs.specs.Machine as machine
use Rattle.sil_model.specs.Sites.{Site, site_of}
use Rattle.sil_model.specs.States as abstract
use Rattle.sil_model.specs.States.{Step, Goes, Ends}
use Rattle.sil_runs.specs.Table.{clause}
use Rattle.sil_model.specs.UnitMacros.{calls_unit, KeepsTapes}
use Rattle.unit_clauses.specs.UnitTable.{unit_clause}
use Rattle.unit_clauses.specs.UnitClauses.{after_call, bkspce, call_on, call_unit, enfile, output, rewind, way_by}
use Rattle.sil_runs.proofs.Alone.{alone}
use Rattle.rv_isa.specs.declared.instr.IOp.{IOp}
use Rattle.rv_isa.specs.declared.instr.IOp.TheVariants.{Addi, Slti, Sltiu, Xori, Ori, Andi, Slli, Srli, Srai, Lb, Lh, Lw, Ld, Lbu, Lhu, Lwu, Jalr, Addiw, Slliw, Srliw, Sraiw, Fence}
use Rattle.rv_isa.specs.declared.instr.UOp.TheVariants.{Lui, Auipc}
use Rattle.rv_isa.specs.declared.instr.Instr.{Instr}
use Rattle.rv_isa.specs.declared.instr.Instr.TheVariants.{R, I, S, B, U, J, Ecall}
use Rattle.rv_isa.specs.Decoded.{decoded}
use Rattle.rv_isa.specs.InstrWords.{twos}
use Rattle.image_file.specs.Image.{Image}
use Rattle.rv_emulate.specs.declared.end.CpuEnd.{CpuEnd}
use Rattle.rv_emulate.specs.declared.end.CpuEnd.TheVariants as run
use Rattle.rv_emulate.specs.Ecalls as calls
use Rattle.rv_emulate.specs.Ecalls.{is_unit_call}
use Rattle.rv_emulate.specs.EmulatorMemory.{Memory, stored}
use Rattle.rv_emulate.specs.EmulatorStates.{State, Outcome, On, Ended, register, statement_number, start}
use Rattle.rv_emulate.specs.EmulatorSteps.{act, i_step, load_step, store_step, answer, answer_on, unit_of, with_instr, with_word, word_at, step, sum64, s_width}
use Rattle.rv_emulate.specs.EmulatorSteps as steps
use Rattle.rv_emulate.specs.EmulatorRuns.{emulation, on_state, end_of}
use Rattle.rv_emulate.specs.EmulatorRuns as emulator
use Rattle.rv_operations.specs.Does.{as_end}
use Rattle.sil_cli.specs.Engines.{IsProgramEnd}

-- ---- tapes that all tell

got : (tapes : Tapes) (i : ℕ) → all_told tapes ≡ true → slice_get tapes i ≡ Some (Some None) → ⊥
got [] i h e = absurd (cc)
got (None ∷ tapes) zero h e = absurd (cc)
got (None ∷ tapes) (suc i) h e = got tapes i h e
got (Some None ∷ tapes) i h e = absurd (cc)
got (Some (Some t) ∷ tapes) zero h e = absurd (cc)
got (Some (Some t) ∷ tapes) (suc i) h e = got tapes i h e

put_told : (tapes : Tapes) (i : ℕ) (t : TapeState) → all_told tapes ≡ true → all_told (slice_set tapes i (Some (Some t))) ≡ true
put_told [] i t h = refl
put_told (None ∷ tapes) zero t h = h
put_told (None ∷ tapes) (suc i) t h = put_told tapes i t h
put_told (Some None ∷ tapes) i t h = absurd (cc)
put_told (Some (Some x) ∷ tapes) zero t h = h
put_told (Some (Some x) ∷ tapes) (suc i) t h = put_told tapes i t h

in-place : (o : Option (Option (Option TapeState))) → in_place o ≡ Some None → o ≡ Some (Some None)
in-place None e = absurd (cc)
in-place (Some None) e = absurd (cc)
in-place (Some (Some None)) e = refl
in-place (Some (Some (Some t))) e = absurd (cc)

no-untold : (tapes : Tapes) (n : ℕ) → all_told tapes ≡ true → unit_at tapes n ≡ Some None → ⊥
unfolding unit_at
no-untold tapes zero h e = absurd (cc)
no-untold tapes (suc n) h e = got tapes n h (in-place (slice_get tapes n) e)

still-told : (tapes : Tapes) (n : ℕ) (t : TapeState) → all_told tapes ≡ true → all_told (with_tape tapes n t) ≡ true
unfolding with_unit
still-told tapes zero t h = h
still-told tapes (suc n) t h = put_told tapes n t h

-- ---- the machine's ends

abbrev pub IsPlain : Option End → Type 0
IsPlain None = ⊥
IsPlain (Some (ends.Exit code)) = Unit {0}
IsPlain (Some (ends.Trap k)) = Unit {0}
IsPlain (Some (ends.Undefined k)) = Unit {0}
IsPlain (Some (ends.UnitFault k unit)) = Unit {0}
IsPlain (Some ends.Budget) = Unit {0}
IsPlain (Some ends.Memory) = ⊥

pub has-end : (o : Option End) → IsPlain o → is_some o ≡ true
has-end None h = absurd h
has-end (Some end) h = refl

-- a step leaves tapes that all tell, or ends the run
unfoldable StepsPlainly : Step → Type 0
StepsPlainly (Goes s) = all_told s.tapes ≡ true
StepsPlainly (Ends e tapes) = IsPlain e

plain-none : (s : abstract.State) → StepsPlainly (settle s None)
unfolding StepsPlainly
plain-none s = tt

plain-read : {A : Type 0} (s : abstract.State) (o : Option A) (f : A → Effect) → ((a : A) → StepsPlainly (settle s (f a))) → StepsPlainly (settle s (o >>= f))
plain-read s None f h = plain-none s
plain-read s (Some a) f h = h a

plain-way : (s t : abstract.State) (unit answer : ℕ) → all_told t.tapes ≡ true → StepsPlainly (settle s (Some (way_by unit answer, t)))
unfolding StepsPlainly
plain-way s t unit zero h = h
plain-way s t unit (suc zero) h = tt
plain-way s t unit (suc (suc zero)) h = tt
plain-way s t unit (suc (suc (suc zero))) h = tt
plain-way s t unit (suc (suc (suc (suc n)))) h = tt

plain-on : (s : abstract.State) (unit : ℕ) (make : TapeState → Made) (o : Option (Option TapeState)) → unit_at s.tapes unit ≡ o → all_told s.tapes ≡ true → StepsPlainly (settle s (call_on s unit make o))
plain-on s unit make None e h = plain-none s
plain-on s unit make (Some None) e h = absurd (no-untold s.tapes unit h e)
plain-on s unit make (Some (Some t)) e h = plain-way s (after_call s unit (make t)) unit (make t).answer (still-told s.tapes unit (make t).tape h)

plain-call : (s : abstract.State) (unit : ℕ) (make : TapeState → Made) → all_told s.tapes ≡ true → StepsPlainly (settle s (call_unit s unit make))
plain-call s unit make h = plain-on s unit make (unit_at s.tapes unit) refl h

-- a macro that calls a unit
plain-calls : (name : Macro) (site : Site) (s : abstract.State) → all_told s.tapes ≡ true → calls_unit name ≡ true → StepsPlainly (settle s (clause name site s))
unfolding clause unit_clause bkspce enfile output rewind
plain-calls Bkspce site s h c = search (plain-read, plain-call) depth 20
plain-calls Enfile site s h c = search (plain-read, plain-call) depth 20
plain-calls Output site s h c = search (plain-read, plain-call) depth 20
plain-calls Rewind site s h c = search (plain-read, plain-call) depth 20
plain-calls Stprnt site s h c = plain-none s
plain-calls Stread site s h c = plain-none s
plain-calls _ site s h c = absurd (cc)

-- one that calls none keeps the tapes
settles : (s : abstract.State) (e : Effect) → all_told s.tapes ≡ true → KeepsTapes s.tapes e → StepsPlainly (settle s e)
unfolding KeepsTapes StepsPlainly
settles s None h k = tt
settles s (Some (effects.On Next, t)) h k = ap all_told k ∙ h
settles s (Some (effects.On (To j), t)) h k = ap all_told k ∙ h
settles s (Some (effects.On (Exit code), t)) h k = tt
settles s (Some (effects.On Trap, t)) h k = tt
settles s (Some (effects.Undefined, t)) h k = absurd k
settles s (Some (effects.UnitFault unit, t)) h k = absurd k
settles s (Some (effects.Untold, t)) h k = absurd k

by-calls : (b : Bool) (name : Macro) (site : Site) (s : abstract.State) → all_told s.tapes ≡ true → calls_unit name ≡ b → StepsPlainly (settle s (clause name site s))
by-calls true name site s h c = plain-calls name site s h c
by-calls false name site s h c = settles s (clause name site s) h (alone name site s c)

step-plain : (program : Program) (parameters : Parameters) (st : Statement) (s : abstract.State) → all_told s.tapes ≡ true → StepsPlainly (make_step program parameters st s)
unfolding make_step
step-plain program parameters st s h = by-calls (calls_unit st.name) st.name (site_of program parameters s.statement st) s h refl

after-plain : (step : Step) (go : abstract.State → Run End) → StepsPlainly step → ((s : abstract.State) → all_told s.tapes ≡ true → IsPlain (go s).end) → IsPlain (after_step step ended go).end
unfolding StepsPlainly
after-plain (Goes s) go h goes = goes s h
after-plain (Ends e tapes) go h goes = h

at-plain : (o : Option Statement) (past : Run End) (go : Statement → Run End) → IsPlain past.end → ((st : Statement) → IsPlain (go st).end) → IsPlain (with_statement o past go).end
at-plain None past go h goes = h
at-plain (Some st) past go h goes = goes st

-- so each run over units that all tell their tapes has an end, which is none by want of memory
pub run-plain : (program : Program) (parameters : Parameters) (n : ℕ) (s : abstract.State) → all_told s.tapes ≡ true → IsPlain (machine.run program parameters n s).end
unfolding machine.run
run-plain program parameters zero s h = at-plain (slice_get program.statements s.statement) _ _ tt (λ st. tt)
run-plain program parameters (suc n) s h =
    at-plain (slice_get program.statements s.statement) _ _ tt (λ st. after-plain (make_step program parameters st s) (machine.run program parameters n) (step-plain program parameters st s h) (run-plain program parameters n))

-- ---- the emulator's exits

abbrev pub HasSmallExit : CpuEnd → Type 0
HasSmallExit (run.Exit code) = code ≤ 1
HasSmallExit _ = Unit {0}

abbrev EndsSmall : Outcome → Type 0
EndsSmall (On t) = Unit {0}
EndsSmall (Ended None tapes) = Unit {0}
EndsSmall (Ended (Some end) tapes) = HasSmallExit end

fault-small : (statement pc : ℕ) (failed : Option ℕ) → HasSmallExit (calls.unit_fault statement failed pc)
fault-small statement pc None = tt
fault-small statement pc (Some unit) = tt

by-number : (exit trap undefined budget fault : Bool) (a0 statement pc : ℕ) (failed : Option ℕ) → (exit ≡ true → a0 ≤ 1) → HasSmallExit (if exit then run.Exit a0 else if trap then run.Trap statement else if undefined then run.Undefined statement else if budget then run.Budget else if fault then calls.unit_fault statement failed pc else run.BadCall pc)
by-number true trap undefined budget fault a0 statement pc failed h = h refl
by-number false true undefined budget fault a0 statement pc failed h = tt
by-number false false true budget fault a0 statement pc failed h = tt
by-number false false false true fault a0 statement pc failed h = tt
by-number false false false false true a0 statement pc failed h = fault-small statement pc failed
by-number false false false false false a0 statement pc failed h = tt

below-two : (a0 : ℕ) → nat_lt a0 2 ≡ true → a0 ≤ 1
below-two a0 h = grind (arith, nat_tests)

end-small : (a0 statement pc : ℕ) (failed : Option ℕ) → HasSmallExit (calls.end_by a0 statement failed pc)
end-small a0 statement pc failed = by-number (nat_lt a0 2) (a0 == 2) (a0 == 3) (a0 == 4) (a0 == 5) a0 statement pc failed (below-two a0)

called-small : (b : Bool) (end : CpuEnd) (pc : ℕ) → HasSmallExit end → HasSmallExit (if b then end else run.BadCall pc)
called-small true end pc h = h
called-small false end pc h = tt

load-small : (s : State) (rd : ℕ) (o : Option ℕ) → EndsSmall (load_step s rd o)
load-small s rd None = tt
load-small s rd (Some v) = tt

store-small : (s : State) (o : Option Memory) → EndsSmall (store_step s o)
store-small s None = tt
store-small s (Some m) = tt

answer-small : (image : Image) (s : State) (o : Option (Option TapeState)) → EndsSmall (answer_on image s o)
answer-small image s None = tt
answer-small image s (Some None) = tt
answer-small image s (Some (Some t)) = tt

ecall-small : (image : Image) (s : State) (b : Bool) → EndsSmall (if b then answer image s else steps.ended image s)
ecall-small image s true = answer-small image s (unit_at s.tapes (unit_of s))
ecall-small image s false =
    called-small ((register s.registers 17 == 1) && nat_le (statement_number s) _) (calls.end_by (register s.registers 10) (statement_number s) s.failed s.pc) s.pc (end-small (register s.registers 10) (statement_number s) s.pc s.failed)

i-small : (image : Image) (op : IOp) (s : State) (rd x : ℕ) (imm : ℤ) → EndsSmall (i_step image op s rd x imm)
i-small image Addi s rd x imm = tt
i-small image Slti s rd x imm = tt
i-small image Sltiu s rd x imm = tt
i-small image Xori s rd x imm = tt
i-small image Ori s rd x imm = tt
i-small image Andi s rd x imm = tt
i-small image Slli s rd x imm = tt
i-small image Srli s rd x imm = tt
i-small image Srai s rd x imm = tt
i-small image Addiw s rd x imm = tt
i-small image Slliw s rd x imm = tt
i-small image Srliw s rd x imm = tt
i-small image Sraiw s rd x imm = tt
i-small image Lb s rd x imm = load-small s rd _
i-small image Lh s rd x imm = load-small s rd _
i-small image Lw s rd x imm = load-small s rd _
i-small image Ld s rd x imm = load-small s rd _
i-small image Lbu s rd x imm = load-small s rd _
i-small image Lhu s rd x imm = load-small s rd _
i-small image Lwu s rd x imm = load-small s rd _
i-small image Jalr s rd x imm = tt
i-small image Fence s rd x imm = tt

act-small : (image : Image) (i : Instr) (s : State) → EndsSmall (act image i s)
act-small image (R op rd rs1 rs2) s = tt
act-small image (I op rd rs1 imm) s = i-small image op s rd (register s.registers rs1) imm
act-small image (S op rs1 rs2 imm) s = store-small s (stored s.memory (s_width op) (sum64 (register s.registers rs1) (twos 64 imm)) (register s.registers rs2))
act-small image (B op rs1 rs2 imm) s = tt
act-small image (U Lui rd imm) s = tt
act-small image (U Auipc rd imm) s = tt
act-small image (J rd imm) s = tt
act-small image Ecall s = ecall-small image s (is_unit_call image.constants s.memory s.registers)

instr-small : (image : Image) (o : Option Instr) (s : State) → EndsSmall (with_instr image o s)
instr-small image None s = tt
instr-small image (Some i) s = act-small image i s

word-small : (image : Image) (o : Option ℕ) (s : State) → EndsSmall (with_word image o s)
word-small image None s = tt
word-small image (Some w) s = instr-small image (decoded w) s

step-small : (image : Image) (s : State) → EndsSmall (step image s)
unfolding step
step-small image s = word-small image (word_at image.words s.pc) s

ran-small : (image : Image) (n : ℕ) (s : State) → EndsSmall (emulator.run image n s)
unfolding emulator.run
ran-small image zero s = tt
ran-small image (suc n) s = on (λ t. ran-small image n t) (step image s) (step-small image s)
  where
    on : ((t : State) → EndsSmall (emulator.run image n t)) → (o : Outcome) → EndsSmall o → EndsSmall (on_state o (emulator.run image n))
    on again (On t) h = again t
    on again (Ended e tapes) h = h

small-of : (o : Outcome) (end : CpuEnd) → EndsSmall o → end_of o ≡ Some end → HasSmallExit end
small-of (On t) end h e = let same : run.Runaway ≡ end = cc in subst HasSmallExit same tt
small-of (Ended None tapes) end h e = absurd (cc)
small-of (Ended (Some x) tapes) end h e = let same : x ≡ end = cc in subst HasSmallExit same h

-- the exit of an image's run is 0 or 1
pub emulation-small : (image : Image) (tapes : Tapes) (n budget : ℕ) (end : CpuEnd) → (emulation image tapes n budget).end ≡ Some end → HasSmallExit end
unfolding emulation
emulation-small image tapes n budget end e = small-of (emulator.run image budget (start image tapes n)) end (ran-small image budget (start image tapes n)) e

-- ---- both

pub program-end : (x : End) → IsPlain (Some x) → HasSmallExit (as_end x) → IsProgramEnd (as_end x)
program-end (ends.Exit code) h small = small
program-end (ends.Trap k) h small = tt
program-end (ends.Undefined k) h small = tt
program-end (ends.UnitFault k unit) h small = tt
program-end ends.Budget h small = tt
program-end ends.Memory h small = tt
