-- A routine comes back, and a test before a routine.
use Rattle.std.proofs.Common.{◌≡◌, ℕ, ◌+◌, ◌*◌, ◌/◌, ◌%◌, List, Option, Some, None, true, false, refl, ap, subst, ◌∙◌, arith}
use Rattle.std.specs.Prelude.{pos, slice_get}
use Rattle.rv_isa.specs.declared.instr.IOp.TheVariants.{Jalr}
use Rattle.rv_isa.specs.declared.instr.Instr.{Instr}
use Rattle.rv_isa.specs.declared.instr.Instr.TheVariants.{I}
use Rattle.image_file.specs.Image.{Image}
use Rattle.rv_emulate.specs.declared.end.CpuEnd.TheVariants.{Undefined}
use Rattle.rv_emulate.specs.EmulatorMemory.{Memory}
use Rattle.rv_emulate.specs.EmulatorStates.{State, Outcome, On, Ended, register}
use Rattle.rv_emulate.specs.InstrValues.{sum64}
use Rattle.rv_straight.specs.InstalledWays.{Comes}
use Rattle.rv_straight.specs.Registers.{IsFile, Keeps, Writes, written, are}
use Rattle.rv_straight.specs.Code.{IsNext}
use Rattle.rv_straight.specs.Reaching.{Reaches}
use Rattle.rv_straight.proofs.Registers.{read_kept}
use Rattle.rv_straight.proofs.Reaching.{jumps}
use Rattle.rv_routines.specs.Routines.{Tested, is_scratch}

-- the run comes back to the place in x11 with this memory, and scratch registers alone are changed
abbrev pub ComesBack : Image → ℕ → ℕ → State → Memory → Type 0
ComesBack image last back s m =
    (ys : List ℕ) × Comes image last false back s (On (record s { pc = register s.registers 11; registers = ys; memory = m })) × IsFile ys × Keeps is_scratch s.registers ys

pub returns : {image : Image} {last : ℕ} {s : State} {code : List Instr} {c : IsNext image last s code} {n k : ℕ} {ws : Writes} {m : Memory} (r : Reaches c n k ws m) → slice_get code k ≡ Some (I Jalr 0 11 (pos 0)) → are is_scratch ws ≡ true → register s.registers 11 % 2 ≡ 0 → IsFile s.registers → ComesBack image last (n + 1) s m
returns {image} {last} {s} {code} {c} {n} {k} {ws} {m} r e free even file =
    let low = file.small 11 in
    let whole : sum64 (register s.registers 11) 0 / 2 * 2 ≡ register s.registers 11 = omega arith in
    let back = ap (λ x. sum64 x 0 / 2 * 2) (read_kept is_scratch s.registers ws 11 free refl) ∙ whole in
    (written s.registers ws, jumps r (register s.registers 11) e back, r.know.file, λ a f. r.know.reads a ∙ read_kept is_scratch s.registers ws a free f)

-- a way to a test, which changes scratch registers alone
pub tested_after : {A : Type 0} (image : Image) (last a lost back : ℕ) (s : State) (pc : ℕ) (zs : List ℕ) (after : Memory → A → Memory) (o : Option A) → ((most : ℕ) (e : Outcome) → Comes image last false most (record s { pc = pc; registers = zs }) e → Comes image last false (a + most) s e) → Keeps is_scratch s.registers zs → Tested (after s.memory) image last lost back (record s { pc = pc; registers = zs }) o → Tested (after s.memory) image last (a + lost) (a + back) s o
tested_after image last a fail back s pc zs after None onward spared h =
    let both = onward fail _ h in
    subst (λ n. Comes image last false (a + fail) s (Ended (Some (Undefined n)) s.tapes)) (spared 26 refl) both
tested_after image last a fail back s pc zs after (Some d) onward spared h =
    let both = onward back _ h.1 in
    (h.0, subst (λ p. Comes image last false (a + back) s (On (record s { pc = p; registers = h.0; memory = after s.memory d }))) (spared 11 refl) both, h.2, λ q f. h.3 q f ∙ spared q f)
