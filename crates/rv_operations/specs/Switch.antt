-- The routine that jumps to the statement whose entry is in x10, or to its return part.
use Rattle.std.specs.Prelude.{◌≡◌, ℕ, ◌+◌, ◌-◌, ◌*◌, ◌%◌, ◌^◌, ◌<◌, ◌≤◌, pos, false, List, [], ◌∷◌, length, Option, Some, None}
use Rattle.std.specs.Int.{w64, cast_signed}
use Rattle.rv_isa.specs.declared.instr.ROp.TheVariants.{Add, Sub, Divu, Remu}
use Rattle.rv_isa.specs.declared.instr.IOp.TheVariants.{Addi, Slli, Jalr}
use Rattle.rv_isa.specs.declared.instr.BOp.TheVariants.{Bne, Bgeu}
use Rattle.rv_isa.specs.declared.instr.UOp.TheVariants.{Lui, Auipc}
use Rattle.rv_isa.specs.declared.instr.Instr.{Instr}
use Rattle.rv_isa.specs.declared.instr.Instr.TheVariants.{R, I, B, U, Ecall}
use Rattle.sil_model.specs.Access.{◌>>=◌}
use Rattle.sil_micro.specs.declared.op.Op.TheVariants.{JumpEntry, JumpReturn}
use Rattle.sil_micro.specs.MicroStates.{Setting, Micro}
use Rattle.sil_model.specs.Entries.{entered_statement}
use Rattle.sil_micro.specs.Operations.{act}
use Rattle.image_file.specs.Image.{Image}
use Rattle.rv_emulate.specs.declared.end.CpuEnd.TheVariants.{Undefined}
use Rattle.rv_emulate.specs.EmulatorStates.{State, On, Ended, register}
use Rattle.rv_straight.specs.InstalledWays.{IsFree, Comes}
use Rattle.rv_straight.specs.Registers.{IsFile, Keeps}
use Rattle.rv_straight.specs.Code.{IsApart}
use Rattle.rv_straight.specs.Constants.{upper_of, lower_of}
use Rattle.rv_straight.specs.Jumps.{distance, far_upper, leap_code}
use Rattle.rv_routines.specs.Routines.{is_scratch}
use Rattle.rv_operations.specs.CodePlaces.{Places}
use Rattle.rv_operations.specs.OpCodes.{entry_code}
use Rattle.rv_operations.specs.Does.{Does, Begins}

-- the number of the statement by its entry, for cells of d bytes and so many statements, and a jump into a table of two instructions a statement
abbrev pub switch_code : ℕ → ℕ → ℕ → ℕ → List Instr
switch_code d count place table =
    U Lui 28 0x7_0000
    ∷ R Sub 28 10 28
    ∷ I Addi 29 0 (pos d)
    ∷ R Remu 30 28 29
    ∷ B Bne 30 0 (pos 36)
    ∷ R Divu 28 28 29
    ∷ U Lui 29 (upper_of count)
    ∷ I Addi 29 29 (lower_of count)
    ∷ B Bgeu 28 29 (pos 20)
    ∷ I Slli 28 28 (pos 3)
    ∷ U Auipc 29 (far_upper (place + 40) table)
    ∷ R Add 28 28 29
    ∷ I Jalr 0 28 (lower_of (distance (place + 40) table))
    ∷ I Addi 17 0 (pos 1)
    ∷ I Addi 10 0 (pos 3)
    ∷ Ecall
    ∷ []

-- where a statement's two instructions lead: to its place, or to the undefined end of the routine
abbrev pub led : ℕ → Option ℕ → ℕ
led place None = place + 52
led place (Some to) = to

-- within 15 instructions the run comes to the place of the statement whose entry is in x10, and changes scratch registers alone; where there is none it ends as undefined, within 18
abbrev pub Switches : Image → ℕ → State → Option ℕ → Type 0
Switches image last s None = Comes image last false 18 s (Ended (Some (Undefined (register s.registers 26))) s.tapes)
Switches image last s (Some to) =
    (ys : List ℕ) × Comes image last false 15 s (On (record s { pc = to; registers = ys })) × IsFile ys × Keeps is_scratch s.registers ys

pub record IsSwitch (image : Image) (last d count place : ℕ) (places : ℕ → Option ℕ) : Type 0 where
  pub free : IsFree image last place
  pub low : place < 2 ^ 31 - 2 ^ 12
  pub even : place % 4 ≡ 0
  pub runs : (s : State) → s.pc ≡ place → IsFile s.registers → register s.registers 26 ≤ length image.statements → Switches image last s (entered_statement d count (cast_signed w64 (register s.registers 10)) >>= places)

-- the routine and its table stand in the code
pub record HasSwitch (image : Image) (last d count place table : ℕ) (places : ℕ → Option ℕ) : Type 0 where
  pub routine : IsApart image last place (switch_code d count place table)
  pub entries : (k : ℕ) → k < count → IsApart image last (table + 8 * k) (leap_code 28 0 (table + 8 * k) (led place (places k)))
  pub near : (k to : ℕ) → k < count → places k ≡ Some to → (to < 2 ^ 31 - 2 ^ 12) × (to % 4 ≡ 0)
  pub table_near : table + 8 * count < 2 ^ 31 - 2 ^ 12
  pub table_even : table % 4 ≡ 0

abbrev pub LawOfSwitches : Type 0
LawOfSwitches =
    (image : Image) (last d count place table : ℕ) (places : ℕ → Option ℕ)
    → 16 ≤ d → d ≤ 64 → count ≤ 2 ^ 14 → HasSwitch image last d count place table places → IsSwitch image last d count place places

-- the operations go through such a routine, within 21 instructions
abbrev pub LawOfJumpEntry : Type 0
LawOfJumpEntry =
    (image : Image) (last : ℕ) (g : Setting) (places : Places) (entry : ℕ) (u : Micro) (s : State)
    → entry < 16 → IsSwitch image last g.settings.sizes.descr g.statements places.routines.entry (λ k. Some (places.statement k))
    → Begins image last g (entry_code entry s.pc places.routines.entry) u s
    → Does image last g places false 21 (s.pc + 12) s (act g (JumpEntry entry) u)

abbrev pub LawOfJumpReturn : Type 0
LawOfJumpReturn =
    (image : Image) (last : ℕ) (g : Setting) (places : Places) (entry : ℕ) (u : Micro) (s : State)
    → entry < 16 → IsSwitch image last g.settings.sizes.descr g.statements places.routines.return_part places.returns
    → Begins image last g (entry_code entry s.pc places.routines.return_part) u s
    → Does image last g places false 21 (s.pc + 12) s (act g (JumpReturn entry) u)
