-- All operations.
use Rattle.std.proofs.Common.{◌≡◌, ℕ, ◌+◌, ◌*◌, ◌^◌, ◌<◌, ◌≤◌, List, length, false, refl, subst, arith}
use Rattle.std.specs.Prelude.{not}
use Rattle.layout_params.specs.declared.cell.Field.TheVariants as field
use Rattle.rv_isa.specs.declared.instr.Instr.{Instr}
use Rattle.sil_micro.specs.declared.op.Area.TheVariants as areas
use Rattle.sil_micro.specs.declared.op.Op.{Op}
use Rattle.sil_micro.specs.declared.op.Op.TheVariants.{Const, Copy, Arith, Jump, JumpIf, JumpEntry, JumpReturn, LoadField, StoreField, StoreCell, LoadChar, StoreChar, LoadWord, StoreWord, UnitCall, Begin, End}
use Rattle.sil_micro.specs.MicroStates.{Setting, Micro}
use Rattle.sil_micro.specs.Pieces.{is_quiet}
use Rattle.sil_micro.specs.Operations.{act, weight, fixed}
use Rattle.image_file.specs.Image.{Image}
use Rattle.rv_emulate.specs.EmulatorStates.{State}
use Rattle.rv_operations.specs.OpCodes.{instructions}
use Rattle.rv_operations.specs.Does.{Does, BeginsAnew, Begins}
use Rattle.rv_operations.specs.CodePlaces.{Places}
use Rattle.rv_operations.specs.Ops.{length_of, LawOfOps}
use Rattle.rv_operations.proofs.Doing.{does_within, unsigned_small}
use Rattle.rv_operations.proofs.OpRules.{rules}
use Rattle.rv_operations.proofs.FixedFits.{fixed_fits}
use Rattle.rv_operations.proofs.Fixing.{fixed_is, sets_constant}
use Rattle.rv_operations.proofs.OnRegisters.{copies, computes}
use Rattle.rv_operations.proofs.Jumping.{jumps_to, jumps_if}
use Rattle.rv_operations.proofs.EntryOps.{jumps_by, jumps_back}
use Rattle.rv_operations.proofs.FieldsRead.{loads_field}
use Rattle.rv_operations.proofs.FieldsWritten.{stores_field}
use Rattle.rv_operations.proofs.CellsWritten.{stores_cell}
use Rattle.rv_operations.proofs.CharOps.{loads_char, stores_char}
use Rattle.rv_operations.proofs.ByteWordOps.{loads_bytes, stores_bytes}
use Rattle.rv_operations.proofs.KindOps.{loads_kind, stores_kind}
use Rattle.rv_operations.proofs.ScratchOps.{loads_scratch, stores_scratch}
use Rattle.rv_operations.proofs.StateOps.{loads_state, stores_state}
use Rattle.rv_operations.proofs.TableOps.{loads_table, stores_table}
use Rattle.rv_operations.proofs.UnitCases.{calls_units}
use Rattle.rv_operations.proofs.Statements.{begins_statement, ends_run}

begins : {image : Image} {last : ℕ} {g : Setting} {code : List Instr} {u : Micro} {s : State} → length image.statements ≡ g.statements → u.state.statement ≤ g.statements → BeginsAnew image last g code u s → Begins image last g code u s
begins count known b = record { settings = b.settings; stands = b.stands; code = b.code; number = omega (arith, count, known); even = b.even }

-- an operation that is done within fewer than its weight
abbrev lighter : (image : Image) (last : ℕ) (g : Setting) (places : Places) (op : Op) (u : Micro) (s : State) (a : ℕ) → a ≤ weight op → Does image last g places false a (s.pc + 4 * length_of g.settings g.static_cells op) s (act g op u) → Does image last g places false (weight op) (s.pc + 4 * length_of g.settings g.static_cells op) s (act g op u)
lighter image last g places op u s a le h = does_within image last g places false (s.pc + 4 * length_of g.settings g.static_cells op) s a (weight op) (act g op u) le h

pub ops : LawOfOps
unfolding instructions
ops image last g places (Const to value) u s h ok near b known =
    let op = Const to value in
    let fits = fixed_fits g places u s to value b.settings b.stands near in
    let small = subst (λ n. n < 2 ^ 64) (fixed_is g u s value b.stands) (unsigned_small (fixed g u.state value) fits) in
    lighter image last g places op u s 8 (omega arith) (sets_constant image last g places to value u s (rules op ok) small fits (begins h.statements (known refl) b))
ops image last g places (Copy to from) u s h ok near b known =
    let op = Copy to from in
    let r = rules op ok in
    lighter image last g places op u s 1 (omega arith) (copies image last g places to from u s r.0 r.1 (begins h.statements (known refl) b))
ops image last g places (Arith kind to left right) u s h ok near b known =
    let op = Arith kind to left right in
    let r = rules op ok in
    lighter image last g places op u s 1 (omega arith) (computes image last g places kind to left right u s r.0 r.1 r.2 (begins h.statements (known refl) b))
ops image last g places (Jump to) u s h ok near b known =
    let op = Jump to in
    lighter image last g places op u s 2 (omega arith) (jumps_to image last g places to u s near.0 near.1 (begins h.statements (known refl) b))
ops image last g places (JumpIf test left right to) u s h ok near b known =
    let op = JumpIf test left right to in
    let r = rules op ok in
    lighter image last g places op u s 3 (omega arith) (jumps_if image last g places test left right to u s r.0 r.1 near.0 near.1 (begins h.statements (known refl) b))
ops image last g places (JumpEntry entry) u s h ok near b known =
    let op = JumpEntry entry in
    lighter image last g places op u s 21 (omega arith) (jumps_by image last g places entry u s (rules op ok) h.routines.entry (begins h.statements (known refl) b))
ops image last g places (JumpReturn entry) u s h ok near b known =
    let op = JumpReturn entry in
    lighter image last g places op u s 21 (omega arith) (jumps_back image last g places entry u s (rules op ok) h.routines.return_part (begins h.statements (known refl) b))
ops image last g places (LoadField f to at) u s h ok near b known =
    let op = LoadField f to at in
    let r = rules op ok in
    lighter image last g places op u s 19 (omega arith) (loads_field image last g places f to at u s r.0 r.1 h.routines (begins h.statements (known refl) b))
ops image last g places (StoreField field.A at from) u s h ok near b known =
    let op = StoreField field.A at from in
    let r = rules op ok in
    lighter image last g places op u s 22 (omega arith) (stores_field image last g places field.A at from u s r.0 r.1 h.routines (begins h.statements (known refl) b))
ops image last g places (StoreField field.F at from) u s h ok near b known =
    let op = StoreField field.F at from in
    let r = rules op ok in
    lighter image last g places op u s 22 (omega arith) (stores_field image last g places field.F at from u s r.0 r.1 h.routines (begins h.statements (known refl) b))
ops image last g places (StoreField field.V at from) u s h ok near b known =
    let op = StoreField field.V at from in
    let r = rules op ok in
    lighter image last g places op u s 22 (omega arith) (stores_field image last g places field.V at from u s r.0 r.1 h.routines (begins h.statements (known refl) b))
ops image last g places (StoreCell at a f w) u s h ok near b known =
    let op = StoreCell at a f w in
    let r = rules op ok in
    lighter image last g places op u s 25 (omega arith) (stores_cell image last g places at a f w u s r.0 r.1 r.2 r.3 h.routines (begins h.statements (known refl) b))
ops image last g places (LoadChar to at) u s h ok near b known =
    let op = LoadChar to at in
    let r = rules op ok in
    lighter image last g places op u s 17 (omega arith) (loads_char image last g places to at u s r.0 r.1 h.routines (begins h.statements (known refl) b))
ops image last g places (StoreChar at from) u s h ok near b known =
    let op = StoreChar at from in
    let r = rules op ok in
    lighter image last g places op u s 28 (omega arith) (stores_char image last g places at from u s r.0 r.1 h.routines (begins h.statements (known refl) b))
ops image last g places (LoadWord areas.State to at) u s h ok near b known =
    let op = LoadWord areas.State to at in
    let r = rules op ok in
    lighter image last g places op u s 13 (omega arith) (loads_state image last g places to at u s r.0 r.1 h.steps h.short h.routines (begins h.statements (known refl) b))
ops image last g places (LoadWord areas.Scratch to at) u s h ok near b known =
    let op = LoadWord areas.Scratch to at in
    let r = rules op ok in
    lighter image last g places op u s 11 (omega arith) (loads_scratch image last g places to at u s r.0 r.1 h.short h.routines (begins h.statements (known refl) b))
ops image last g places (LoadWord areas.Tables to at) u s h ok near b known =
    let op = LoadWord areas.Tables to at in
    let r = rules op ok in
    lighter image last g places op u s 4 (omega arith) (loads_table image last g places to at u s r.0 r.1 (begins h.statements (known refl) b))
ops image last g places (LoadWord areas.Kind to at) u s h ok near b known =
    let op = LoadWord areas.Kind to at in
    let r = rules op ok in
    lighter image last g places op u s 10 (omega arith) (loads_kind image last g places to at u s r.0 r.1 h.routines (begins h.statements (known refl) b))
ops image last g places (LoadWord areas.Bytes to at) u s h ok near b known =
    let op = LoadWord areas.Bytes to at in
    let r = rules op ok in
    lighter image last g places op u s 19 (omega arith) (loads_bytes image last g places to at u s r.0 r.1 h.routines (begins h.statements (known refl) b))
ops image last g places (StoreWord areas.State at from) u s h ok near b known =
    let op = StoreWord areas.State at from in
    let r = rules op ok in
    lighter image last g places op u s 12 (omega arith) (stores_state image last g places at from u s r.0 r.1 h.steps h.routines (begins h.statements (known refl) b))
ops image last g places (StoreWord areas.Scratch at from) u s h ok near b known =
    let op = StoreWord areas.Scratch at from in
    let r = rules op ok in
    lighter image last g places op u s 11 (omega arith) (stores_scratch image last g places at from u s r.0 r.1 h.routines (begins h.statements (known refl) b))
ops image last g places (StoreWord areas.Tables at from) u s h ok near b known =
    let op = StoreWord areas.Tables at from in
    let r = rules op ok in
    lighter image last g places op u s 4 (omega arith) (stores_table image last g places at from u s r.0 r.1 (begins h.statements (known refl) b))
ops image last g places (StoreWord areas.Kind at from) u s h ok near b known =
    let op = StoreWord areas.Kind at from in
    let r = rules op ok in
    lighter image last g places op u s 25 (omega arith) (stores_kind image last g places at from u s r.0 r.1 h.routines (begins h.statements (known refl) b))
ops image last g places (StoreWord areas.Bytes at from) u s h ok near b known =
    let op = StoreWord areas.Bytes at from in
    let r = rules op ok in
    lighter image last g places op u s 19 (omega arith) (stores_bytes image last g places at from u s r.0 r.1 h.routines (begins h.statements (known refl) b))
ops image last g places (UnitCall call unit to t v) u s h ok near b known =
    let op = UnitCall call unit to t v in
    does_within image last g places (not (is_quiet op)) (s.pc + 4 * length_of g.settings g.static_cells op) s 11 28 (act g op u) (omega arith) (calls_units image last g places call unit to t v u s ok h.texts h.short (begins h.statements (known refl) b))
ops image last g places (Begin k) u s h ok near b known =
    let op = Begin k in
    lighter image last g places op u s 6 (omega arith) (begins_statement image last g places k u s (omega (arith, near, h.few)) (omega (arith, near, h.statements)) b)
ops image last g places (End by) u s h ok near b known =
    let op = End by in
    lighter image last g places op u s 3 (omega arith) (ends_run image last g places by u s (rules op ok) (begins h.statements (known refl) b))
