-- The instructions of operations.
use Rattle.std.specs.Prelude.{ℕ, ◌+◌, pos, negsuc, List, [], ◌∷◌, ◌++◌}
use Rattle.rv_isa.specs.declared.instr.ROp.{ROp}
use Rattle.rv_isa.specs.declared.instr.ROp.TheVariants as r
use Rattle.rv_isa.specs.declared.instr.IOp.TheVariants.{Addi, Slli, Ld, Lbu}
use Rattle.rv_isa.specs.declared.instr.SOp.TheVariants.{Sb, Sd}
use Rattle.rv_isa.specs.declared.instr.BOp.{BOp}
use Rattle.rv_isa.specs.declared.instr.BOp.TheVariants.{Beq, Bne, Blt, Bge, Bltu, Bgeu}
use Rattle.rv_isa.specs.declared.instr.UOp.TheVariants.{Lui}
use Rattle.rv_isa.specs.declared.instr.Instr.{Instr}
use Rattle.rv_isa.specs.declared.instr.Instr.TheVariants.{R, I, S, B, U, Ecall}
use Rattle.layout_params.specs.declared.cell.Field.{Field}
use Rattle.layout_params.specs.declared.cell.Field.TheVariants as field
use Rattle.layout_params.specs.Sizes.{Sizes}
use Rattle.layout_params.specs.Packing.{place_of, width_of}
use Rattle.sil_micro.specs.declared.op.Arith.{Arith}
use Rattle.sil_micro.specs.declared.op.Arith.TheVariants.{Add, Sub, Mul, MulHigh, And, Or, Div, Rem}
use Rattle.sil_micro.specs.declared.op.Area.{Area}
use Rattle.sil_micro.specs.declared.op.Area.TheVariants as areas
use Rattle.sil_micro.specs.declared.op.Op.{Op}
use Rattle.sil_micro.specs.declared.op.Op.TheVariants.{Const, Copy, Arith as ArithOp, Jump, JumpIf, JumpEntry, JumpReturn, LoadField, StoreField, StoreCell, LoadChar, StoreChar, LoadWord, StoreWord, UnitCall, Begin, End}
use Rattle.sil_micro.specs.declared.op.Text.{Text}
use Rattle.sil_micro.specs.declared.op.Text.TheVariants as text
use Rattle.sil_micro.specs.declared.op.Values.{Values}
use Rattle.sil_micro.specs.declared.op.Values.TheVariants as values
use Rattle.sil_micro.specs.declared.op.Test.{Test}
use Rattle.sil_micro.specs.declared.op.Test.TheVariants.{Eq, Ne, Lt, Ge, Ltu, Geu}
use Rattle.rv_straight.specs.Constants.{upper_of, lower_of, constant_code, constant_length}
use Rattle.rv_straight.specs.Jumps.{leap_code, jump_if_code}
use Rattle.rv_routines.specs.FieldCodes.{load_op, store_op}
use Rattle.rv_operations.specs.Homes.{home}
use Rattle.rv_operations.specs.declared.places.Routines.{Routines}
use Rattle.rv_operations.specs.declared.places.Links.{Links}
use Rattle.rv_operations.specs.declared.places.Site.{Site}

-- ---- registers

abbrev pub arith_op : Arith → ROp
arith_op Add = r.Add
arith_op Sub = r.Sub
arith_op Mul = r.Mul
arith_op MulHigh = r.Mulh
arith_op And = r.And
arith_op Or = r.Or
arith_op Div = r.Div
arith_op Rem = r.Rem

abbrev pub branch_op : Test → BOp
branch_op Eq = Beq
branch_op Ne = Bne
branch_op Lt = Blt
branch_op Ge = Bge
branch_op Ltu = Bltu
branch_op Geu = Bgeu

-- a micro register is moved to a temporary
abbrev pub moved_to : ℕ → ℕ → Instr
moved_to rd from = I Addi rd (home from) (pos 0)

abbrev pub copy_code : ℕ → ℕ → List Instr
copy_code to from = I Addi (home to) (home from) (pos 0) ∷ []

abbrev pub arith_code : Arith → ℕ → ℕ → ℕ → List Instr
arith_code kind to left right = R (arith_op kind) (home to) (home left) (home right) ∷ []

-- ---- calls of routines, with the address or the number in x10, and numbers in x12 and x13

abbrev pub call_code : ℕ → ℕ → ℕ → List Instr
call_code at place routine = moved_to 10 at ∷ leap_code 11 11 (place + 4) routine

abbrev pub call_with_code : ℕ → ℕ → ℕ → ℕ → List Instr
call_with_code at with place routine = moved_to 10 at ∷ moved_to 12 with ∷ leap_code 11 11 (place + 8) routine

-- ---- cells

abbrev pub load_field_code : Sizes → Routines → ℕ → Field → ℕ → ℕ → List Instr
load_field_code sizes routines place f to at =
    call_code at place routines.check ++ I (load_op (width_of sizes f)) (home to) 10 (pos (place_of sizes f)) ∷ []

abbrev pub store_a_code : Sizes → Routines → ℕ → ℕ → ℕ → List Instr
store_a_code sizes routines place at from = call_code at place routines.check ++ S Sd 10 (home from) (pos sizes.a_at) ∷ []

abbrev pub store_field_code : Sizes → Routines → ℕ → Field → ℕ → ℕ → List Instr
store_field_code sizes routines place field.A at from = store_a_code sizes routines place at from
store_field_code sizes routines place field.F at from = call_with_code at from place routines.fit_f ++ S (store_op sizes.f_len) 10 12 (pos sizes.f_at) ∷ []
store_field_code sizes routines place field.V at from = call_with_code at from place routines.fit_v ++ S (store_op sizes.v_len) 10 12 (pos sizes.v_at) ∷ []

abbrev pub store_cell_code : Sizes → Routines → ℕ → ℕ → ℕ → ℕ → ℕ → List Instr
store_cell_code sizes routines place at a f v =
    moved_to 10 at
    ∷ moved_to 12 f
    ∷ moved_to 13 v
    ∷ leap_code 11 11 (place + 12) routines.open_cell
    ++ S Sd 10 (home a) (pos sizes.a_at)
    ∷ S (store_op sizes.f_len) 10 12 (pos sizes.f_at)
    ∷ S (store_op sizes.v_len) 10 13 (pos sizes.v_at)
    ∷ []

abbrev pub load_char_code : Routines → ℕ → ℕ → ℕ → List Instr
load_char_code routines place to at = call_code at place routines.chars ++ I Lbu (home to) 10 (pos 0) ∷ []

abbrev pub store_char_code : Routines → ℕ → ℕ → ℕ → List Instr
store_char_code routines place at from = call_code at place routines.make ++ S Sb 10 (home from) (pos 0) ∷ []

-- ---- words of areas

-- the address of the word of a number, counted from a page's first, goes to x28
abbrev pub word_place_code : ℕ → ℕ → List Instr
word_place_code number page = I Slli 28 number (pos 3) ∷ U Lui 29 page ∷ R r.Add 28 28 29 ∷ []

abbrev pub load_word_code : Routines → ℕ → Area → ℕ → ℕ → List Instr
load_word_code routines place areas.State to at =
    call_code at place routines.below_state
    ++ I Addi 28 0 (pos 2)
    ∷ B Bne 10 28 (pos 12)
    ∷ R r.Sub (home to) 25 27
    ∷ B Beq 0 0 (pos 20)
    ∷ word_place_code 10 0x6_C000
    ++ I Ld (home to) 28 (pos 0)
    ∷ []
load_word_code routines place areas.Scratch to at =
    call_code at place routines.below_scratch ++ word_place_code 10 0x6_C000 ++ I Ld (home to) 28 (pos 16) ∷ []
load_word_code routines place areas.Tables to at = word_place_code (home at) 0x6_0000 ++ I Ld (home to) 28 (pos 0) ∷ []
load_word_code routines place areas.Kind to at =
    call_code at place routines.below_cells ++ U Lui 28 0x5_0000 ∷ R r.Add 28 28 10 ∷ I Lbu (home to) 28 (pos 0) ∷ []
load_word_code routines place areas.Bytes to at = call_code at place routines.word ++ I Ld (home to) 10 (pos 0) ∷ []

abbrev pub store_word_code : Routines → ℕ → Area → ℕ → ℕ → List Instr
store_word_code routines place areas.State at from = call_with_code at from place routines.state
store_word_code routines place areas.Scratch at from =
    call_code at place routines.below_scratch ++ word_place_code 10 0x6_C000 ++ S Sd 28 (home from) (pos 16) ∷ []
store_word_code routines place areas.Tables at from = word_place_code (home at) 0x6_0000 ++ S Sd 28 (home from) (pos 0) ∷ []
store_word_code routines place areas.Kind at from = call_with_code at from place routines.kind
store_word_code routines place areas.Bytes at from = call_code at place routines.word ++ S Sd 10 (home from) (pos 0) ∷ []

-- ---- statements

-- the number goes to x26 first, then the steps left are tested: where there are none the run ends by the bound, else one is taken
abbrev pub begin_code : ℕ → List Instr
begin_code k =
    U Lui 26 (upper_of k)
    ∷ I Addi 26 26 (lower_of k)
    ∷ B Bne 27 0 (pos 16)
    ∷ I Addi 17 0 (pos 1)
    ∷ I Addi 10 0 (pos 4)
    ∷ Ecall
    ∷ I Addi 27 27 (negsuc 0)
    ∷ []

abbrev pub end_code : ℕ → List Instr
end_code by = moved_to 10 by ∷ I Addi 17 0 (pos 1) ∷ Ecall ∷ []

-- a jump through the routine that finds a statement, or its return part, by its entry in x10
abbrev pub entry_code : ℕ → ℕ → ℕ → List Instr
entry_code entry place routine = moved_to 10 entry ∷ leap_code 28 0 (place + 4) routine

-- ---- calls on units, with their operands from x10 on, and their number in x17

abbrev pub text_code : Links → Text → List Instr
text_code links text.None = []
text_code links (text.Format i) = U Lui 11 (upper_of links.text) ∷ I Addi 11 11 (lower_of links.text) ∷ I Addi 12 0 (pos links.text_len) ∷ []
text_code links (text.Chars at len) = moved_to 11 at ∷ moved_to 12 len ∷ []

abbrev pub values_code : Values → List Instr
values_code values.None = I Addi 14 0 (pos 0) ∷ I Addi 15 0 (pos 0) ∷ []
values_code (values.Words count) = U Lui 13 0x6_C000 ∷ I Addi 13 13 (pos 16) ∷ I Addi 14 0 (pos count) ∷ I Addi 15 0 (pos 1) ∷ []
values_code (values.Chars at len) = moved_to 13 at ∷ moved_to 14 len ∷ I Addi 15 0 (pos 0) ∷ []

abbrev pub call_unit_code : ℕ → ℕ → List Instr
call_unit_code call to = I Addi 17 0 (pos call) ∷ Ecall ∷ I Addi (home to) 10 (pos 0) ∷ []

abbrev pub unit_call_code : Links → ℕ → ℕ → ℕ → Text → Values → List Instr
unit_call_code links call unit to text values =
    moved_to 10 unit ∷ text_code links text ++ values_code values ++ call_unit_code call to

-- ---- all operations

-- the instructions of an operation where it stands
abbrev pub op_code : Sizes → Site → Op → List Instr
op_code sizes site (Const to value) = constant_code (home to) site.links.number
op_code sizes site (Copy to from) = copy_code to from
op_code sizes site (ArithOp kind to left right) = arith_code kind to left right
op_code sizes site (Jump to) = leap_code 28 0 site.place site.links.to
op_code sizes site (JumpIf test left right to) = jump_if_code (branch_op test) (home left) (home right) site.place site.links.to
op_code sizes site (JumpEntry entry) = entry_code entry site.place site.routines.entry
op_code sizes site (JumpReturn entry) = entry_code entry site.place site.routines.return_part
op_code sizes site (LoadField f to at) = load_field_code sizes site.routines site.place f to at
op_code sizes site (StoreField f at from) = store_field_code sizes site.routines site.place f at from
op_code sizes site (StoreCell at a f v) = store_cell_code sizes site.routines site.place at a f v
op_code sizes site (LoadChar to at) = load_char_code site.routines site.place to at
op_code sizes site (StoreChar at from) = store_char_code site.routines site.place at from
op_code sizes site (LoadWord area to at) = load_word_code site.routines site.place area to at
op_code sizes site (StoreWord area at from) = store_word_code site.routines site.place area at from
op_code sizes site (UnitCall call unit to text values) = unit_call_code site.links call unit to text values
op_code sizes site (Begin k) = begin_code k
op_code sizes site (End by) = end_code by

-- the same for contracts, which don't unfold it
unfoldable pub instructions : Sizes → Site → Op → List Instr
instructions sizes site op = op_code sizes site op

-- how many they are, by the operation and the bits of its number alone
abbrev pub load_word_length : Area → ℕ
load_word_length areas.State = 11
load_word_length areas.Scratch = 7
load_word_length areas.Tables = 4
load_word_length areas.Kind = 6
load_word_length areas.Bytes = 4

abbrev pub store_word_length : Area → ℕ
store_word_length areas.State = 4
store_word_length areas.Scratch = 7
store_word_length areas.Tables = 4
store_word_length areas.Kind = 4
store_word_length areas.Bytes = 4

abbrev pub store_field_length : Field → ℕ
store_field_length field.A = 4
store_field_length field.F = 5
store_field_length field.V = 5

abbrev pub text_length : Text → ℕ
text_length text.None = 0
text_length (text.Format i) = 3
text_length (text.Chars at len) = 2

abbrev pub values_length : Values → ℕ
values_length values.None = 2
values_length (values.Words count) = 4
values_length (values.Chars at len) = 3

abbrev pub op_length : ℕ → Op → ℕ
op_length number (Const to value) = constant_length number
op_length number (Copy to from) = 1
op_length number (ArithOp kind to left right) = 1
op_length number (Jump to) = 2
op_length number (JumpIf test left right to) = 3
op_length number (JumpEntry entry) = 3
op_length number (JumpReturn entry) = 3
op_length number (LoadField f to at) = 4
op_length number (StoreField f at from) = store_field_length f
op_length number (StoreCell at a f v) = 8
op_length number (LoadChar to at) = 4
op_length number (StoreChar at from) = 4
op_length number (LoadWord area to at) = load_word_length area
op_length number (StoreWord area at from) = store_word_length area
op_length number (UnitCall call unit to text values) = text_length text + values_length values + 4
op_length number (Begin k) = 7
op_length number (End by) = 3
