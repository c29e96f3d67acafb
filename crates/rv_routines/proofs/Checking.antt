-- The routine that tests a cell.
use Rattle.std.proofs.Common.{◌≡◌, ℕ, zero, suc, ◌+◌, ◌*◌, ◌/◌, ◌%◌, ◌^◌, ◌<◌, ◌≤◌, List, [], ◌∷◌, length, Option, Some, None, Bool, true, false, ◌==◌, refl, sym, ap, subst, ◌∙◌, arith}
use Rattle.std.specs.Prelude.{slice_get, nat_lt, option_and_then, not}
use Rattle.std.specs.Int.{w64, cast_signed}
use Rattle.std.proofs.lemmas.Option.{slice_get_within}
use Rattle.rv_isa.specs.declared.instr.ROp.TheVariants.{Divu, Remu}
use Rattle.layout_params.specs.declared.cell.Descr.{Descr as Descriptor}
use Rattle.layout_params.specs.declared.cell.Cell.{Cell}
use Rattle.layout_params.specs.declared.cell.Cell.TheVariants.{Descr, Chars}
use Rattle.layout_params.specs.Sizes.{Sizes}
use Rattle.sil_model.specs.Memory as abstract
use Rattle.sil_model.specs.CellWords.{kind_of}
use Rattle.sil_model.specs.Access.{descr_of}
use Rattle.image_file.specs.Image.{Image}
use Rattle.rv_emulate.specs.declared.end.CpuEnd.TheVariants.{Undefined}
use Rattle.rv_emulate.specs.EmulatorMemory.{loaded}
use Rattle.rv_emulate.specs.EmulatorStates.{State, Outcome, Ended, register}
use Rattle.rv_emulate.specs.InstrValues.{sum64, extended, r_value}
use Rattle.layout_params.proofs.LegalLayouts.{IsLegal, legal}
use Rattle.rv_straight.specs.InstalledWays.{Comes}
use Rattle.rv_straight.specs.Registers.{IsFile, Writes}
use Rattle.rv_straight.specs.InstrEffects.{Value}
use Rattle.rv_straight.specs.Straight.{◌▸◌}
use Rattle.rv_straight.specs.Code.{IsNext}
use Rattle.rv_straight.specs.Constants.{upper_of}
use Rattle.rv_straight.specs.Reaching.{Reaches}
use Rattle.rv_straight.proofs.Ways.{comes_within}
use Rattle.rv_straight.proofs.Reaching.{start, straight, passes, branches, undefined}
use Rattle.rv_straight.proofs.Numbers.{constant_is}
use Rattle.rv_straight.proofs.Leaps.{code_at}
use Rattle.rv_routines.specs.Holds.{HoldsMemory}
use Rattle.rv_routines.specs.Routines.{Tested, kept}
use Rattle.rv_routines.specs.RoutineCodes.{check_code}
use Rattle.rv_routines.specs.Tests.{check_test}
use Rattle.rv_routines.specs.Laws.{LawOfCheck}
use Rattle.rv_routines.proofs.Returning.{returns}
use Rattle.rv_routines.proofs.Regions.{load_kind}
use Rattle.rv_routines.proofs.Cells.{offset, number_by, descr_in, cell_number_is, descr_at_in, few_bytes}

-- what the instructions compute
pub whole_is : (o d : ℕ) → 0 < d → r_value Remu o d ≡ o % d
whole_is o d h = grind arith

pub number_is : (o d : ℕ) → 0 < d → r_value Divu o d ≡ o / d
number_is o d h = grind arith

pub lt_of : (q n : ℕ) → nat_lt q n ≡ true → q < n
lt_of q n e = grind arith

pub none_past : (xs : List Cell) (i : ℕ) → slice_get xs i ≡ None → length xs ≤ i
none_past [] i e = omega arith
none_past (x ∷ xs) zero e = absurd cc
none_past (x ∷ xs) (suc i) e = let rest = none_past xs i e in omega arith

pub kind_small : (y : Cell) → kind_of y < 2 ^ 64
kind_small (Descr e) = omega arith
kind_small (Chars cs) = omega arith

module _ {image : Image} {last : ℕ} (sizes : Sizes) (legal_sizes : IsLegal sizes) {s : State} (mm : abstract.Memory) (holds : HoldsMemory sizes mm s.memory) (c : IsNext image last s (check_code sizes.descr (length mm.cells))) (file : IsFile s.registers) (few : register s.registers 26 ≤ length image.statements) (even : register s.registers 11 % 2 ≡ 0) where
  abbrev d : ℕ
  d = sizes.descr

  abbrev count : ℕ
  count = length mm.cells

  abbrev x : ℕ
  x = register s.registers 10

  abbrev o : ℕ
  o = offset x

  abbrev q : ℕ
  q = o / d

  abbrev lost : Outcome
  lost = Ended (Some (Undefined (register s.registers 26))) s.tapes

  -- an address is a whole one
  abbrev ws1 : Writes
  ws1 = (30, o % d) ∷ (29, d) ∷ (28, o) ∷ (28, 0x4000_0000) ∷ []

  to_4 : Reaches c 4 4 ws1 s.memory
  to_4 =
      straight (start c file) 4 (Value 0x4000_0000 ∷ Value o ∷ Value d ∷ Value (o % d) ∷ []) (omega arith) (omega arith)
      (refl ▸ refl ▸ omega (arith, legal_sizes.most) ▸ whole_is o d (omega (arith, legal_sizes.least)) ▸ tt)

  lost_4 : (o % d == 0) ≡ false → Comes image last false 8 s lost
  lost_4 e = undefined (branches to_4 14 refl (omega arith) (omega arith) (ap not e) (omega (arith, c.low))) _ refl refl (omega arith) refl few

  -- its number is below the number of cells
  abbrev up : ℕ
  up = extended (upper_of count * 2 ^ 12)

  to_8 : (o % d == 0) ≡ true → Reaches c 8 8 ((29, count) ∷ (29, up) ∷ (28, q) ∷ ws1) s.memory
  to_8 e =
      straight (passes to_4 refl (omega arith) (ap not e)) 3 (Value q ∷ Value up ∷ Value count ∷ []) (omega arith) (omega arith)
      (number_is o d (omega (arith, legal_sizes.least)) ▸ refl ▸ constant_is count (omega (arith, holds.valid.count)) ▸ tt)

  lost_8 : (o % d == 0) ≡ true → nat_lt q count ≡ false → Comes image last false 12 s lost
  lost_8 e g = undefined (branches (to_8 e) 14 refl (omega arith) (omega arith) (ap not g) (omega (arith, c.low))) _ refl refl (omega arith) refl few

  -- its kind is 0
  module _ (cell : Cell) (member : slice_get mm.cells q ≡ Some cell) where
    abbrev kind : ℕ
    kind = kind_of cell

    abbrev ws3 : Writes
    ws3 = (28, kind) ∷ (28, 0x5000_0000 + q) ∷ (29, 0x5000_0000) ∷ (29, count) ∷ (29, up) ∷ (28, q) ∷ ws1

    load_is : loaded image.constants s.memory 1 (sum64 (0x5000_0000 + q) 0) ≡ Some kind
    load_is =
        let near : sum64 (0x5000_0000 + q) 0 ≡ 0x5000_0000 + q = omega (arith, slice_get_within mm.cells q cell member, holds.valid.count) in
        rw near (load_kind image.constants s.memory q kind (few_bytes sizes mm s.memory holds legal_sizes.most) (holds.kinds q cell member))

    to_12 : (o % d == 0) ≡ true → nat_lt q count ≡ true → Reaches c 12 12 ws3 s.memory
    to_12 e g =
        straight (passes (to_8 e) refl (omega arith) (ap not g)) 3 (Value 0x5000_0000 ∷ Value (0x5000_0000 + q) ∷ Value kind ∷ []) (omega arith) (omega arith)
        (refl ▸ omega (arith, slice_get_within mm.cells q cell member, holds.valid.count) ▸ (load_is, kind_small cell) ▸ tt)

    lost_12 : (o % d == 0) ≡ true → nat_lt q count ≡ true → (kind == 0) ≡ false → Comes image last false 16 s lost
    lost_12 e g h = undefined (branches (to_12 e g) 14 refl (omega arith) (omega arith) (ap not h) (omega (arith, c.low))) _ refl refl (omega arith) refl few

    found : (o % d == 0) ≡ true → nat_lt q count ≡ true → (kind == 0) ≡ true → (y : Descriptor) → Tested (kept s.memory) image last 16 14 s (Some y)
    found e g h y =
        let r = passes (to_12 e g) refl (omega arith) (ap not h) in
        returns r refl refl even file

  by_cell : (cell : Option Cell) → (o % d == 0) ≡ true → nat_lt q count ≡ true → slice_get mm.cells q ≡ cell → Tested (kept s.memory) image last 16 14 s (option_and_then descr_of cell)
  by_cell None e g h = let lt = lt_of q count g in absurd (omega (arith, lt, none_past mm.cells q h))
  by_cell (Some (Chars cs)) e g h = lost_12 (Chars cs) h e g refl
  by_cell (Some (Descr y)) e g h = found (Descr y) h e g refl y

  by_number : (b : Bool) → (o % d == 0) ≡ true → nat_lt q count ≡ b → Tested (kept s.memory) image last 16 14 s (descr_in mm.cells (number_by true b q))
  by_number false e g = comes_within image last false 12 16 s lost (lost_8 e g) (omega arith)
  by_number true e g = by_cell (slice_get mm.cells q) e g refl

  by_whole : (b : Bool) → (o % d == 0) ≡ b → Tested (kept s.memory) image last 16 14 s (descr_in mm.cells (number_by b (nat_lt q count) q))
  by_whole false e = comes_within image last false 8 16 s lost (lost_4 e) (omega arith)
  by_whole true e = by_number (nat_lt q count) e refl

  pub tested : Tested (kept s.memory) image last 16 14 s (check_test mm s.registers)
  tested =
      let number = cell_number_is mm d holds.limit legal_sizes.least legal_sizes.most holds.valid.count x (file.small 10) in
      subst (Tested (kept s.memory) image last 16 14 s) (ap (λ n. descr_in mm.cells n) (sym number) ∙ sym (descr_at_in mm (cast_signed w64 x))) (by_whole (o % d == 0) refl)

pub checks : LawOfCheck
checks image last sizes count place is apart = record {
  free = apart.free place (omega arith) (omega (arith, apart.some));
  low = omega (arith, apart.low);
  even = apart.even;
  runs = λ memory s same at holds file few even. tested sizes (legal sizes is) memory holds (subst (λ n. IsNext image last s (check_code sizes.descr n)) (sym same) (code_at apart s at)) file few even;
}
