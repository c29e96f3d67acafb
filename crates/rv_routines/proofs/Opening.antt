-- The routine that opens a cell.
use Rattle.std.proofs.Common.{◌≡◌, ℕ, ◌+◌, ◌*◌, ◌/◌, ◌%◌, ◌^◌, ◌<◌, ◌≤◌, [], ◌∷◌, length, Option, Some, None, Bool, true, false, cond, ◌==◌, refl, sym, ap, subst, arith}
use Rattle.std.specs.Prelude.{nat_lt, not}
use Rattle.std.specs.Int.{w64, cast_signed}
use Rattle.layout_params.specs.Sizes.{Sizes}
use Rattle.sil_model.specs.Memory as abstract
use Rattle.sil_model.specs.Access.{cell_number}
use Rattle.image_file.specs.Image.{Image}
use Rattle.rv_emulate.specs.declared.end.CpuEnd.TheVariants.{Undefined}
use Rattle.rv_emulate.specs.EmulatorMemory.{stored}
use Rattle.rv_emulate.specs.InstrValues.{sum64, extended}
use Rattle.rv_emulate.specs.EmulatorStates.{State, Outcome, Ended, register}
use Rattle.layout_params.proofs.LegalLayouts.{IsLegal, legal}
use Rattle.rv_straight.specs.Registers.{IsFile, Writes}
use Rattle.rv_straight.specs.InstrEffects.{Value, Leaves}
use Rattle.rv_straight.specs.Straight.{◌▸◌}
use Rattle.rv_straight.specs.Code.{IsNext}
use Rattle.rv_straight.specs.Constants.{upper_of}
use Rattle.rv_straight.specs.Reaching.{Reaches}
use Rattle.rv_straight.proofs.Ways.{comes_within}
use Rattle.rv_straight.proofs.Reaching.{start, straight, passes, branches, undefined}
use Rattle.rv_straight.proofs.Numbers.{constant_is}
use Rattle.rv_straight.proofs.Leaps.{code_at}
use Rattle.rv_routines.specs.Holds.{HoldsMemory}
use Rattle.rv_routines.specs.Routines.{Tested}
use Rattle.rv_routines.specs.RoutineCodes.{open_code}
use Rattle.rv_routines.specs.Tests.{opened}
use Rattle.rv_routines.specs.Laws.{LawOfOpen}
use Rattle.rv_routines.proofs.Cells.{offset, number_by, cell_number_is, few_bytes}
use Rattle.rv_routines.proofs.Regions.{store_kind}
use Rattle.rv_routines.proofs.Returning.{returns}
use Rattle.rv_routines.proofs.Checking.{lt_of, whole_is, number_is}
use Rattle.rv_routines.proofs.Fitting.{shifted_out, shifted_in}

module _ {image : Image} {last : ℕ} (sizes : Sizes) (legal_sizes : IsLegal sizes) (fbits vbits : ℕ) (few_f : fbits < 64) (few_v : vbits < 64) {s : State} (mm : abstract.Memory) (holds : HoldsMemory sizes mm s.memory) (c : IsNext image last s (open_code fbits vbits sizes.descr (length mm.cells))) (file : IsFile s.registers) (few : register s.registers 26 ≤ length image.statements) (even : register s.registers 11 % 2 ≡ 0) where
  abbrev d : ℕ
  d = sizes.descr

  abbrev count : ℕ
  count = length mm.cells

  abbrev f : ℕ
  f = register s.registers 12

  abbrev v : ℕ
  v = register s.registers 13

  abbrev o : ℕ
  o = offset (register s.registers 10)

  abbrev q : ℕ
  q = o / d

  abbrev Result : Option ℕ → Type 0
  Result r = Tested (opened s.memory) image last 16 17 s r

  abbrev lost : Outcome
  lost = Ended (Some (Undefined (register s.registers 26))) s.tapes

  by_shift : (y bits : ℕ) → bits < 64 → y / 2 ^ (bits % 64) ≡ y / 2 ^ bits
  by_shift y bits h = let same : bits % 64 ≡ bits = omega arith in ap (λ n. y / 2 ^ n) same

  to_1 : Reaches c 1 1 ((28, f / 2 ^ fbits) ∷ []) s.memory
  to_1 = straight (start c file) 1 (Value (f / 2 ^ fbits) ∷ []) (omega arith) (omega arith) (by_shift f fbits few_f ▸ tt)

  to_3 : nat_lt f (2 ^ fbits) ≡ true → Reaches c 3 3 ((28, v / 2 ^ vbits) ∷ (28, f / 2 ^ fbits) ∷ []) s.memory
  to_3 e = straight (passes to_1 refl (omega arith) (ap not (shifted_out f fbits e))) 1 (Value (v / 2 ^ vbits) ∷ []) (omega arith) (omega arith) (by_shift v vbits few_v ▸ tt)

  abbrev ws1 : Writes
  ws1 = (30, o % d) ∷ (29, d) ∷ (28, o) ∷ (28, 0x4000_0000) ∷ (28, v / 2 ^ vbits) ∷ (28, f / 2 ^ fbits) ∷ []

  module _ (e : nat_lt f (2 ^ fbits) ≡ true) (g : nat_lt v (2 ^ vbits) ≡ true) where
    to_8 : Reaches c 8 8 ws1 s.memory
    to_8 =
        straight (passes (to_3 e) refl (omega arith) (ap not (shifted_out v vbits g))) 4 (Value 0x4000_0000 ∷ Value o ∷ Value d ∷ Value (o % d) ∷ []) (omega arith) (omega arith)
        (refl ▸ refl ▸ omega (arith, legal_sizes.most) ▸ whole_is o d (omega (arith, legal_sizes.least)) ▸ tt)

    abbrev up : ℕ
    up = extended (upper_of count * 2 ^ 12)

    abbrev ws2 : Writes
    ws2 = (29, count) ∷ (29, up) ∷ (28, q) ∷ ws1

    to_12 : (o % d == 0) ≡ true → Reaches c 12 12 ws2 s.memory
    to_12 h =
        straight (passes to_8 refl (omega arith) (ap not h)) 3 (Value q ∷ Value up ∷ Value count ∷ []) (omega arith) (omega arith)
        (number_is o d (omega (arith, legal_sizes.least)) ▸ refl ▸ constant_is count (omega (arith, holds.valid.count)) ▸ tt)

    abbrev ws3 : Writes
    ws3 = (28, 0x5000_0000 + q) ∷ (29, 0x5000_0000) ∷ ws2

    to_16 : (o % d == 0) ≡ true → nat_lt q count ≡ true → Reaches c 16 16 ws3 (opened s.memory q)
    to_16 h w =
        let near : sum64 (0x5000_0000 + q) 0 ≡ 0x5000_0000 + q = omega (arith, lt_of q count w, holds.valid.count) in
        let store : stored s.memory 1 (sum64 (0x5000_0000 + q) 0) 0 ≡ Some (opened s.memory q) = rw near (store_kind s.memory q 0 (few_bytes sizes mm s.memory holds legal_sizes.most) (omega (arith, lt_of q count w, holds.kinds_size))) in
        straight (passes (to_12 h) refl (omega arith) (ap not w)) 3 (Value 0x5000_0000 ∷ Value (0x5000_0000 + q) ∷ Leaves (opened s.memory q) ∷ []) (omega arith) (omega arith)
        (refl ▸ omega (arith, lt_of q count w, holds.valid.count) ▸ store ▸ tt)

    found : (o % d == 0) ≡ true → nat_lt q count ≡ true → Result (Some q)
    found h w =
        returns (to_16 h w) refl refl even file

    by_number : (b : Bool) → (o % d == 0) ≡ true → nat_lt q count ≡ b → Result (number_by true b q)
    by_number false h w = undefined (branches (to_12 h) 17 refl (omega arith) (omega arith) (ap not w) (omega (arith, c.low))) _ refl refl (omega arith) refl few
    by_number true h w = found h w

    by_whole : (b : Bool) → (o % d == 0) ≡ b → Result (number_by b (nat_lt q count) q)
    by_whole false h = comes_within image last false 12 16 s lost (undefined (branches to_8 17 refl (omega arith) (omega arith) (ap not h) (omega (arith, c.low))) _ refl refl (omega arith) refl few) (omega arith)
    by_whole true h = by_number (nat_lt q count) h refl

    numbered : Result (cell_number mm (cast_signed w64 (register s.registers 10)))
    numbered = subst Result (sym (cell_number_is mm d holds.limit legal_sizes.least legal_sizes.most holds.valid.count (register s.registers 10) (file.small 10))) (by_whole (o % d == 0) refl)

  by_bits : (a b : Bool) → nat_lt f (2 ^ fbits) ≡ a → nat_lt v (2 ^ vbits) ≡ b → Result (cond a (cond b (cell_number mm (cast_signed w64 (register s.registers 10))) None) None)
  by_bits false b e g = comes_within image last false 5 16 s lost (undefined (branches to_1 17 refl (omega arith) (omega arith) (ap not (shifted_in f fbits e)) (omega (arith, c.low))) _ refl refl (omega arith) refl few) (omega arith)
  by_bits true false e g = comes_within image last false 7 16 s lost (undefined (branches (to_3 e) 17 refl (omega arith) (omega arith) (ap not (shifted_in v vbits g)) (omega (arith, c.low))) _ refl refl (omega arith) refl few) (omega arith)
  by_bits true true e g = numbered e g

pub opens : LawOfOpen
opens image last sizes count place fbits vbits is few_f few_v apart = record {
  free = apart.free place (omega arith) (omega (arith, apart.some));
  low = omega (arith, apart.low);
  even = apart.even;
  runs = λ memory s same at holds file few even. by_bits sizes (legal sizes is) fbits vbits few_f few_v memory holds (subst (λ n. IsNext image last s (open_code fbits vbits sizes.descr n)) (sym same) (code_at apart s at)) file few even (nat_lt (register s.registers 12) (2 ^ fbits)) (nat_lt (register s.registers 13) (2 ^ vbits)) refl refl;
}
