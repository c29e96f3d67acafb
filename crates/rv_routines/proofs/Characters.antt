-- The routines that test for characters.
use Rattle.std.proofs.Common.{◌≡◌, ℕ, ◌+◌, ◌*◌, ◌/◌, ◌%◌, ◌^◌, ◌<◌, ◌≤◌, List, [], ◌∷◌, length, Option, Some, None, Bool, true, false, cond, ◌==◌, refl, sym, ap, subst, ◌∙◌, arith}
use Rattle.std.specs.Prelude.{slice_get, nat_lt, option_and_then, not, bit_and}
use Rattle.std.proofs.lemmas.Option.{slice_get_within}
use Rattle.std.proofs.lemmas.Nat.{and_mask}
use Rattle.layout_params.specs.declared.cell.Cell.{Cell}
use Rattle.layout_params.specs.declared.cell.Cell.TheVariants.{Descr, Chars}
use Rattle.layout_params.specs.Sizes.{Sizes}
use Rattle.layout_params.proofs.LegalLayouts.{IsLegal, legal}
use Rattle.sil_model.specs.Memory as abstract
use Rattle.sil_model.specs.CellWords.{kind_of}
use Rattle.image_file.specs.Image.{Image}
use Rattle.rv_emulate.specs.declared.end.CpuEnd.TheVariants.{Undefined}
use Rattle.rv_emulate.specs.EmulatorMemory.{loaded}
use Rattle.rv_emulate.specs.EmulatorStates.{State, Outcome, Ended, register}
use Rattle.rv_emulate.specs.InstrValues.{sum64, extended}
use Rattle.rv_straight.specs.Registers.{IsFile, Keeps, Writes, written}
use Rattle.rv_straight.specs.InstrEffects.{Value}
use Rattle.rv_straight.specs.Straight.{at, ◌▸◌}
use Rattle.rv_straight.specs.Code.{IsNext}
use Rattle.rv_straight.specs.Constants.{upper_of}
use Rattle.rv_straight.specs.Reaching.{Reaches}
use Rattle.rv_straight.proofs.Ways.{comes_within}
use Rattle.rv_straight.proofs.Registers.{read_kept}
use Rattle.rv_straight.proofs.Reaching.{start, straight, passes, branches, undefined}
use Rattle.rv_straight.proofs.Numbers.{constant_is}
use Rattle.rv_straight.proofs.Leaps.{code_from, code_at}
use Rattle.rv_routines.specs.Holds.{HoldsMemory}
use Rattle.rv_routines.specs.Routines.{Tested, kept, is_scratch}
use Rattle.rv_routines.specs.RoutineCodes.{char_code, word_code}
use Rattle.rv_routines.specs.Tests.{cell_around, with_chars, char_test}
use Rattle.rv_routines.specs.Laws.{LawOfChars, LawOfWords}
use Rattle.rv_routines.proofs.Regions.{load_kind}
use Rattle.rv_routines.proofs.Returning.{returns, tested_after}
use Rattle.rv_routines.proofs.Checking.{lt_of, number_is, none_past, kind_small}
use Rattle.rv_routines.proofs.Cells.{offset, place_by, place_of, byte_place_is, few_bytes}

-- the cell of a place
abbrev pub around_in : List Cell → Option (ℕ × ℕ) → Option (ℕ × ℕ × Cell)
around_in cells o = option_and_then (λ (place : ℕ × ℕ). option_and_then (λ cell. Some (place.0, place.1, cell)) (slice_get cells place.0)) o

pub cell_around_is : (mm : abstract.Memory) (d x : ℕ) → mm.limits.cell_size ≡ d → 16 ≤ d → d ≤ 64 → length mm.cells ≤ 2 ^ 20 → x < 2 ^ 64 → cell_around mm x ≡ around_in mm.cells (place_of mm.cells d (offset x))
cell_around_is mm d x limit least most count small = ap (λ o. around_in mm.cells o) (byte_place_is mm d limit least most count x small)

module _ {image : Image} {last : ℕ} (sizes : Sizes) (legal_sizes : IsLegal sizes) {s : State} (mm : abstract.Memory) (holds : HoldsMemory sizes mm s.memory) (c : IsNext image last s (char_code sizes.descr (length mm.cells))) (file : IsFile s.registers) (few : register s.registers 26 ≤ length image.statements) (even : register s.registers 11 % 2 ≡ 0) where
  abbrev d : ℕ
  d = sizes.descr

  abbrev count : ℕ
  count = length mm.cells

  abbrev o : ℕ
  o = offset (register s.registers 10)

  abbrev q : ℕ
  q = o / d

  abbrev rest : ℕ
  rest = o % d

  abbrev Result : Option (ℕ × ℕ × List ℕ) → Type 0
  Result r = Tested (kept s.memory) image last 14 12 s r

  abbrev lost : Outcome
  lost = Ended (Some (Undefined (register s.registers 26))) s.tapes

  abbrev up : ℕ
  up = extended (upper_of count * 2 ^ 12)

  -- its number is below the number of cells
  abbrev ws : Writes
  ws = (29, count) ∷ (29, up) ∷ (28, q) ∷ (29, d) ∷ (28, o) ∷ (28, 0x4000_0000) ∷ []

  to_6 : Reaches c 6 6 ws s.memory
  to_6 =
      straight (start c file) 6 (Value 0x4000_0000 ∷ Value o ∷ Value d ∷ Value q ∷ Value up ∷ Value count ∷ []) (omega arith) (omega arith)
      (refl ▸ refl ▸ omega (arith, legal_sizes.most) ▸ number_is o d (omega (arith, legal_sizes.least)) ▸ refl ▸ constant_is count (omega (arith, holds.valid.count)) ▸ tt)

  -- its kind is 1
  module _ (cell : Cell) (member : slice_get mm.cells q ≡ Some cell) where
    abbrev kind : ℕ
    kind = kind_of cell

    load_is : loaded image.constants s.memory 1 (sum64 (0x5000_0000 + q) 0) ≡ Some kind
    load_is =
        let near : sum64 (0x5000_0000 + q) 0 ≡ 0x5000_0000 + q = omega (arith, slice_get_within mm.cells q cell member, holds.valid.count) in
        rw near (load_kind image.constants s.memory q kind (few_bytes sizes mm s.memory holds legal_sizes.most) (holds.kinds q cell member))

    to_10 : nat_lt q count ≡ true → Reaches c 10 10 ((28, kind) ∷ (28, 0x5000_0000 + q) ∷ (29, 0x5000_0000) ∷ ws) s.memory
    to_10 g =
        straight (passes to_6 refl (omega arith) (ap not g)) 3 (Value 0x5000_0000 ∷ Value (0x5000_0000 + q) ∷ Value kind ∷ []) (omega arith) (omega arith)
        (refl ▸ omega (arith, slice_get_within mm.cells q cell member, holds.valid.count) ▸ (load_is, kind_small cell) ▸ tt)

  by_cell : (cell : Option Cell) → nat_lt q count ≡ true → slice_get mm.cells q ≡ cell → Result (option_and_then with_chars (option_and_then (λ cell. Some (q, rest, cell)) cell))
  by_cell None g h = let lt = lt_of q count g in absurd (omega (arith, lt, none_past mm.cells q h))
  by_cell (Some (Descr e)) g h = undefined (branches (to_10 (Descr e) h g) 12 refl (omega arith) (omega arith) refl (omega (arith, c.low))) _ refl refl (omega arith) refl few
  by_cell (Some (Chars cs)) g h = returns (passes (to_10 (Chars cs) h g) refl (omega arith) refl) refl refl even file

  by_number : (b : Bool) → nat_lt q count ≡ b → Result (option_and_then with_chars (around_in mm.cells (place_by b q rest)))
  by_number false g = comes_within image last false 10 14 s lost (undefined (branches to_6 12 refl (omega arith) (omega arith) (ap not g) (omega (arith, c.low))) _ refl refl (omega arith) refl few) (omega arith)
  by_number true g = by_cell (slice_get mm.cells q) g refl

  pub tested : Result (char_test mm s.registers)
  tested =
      let around = cell_around_is mm d (register s.registers 10) holds.limit legal_sizes.least legal_sizes.most holds.valid.count (file.small 10) in
      subst Result (ap (λ r. option_and_then with_chars r) (sym around)) (by_number (nat_lt q count) refl)

pub characters : LawOfChars
characters image last sizes count place is apart = record {
  free = apart.free place (omega arith) (omega (arith, apart.some));
  low = omega (arith, apart.low);
  even = apart.even;
  runs = λ memory s same at holds file few even. tested sizes (legal sizes is) memory holds (subst (λ n. IsNext image last s (char_code sizes.descr n)) (sym same) (code_at apart s at)) file few even;
}

-- ---- words

low_bits : (x : ℕ) → bit_and x 7 ≡ x % 8
low_bits x = and_mask x 3

module _ {image : Image} {last : ℕ} (sizes : Sizes) (legal_sizes : IsLegal sizes) {s : State} (mm : abstract.Memory) (holds : HoldsMemory sizes mm s.memory) (c : IsNext image last s (word_code sizes.descr (length mm.cells))) (file : IsFile s.registers) (few : register s.registers 26 ≤ length image.statements) (even : register s.registers 11 % 2 ≡ 0) where
  abbrev x : ℕ
  x = register s.registers 10

  abbrev us : Writes
  us = (28, x % 8) ∷ []

  to_1 : Reaches c 1 1 us s.memory
  to_1 = straight (start c file) 1 (Value (x % 8) ∷ []) (omega arith) (omega arith) (low_bits x ▸ tt)

  kept_in : Keeps is_scratch s.registers (written s.registers us)
  kept_in q free = to_1.know.reads q ∙ read_kept is_scratch s.registers us q refl free

  by_bits : (b : Bool) → (x % 8 == 0) ≡ b → Tested (kept s.memory) image last 16 14 s (cond b (char_test mm s.registers) None)
  by_bits true e =
      let r = passes to_1 refl (omega arith) (ap not e) in
      let v = at s (s.pc + 8) us s.memory in
      let few' : register v.registers 26 ≤ length image.statements = rw (kept_in 26 refl) few in
      let even' : register v.registers 11 % 2 ≡ 0 = rw (kept_in 11 refl) even in
      let h = tested sizes legal_sizes {s = v} mm holds (code_from c 2 v (omega arith) refl) r.know.file few' even' in
      let h' = subst (λ y. Tested (kept s.memory) image last 14 12 v (option_and_then with_chars (cell_around mm y))) (kept_in 10 refl) h in
      tested_after image last 2 14 12 s (s.pc + 8) (written s.registers us) kept (char_test mm s.registers) (λ most o g. r.onward false most o g) kept_in h'
  by_bits false e =
      let r = branches to_1 14 refl (omega arith) (omega arith) (ap not e) (omega (arith, c.low)) in
      comes_within image last false 5 16 s _ (undefined r _ refl refl (omega arith) refl few) (omega arith)

pub words : LawOfWords
words image last sizes count place is apart = record {
  free = apart.free place (omega arith) (omega (arith, apart.some));
  low = omega (arith, apart.low);
  even = apart.even;
  runs = λ memory s same at holds file few even. by_bits sizes (legal sizes is) memory holds (subst (λ n. IsNext image last s (word_code sizes.descr n)) (sym same) (code_at apart s at)) file few even (register s.registers 10 % 8 == 0) refl;
}
