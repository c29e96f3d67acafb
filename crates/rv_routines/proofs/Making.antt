-- The routine that makes a cell characters.
use Rattle.std.proofs.Common.{◌≡◌, ℕ, ◌+◌, ◌-◌, ◌*◌, ◌/◌, ◌%◌, ◌^◌, ◌<◌, ◌≤◌, [], ◌∷◌, length, Option, Some, None, Bool, true, false, ◌==◌, refl, sym, ap, subst, ◌∙◌, arith}
use Rattle.std.specs.Prelude.{pos, slice_get, nat_lt, option_and_then, not}
use Rattle.std.proofs.lemmas.Nat.{div-add-mod', mul-le}
use Rattle.std.proofs.lemmas.Option.{slice_get_within}
use Rattle.sil_base.specs.Bytes.{low_bytes, with_piece}
use Rattle.rv_isa.specs.declared.instr.IOp.TheVariants.{Jalr}
use Rattle.rv_isa.specs.declared.instr.Instr.TheVariants.{I}
use Rattle.layout_params.specs.declared.cell.Cell.{Cell}
use Rattle.layout_params.specs.declared.cell.Cell.TheVariants.{Descr, Chars}
use Rattle.layout_params.specs.Sizes.{Sizes}
use Rattle.layout_params.proofs.LegalLayouts.{IsLegal, legal}
use Rattle.sil_model.specs.Memory as abstract
use Rattle.sil_model.specs.CellWords.{kind_of}
use Rattle.image_file.specs.Image.{Image}
use Rattle.rv_emulate.specs.declared.end.CpuEnd.TheVariants.{Undefined}
use Rattle.rv_emulate.specs.EmulatorMemory.{Memory, loaded, stored}
use Rattle.rv_emulate.specs.EmulatorStates.{State, Outcome, On, Ended, register}
use Rattle.rv_emulate.specs.InstrValues.{sum64, extended}
use Rattle.rv_straight.specs.InstalledWays.{Comes}
use Rattle.rv_straight.specs.Registers.{IsFile, Writes}
use Rattle.rv_straight.specs.InstrEffects.{Value, Leaves}
use Rattle.rv_straight.specs.Straight.{◌▸◌}
use Rattle.rv_straight.specs.Code.{IsNext}
use Rattle.rv_straight.specs.Constants.{upper_of}
use Rattle.rv_straight.specs.Reaching.{Reaches}
use Rattle.rv_straight.proofs.Ways.{comes_within}
use Rattle.rv_straight.proofs.Reaching.{start, straight, passes, branches, undefined}
use Rattle.rv_straight.proofs.Numbers.{constant_is}
use Rattle.rv_straight.proofs.Leaps.{code_at}
use Rattle.rv_routines.specs.Holds.{HoldsMemory}
use Rattle.rv_routines.specs.Routines.{Tested}
use Rattle.rv_routines.specs.RoutineCodes.{make_code}
use Rattle.rv_routines.specs.Tests.{made, make_test, zeroed}
use Rattle.rv_routines.specs.Laws.{LawOfMake}
use Rattle.rv_routines.proofs.Cells.{offset, place_by, few_bytes}
use Rattle.rv_routines.proofs.Regions.{load_kind, store_kind}
use Rattle.rv_routines.proofs.Returning.{returns}
use Rattle.rv_routines.proofs.Checking.{lt_of, whole_is, number_is, none_past, kind_small}
use Rattle.rv_routines.proofs.Characters.{around_in, cell_around_is}
use Rattle.rv_routines.proofs.Zeros.{zeros, first_at, some_behind}

-- the address of a cell is that of its byte without the place in it
cell_address : (x o d : ℕ) → x < 2 ^ 64 → o ≡ offset x → o < 2 ^ 27 → 0 < d → (x + (2 ^ 64 - o % d)) % 2 ^ 64 ≡ 0x4000_0000 + o / d * d
cell_address x o d small e few some =
    let times : o / d * d + o % d ≡ o = omega (arith, div-add-mod' o d) in
    omega arith

module _ {image : Image} {last : ℕ} (sizes : Sizes) (legal_sizes : IsLegal sizes) {s : State} (mm : abstract.Memory) (holds : HoldsMemory sizes mm s.memory) (c : IsNext image last s (make_code sizes.descr (length mm.cells))) (file : IsFile s.registers) (few : register s.registers 26 ≤ length image.statements) (even : register s.registers 11 % 2 ≡ 0) where
  abbrev d : ℕ
  d = sizes.descr

  abbrev count : ℕ
  count = length mm.cells

  abbrev x : ℕ
  x = register s.registers 10

  abbrev o : ℕ
  o = offset x

  abbrev q : ℕ
  q = o / d

  abbrev rest : ℕ
  rest = o % d

  abbrev Result : Option (ℕ × ℕ × Cell) → Type 0
  Result r = Tested (made d s.memory) image last 11 24 s r

  abbrev lost : Outcome
  lost = Ended (Some (Undefined (register s.registers 26))) s.tapes

  abbrev up : ℕ
  up = extended (upper_of count * 2 ^ 12)

  abbrev ws : Writes
  ws = (29, count) ∷ (29, up) ∷ (28, q) ∷ (30, rest) ∷ (29, d) ∷ (28, o) ∷ (28, 0x4000_0000) ∷ []

  to_7 : Reaches c 7 7 ws s.memory
  to_7 =
      straight (start c file) 7 (Value 0x4000_0000 ∷ Value o ∷ Value d ∷ Value rest ∷ Value q ∷ Value up ∷ Value count ∷ []) (omega arith) (omega arith)
      (refl ▸ refl ▸ omega (arith, legal_sizes.most) ▸ whole_is o d (omega (arith, legal_sizes.least)) ▸ number_is o d (omega (arith, legal_sizes.least)) ▸ refl ▸ constant_is count (omega (arith, holds.valid.count)) ▸ tt)

  module _ (cell : Cell) (member : slice_get mm.cells q ≡ Some cell) where
    abbrev kind : ℕ
    kind = kind_of cell

    within : q < count
    within = slice_get_within mm.cells q cell member

    abbrev place : ℕ
    place = 0x5000_0000 + q

    near : sum64 place 0 ≡ place
    near = omega (arith, within, holds.valid.count)

    load_is : loaded image.constants s.memory 1 (sum64 place 0) ≡ Some kind
    load_is = rw near (load_kind image.constants s.memory q kind (few_bytes sizes mm s.memory holds legal_sizes.most) (holds.kinds q cell member))

    abbrev ws2 : Writes
    ws2 = (29, kind) ∷ (28, place) ∷ (29, 0x5000_0000) ∷ ws

    to_11 : nat_lt q count ≡ true → Reaches c 11 11 ws2 s.memory
    to_11 g =
        straight (passes to_7 refl (omega arith) (ap not g)) 3 (Value 0x5000_0000 ∷ Value place ∷ Value kind ∷ []) (omega arith) (omega arith)
        (refl ▸ omega (arith, within, holds.valid.count) ▸ (load_is, kind_small cell) ▸ tt)

    -- a descriptor becomes zeros as characters
    abbrev marked : Memory
    marked = record s.memory { kinds = with_piece q (low_bytes 1 1) s.memory.kinds }

    mark_is : stored s.memory 1 (sum64 place 0) 1 ≡ Some marked
    mark_is = rw near (store_kind s.memory q 1 (few_bytes sizes mm s.memory holds legal_sizes.most) (omega (arith, within, holds.kinds_size)))

    abbrev at : ℕ
    at = q * d

    room : at + d ≤ length s.memory.cells
    room = let all : (q + 1) * d ≤ count * d = mul-le (q + 1) d count d (omega (arith, within)) (omega arith) in omega (arith, holds.size)

    small : o < 2 ^ 27
    small = let times : q * d + rest ≡ o = omega (arith, div-add-mod' o d) in omega (arith, room, few_bytes sizes mm s.memory holds legal_sizes.most, legal_sizes.most, legal_sizes.least)

    first_is : (x + (2 ^ 64 - rest)) % 2 ^ 64 ≡ 0x4000_0000 + at
    first_is = cell_address x o d (file.small 10) refl small (omega (arith, legal_sizes.least))

    abbrev ws3 : Writes
    ws3 = (30, 0x4000_0000 + at) ∷ (29, 1) ∷ ws2

    to_19 : nat_lt q count ≡ true → (kind == 0) ≡ true → Reaches c 15 19 ws3 marked
    to_19 g e =
        straight (branches (to_11 g) 16 refl (omega arith) (omega arith) e (omega (arith, c.low))) 3 (Value 1 ∷ Leaves marked ∷ Value (0x4000_0000 + at) ∷ []) (omega arith) (omega (arith, some_behind 0 (d / 8) (I Jalr 0 11 (pos 0))))
        (refl ▸ mark_is ▸ first_is ▸ tt)

  multiple : (q : ℕ) → q * d % 8 ≡ 0
  multiple q =
      let e : d ≡ 8 * (d / 8) = omega (arith, legal_sizes.multiple) in
      let all : q * d ≡ 8 * (q * (d / 8)) = ap (λ y. q * y) e ∙ omega arith in
      omega arith

  by_cell : (cell : Option Cell) → nat_lt q count ≡ true → slice_get mm.cells q ≡ cell → Result (option_and_then (λ cell. Some (q, rest, cell)) cell)
  by_cell None g h = let lt = lt_of q count g in absurd (omega (arith, lt, none_past mm.cells q h))
  by_cell (Some (Chars cs)) g h =
      let back = returns (passes (to_11 (Chars cs) h g) refl (omega arith) refl) refl refl even file in
      (back.0, comes_within image last false 13 24 s _ back.1 (omega arith), back.2, back.3)
  by_cell (Some (Descr e)) g h =
      let cell = Descr e in
      let n = d / 8 in
      let words : 8 * n ≡ d = omega (arith, legal_sizes.multiple) in
      let space = room cell h in
      let r = to_19 cell h g refl in
      let z = zeros c (ws3 cell h) (q * d) (I Jalr 0 11 (pos 0) ∷ []) (omega arith) refl (multiple q) (omega (arith, space, few_bytes sizes mm s.memory holds legal_sizes.most)) n 15 19 0 (marked cell h) r refl (omega (arith, space, words)) (omega (arith, words, legal_sizes.most)) in
      let back = returns z.reaches (first_at (19 + n) (make_code d count) (I Jalr 0 11 (pos 0)) [] z.behind) refl even file in
      let start_is : q * d + 8 * 0 ≡ q * d = omega arith in
      let Way : ℕ → Type 0 = λ p. Comes image last false (15 + n + 1) s (On (record s { pc = register s.registers 11; registers = back.0; memory = record (marked cell h) { cells = zeroed p n s.memory.cells } })) in
      (back.0, comes_within image last false (15 + n + 1) 24 s _ (subst Way start_is back.1) (omega (arith, words, legal_sizes.most)), back.2, back.3)

  by_number : (b : Bool) → nat_lt q count ≡ b → Result (around_in mm.cells (place_by b q rest))
  by_number false g = undefined (branches to_7 13 refl (omega arith) (omega arith) (ap not g) (omega (arith, c.low))) _ refl refl (omega arith) refl few
  by_number true g = by_cell (slice_get mm.cells q) g refl

  pub tested : Result (make_test mm s.registers)
  tested = subst Result (sym (cell_around_is mm d x holds.limit legal_sizes.least legal_sizes.most holds.valid.count (file.small 10))) (by_number (nat_lt q count) refl)

pub makes : LawOfMake
makes image last sizes count place is apart = record {
  free = apart.free place (omega arith) (omega (arith, apart.some));
  low = omega (arith, apart.low);
  even = apart.even;
  runs = λ memory s same at holds file few even. tested sizes (legal sizes is) memory holds (subst (λ n. IsNext image last s (make_code sizes.descr n)) (sym same) (code_at apart s at)) file few even;
}
