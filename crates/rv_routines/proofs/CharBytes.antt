-- Characters in the bytes of their cell: they are read, and written.
use Rattle.std.proofs.Common.{◌≡◌, ◌≢◌, ℕ, zero, suc, ◌+◌, ◌-◌, ◌*◌, ◌/◌, ◌%◌, ◌^◌, ◌<◌, ◌≤◌, inl, inr, List, [], ◌∷◌, ◌++◌, length, take, drop, replicate, Some, refl, sym, ap, subst, ◌∙◌, arith, length-append}
use Rattle.std.specs.Prelude.{ℤ, pos, slice_get, slice_set, All}
use Rattle.std.proofs.lemmas.Bool.{cases_lt}
use Rattle.std.proofs.lemmas.List.{length-replicate, length-take, get_or_past}
use Rattle.std.proofs.lemmas.List.Elements.{All-from_get_or}
use Rattle.std.proofs.lemmas.Option.{slice_get_within}
use Rattle.std.proofs.lemmas.Slice.{drop-append-drop}
use Rattle.sil_base.specs.Bytes.{number, low_bytes, piece, with_piece, AreBytes}
use Rattle.sil_base.specs.declared.places.TheConstants.{FIRST_CELL}
use Rattle.sil_base.proofs.Numbers.{length-with_piece, piece-piece, AreBytes-with_piece}
use Rattle.layout_params.specs.declared.cell.Cell.{Cell}
use Rattle.layout_params.specs.declared.cell.Cell.TheVariants.{Descr, Chars}
use Rattle.layout_params.specs.Sizes.{Sizes}
use Rattle.layout_params.specs.Packing.{PacksDescr}
use Rattle.layout_params.proofs.LegalLayouts.{IsLegal}
use Rattle.sil_model.specs.Memory as abstract
use Rattle.sil_model.specs.Memory.{FitsChars}
use Rattle.sil_model.specs.Access.{with_cell, chars_or_zeros}
use Rattle.sil_model.specs.Start.{zero_cell}
use Rattle.sil_model.specs.declared.limits.Limits.{Limits}
use Rattle.sil_model.proofs.Characters.{bytes_of, zeros_fit, cell_chars_fit}
use Rattle.rv_emulate.specs.EmulatorMemory.{Memory, loaded}
use Rattle.rv_routines.specs.Holds.{HoldsMemory, DifferInCell}
use Rattle.rv_routines.specs.Tests.{made, cleared}
use Rattle.rv_routines.proofs.Regions.{load_cells, piece_one}
use Rattle.rv_routines.proofs.Pieces.{behind}
use Rattle.rv_routines.proofs.Differing.{differ_bytes, differ_same, differ_then, holds_other, piece_here, cell_room}
use Rattle.rv_routines.proofs.Clearing.{differ_cleared, zeros_here, kind_there}
use Rattle.rv_routines.proofs.FieldLoads.{cell_fits}

-- ---- reading

taken_at : (n i : ℕ) (xs : List ℕ) → i < n → slice_get (take n xs) i ≡ slice_get xs i
taken_at zero i xs h = absurd (omega arith)
taken_at (suc n) i [] h = refl
taken_at (suc n) zero (x ∷ xs) h = refl
taken_at (suc n) (suc i) (x ∷ xs) h = taken_at n i xs (omega arith)

module _ (constants : List ℕ) (sizes : Sizes) (l : IsLegal sizes) (mm : abstract.Memory) (m : Memory) (holds : HoldsMemory sizes mm m) (i r : ℕ) (chars : List ℕ) (member : slice_get mm.cells i ≡ Some (Chars chars)) where
  abbrev d : ℕ
  d = sizes.descr

  room : i * d + d ≤ length m.cells
  room = cell_room sizes mm m i holds (slice_get_within mm.cells i (Chars chars) member)

  -- a character of a cell
  pub char_loads : (c : ℕ) → r < d → slice_get chars r ≡ Some c → loaded constants m 1 (FIRST_CELL + (i * d + r)) ≡ Some c
  char_loads c lt is =
      let there : slice_get (take d chars) r ≡ Some c = taken_at d r chars lt ∙ is in
      let bytes : piece r 1 (piece (i * d) d m.cells) ≡ c ∷ [] = ap (λ xs. piece r 1 xs) (holds.packed i (Chars chars) member) ∙ piece_one (take d chars) r c there in
      let value : number (piece (i * d + r) 1 m.cells) ≡ c = ap number (sym (piece-piece (i * d) d r 1 m.cells (omega (arith, lt))) ∙ bytes) ∙ omega arith in
      load_cells constants m 1 (i * d + r) (omega arith) (omega (arith, room, lt)) ∙ ap Some value

  -- a word of it
  pub word_loads : r + 8 ≤ d → (i * d + r) % 8 ≡ 0 → loaded constants m 8 (FIRST_CELL + (i * d + r)) ≡ Some (number (piece r 8 chars))
  word_loads le even =
      let z : 0 + r ≡ r = omega arith in
      let bytes : piece (i * d + r) 8 m.cells ≡ piece r 8 chars =
      sym (piece-piece (i * d) d r 8 m.cells le)
      ∙ ap (λ xs. piece r 8 xs) (holds.packed i (Chars chars) member)
      ∙ piece-piece 0 d r 8 chars le
      ∙ ap (λ at. piece at 8 chars) z in
      load_cells constants m 8 (i * d + r) (omega (arith, even)) (omega (arith, room, le)) ∙ ap (λ xs. Some (number xs)) bytes

-- ---- writing

pub piece_fits : (limits : Limits) (chars new : List ℕ) (r : ℕ) → limits.cell_size ≤ 64 → FitsChars limits chars → r + length new ≤ limits.cell_size → AreBytes new → FitsChars limits (with_piece r new chars)
piece_fits limits chars new r most fits room small =
    let inside : r + length new ≤ length chars = omega (arith, fits.size, most) in
    let front : length (take r chars ++ new) ≡ r + length new = omega (arith, length-append (take r chars) new, length-take r chars) in
    record {
      size = length-with_piece r new chars inside ∙ fits.size;
      bytes = All-from_get_or (λ c. c < 256) (with_piece r new chars) 0 (λ j lt. AreBytes-with_piece r new chars small (bytes_of chars fits.bytes) j);
      rest = drop-append-drop (r + length new) chars (take r chars ++ new) limits.cell_size room front ∙ fits.rest;
    }

-- the i-th cell has these characters, and all others are as they were
pub record IsMade (d i : ℕ) (m after : Memory) (chars : List ℕ) : Type 0 where
  pub differ : DifferInCell d i m after
  pub bytes : piece (i * d) d after.cells ≡ take d chars
  pub kind : slice_get after.kinds i ≡ Some 1

-- bytes are written among them
pub chars_put : (sizes : Sizes) (mm : abstract.Memory) (m after : Memory) (i r : ℕ) (chars new : List ℕ) → HoldsMemory sizes mm m → i < length mm.cells → FitsChars mm.limits chars → IsMade sizes.descr i m after chars → AreBytes new → r + length new ≤ sizes.descr → HoldsMemory sizes (with_cell mm i (Chars (with_piece r new chars))) (record after { cells = with_piece (i * sizes.descr + r) new after.cells })
chars_put sizes mm m after i r chars new holds within fits is small part =
    let d = sizes.descr in
    let wrote = record after { cells = with_piece (i * d + r) new after.cells } in
    let room : i * d + d ≤ length after.cells = omega (arith, cell_room sizes mm m i holds within, is.differ.size) in
    let same : mm.limits.cell_size ≡ d = holds.limit in
    let long : d ≤ length chars = omega (arith, fits.size, holds.valid.limits.most) in
    let packed : piece (i * d) d wrote.cells ≡ take d (with_piece r new chars) = piece_here d i r new after.cells part room ∙ ap (λ xs. with_piece r new xs) is.bytes ∙ sym (behind r d new chars part long) in
    holds_other sizes mm m wrote i (Chars (with_piece r new chars)) holds within (piece_fits mm.limits chars new r holds.valid.limits.most fits (omega (arith, part)) small) (differ_then d i m after wrote is.differ (differ_bytes d i r new after part room small)) packed is.kind

-- ---- cells of zeros

take_zeros : (d n : ℕ) → d ≤ n → take {A = ℕ} d (replicate n 0) ≡ replicate d 0
take_zeros zero n h = refl
take_zeros (suc d) zero h = absurd (omega arith)
take_zeros (suc d) (suc n) h = ap (λ xs. 0 ∷ xs) (take_zeros d n (omega arith))

zeros_number : (d at n : ℕ) → number (take {A = ℕ} n (drop at (replicate d 0))) ≡ 0
zeros_number zero zero zero = refl
zeros_number zero zero (suc n) = refl
zeros_number zero (suc at) zero = refl
zeros_number zero (suc at) (suc n) = refl
zeros_number (suc d) zero zero = refl
zeros_number (suc d) zero (suc n) = omega (arith, zeros_number d zero n)
zeros_number (suc d) (suc at) n = zeros_number d at n

module _ (sizes : Sizes) (l : IsLegal sizes) (mm : abstract.Memory) (m : Memory) (holds : HoldsMemory sizes mm m) (i : ℕ) (within : i < length mm.cells) where
  abbrev size : ℕ
  size = sizes.descr

  space : i * size + size ≤ length m.cells
  space = cell_room sizes mm m i holds within

  here : i < length m.kinds
  here = omega (arith, within, holds.kinds_size)

  -- as characters
  pub cleared_is : IsMade size i m (cleared size i 1 m) (replicate 64 0)
  cleared_is = record {
    differ = differ_cleared size i 1 m l.multiple space here (omega arith);
    bytes = zeros_here size i 1 m l.multiple space here (omega arith) ∙ sym (take_zeros size 64 l.most);
    kind = kind_there size i 1 m l.multiple space here (omega arith);
  }

  pub holds_blank : HoldsMemory sizes (with_cell mm i (Chars (replicate 64 0))) (cleared size i 1 m)
  holds_blank = holds_other sizes mm m (cleared size i 1 m) i (Chars (replicate 64 0)) holds within (zeros_fit mm.limits holds.valid.limits) cleared_is.differ cleared_is.bytes cleared_is.kind

  -- as a descriptor
  zeros_packed : PacksDescr sizes (record { a = pos 0; f = 0; v = 0 }) (replicate size 0)
  zeros_packed = record { size = length-replicate {A = ℕ} size 0; a = zeros_number size sizes.a_at 8; f = zeros_number size sizes.f_at sizes.f_len; v = zeros_number size sizes.v_at sizes.v_len }

  pub holds_zero : HoldsMemory sizes (with_cell mm i zero_cell) (cleared size i 0 m)
  holds_zero =
      let packed = subst (λ bytes. PacksDescr sizes (record { a = pos 0; f = 0; v = 0 }) bytes) (sym (zeros_here size i 0 m l.multiple space here (omega arith))) zeros_packed in
      holds_other sizes mm m (cleared size i 0 m) i zero_cell holds within (record { sfits = omega arith }, omega arith, omega arith) (differ_cleared size i 0 m l.multiple space here (omega arith)) packed (kind_there size i 0 m l.multiple space here (omega arith))

  -- what the routine leaves that makes characters
  pub made_is : (r : ℕ) (cell : Cell) → slice_get mm.cells i ≡ Some cell → IsMade size i m (made size m (i, r, cell)) (chars_or_zeros cell)
  made_is r (Descr e) member = cleared_is
  made_is r (Chars chars) member = record { differ = differ_same size i m; bytes = holds.packed i (Chars chars) member; kind = holds.kinds i (Chars chars) member }

  pub made_fits : (cell : Cell) → slice_get mm.cells i ≡ Some cell → FitsChars mm.limits (chars_or_zeros cell)
  made_fits cell member = cell_chars_fit mm.limits cell holds.valid.limits (cell_fits mm i cell holds.valid member)
