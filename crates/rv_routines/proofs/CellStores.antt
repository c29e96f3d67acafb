-- A cell is written whole: its kind first, then its three fields.
use Rattle.std.proofs.Common.{◌≡◌, ℕ, ◌+◌, ◌*◌, ◌^◌, ◌<◌, ◌≤◌, List, length, sym, ap, subst, ◌∙◌, arith}
use Rattle.std.specs.Prelude.{ℤ, slice_get, slice_set, IsTrue, FitsSigned}
use Rattle.std.specs.Int.{w64, cast_unsigned}
use Rattle.std.proofs.lemmas.Nat.{mul-le}
use Rattle.sil_base.specs.Bytes.{number, low_bytes, piece, with_piece}
use Rattle.sil_base.proofs.Numbers.{length-low_bytes, length-with_piece, low_bytes_below, length-piece, number_below, AreBytes-piece}
use Rattle.layout_params.specs.declared.cell.Descr.{Descr as Descriptor}
use Rattle.layout_params.specs.declared.cell.Cell.TheVariants.{Descr}
use Rattle.layout_params.specs.declared.cell.Field.TheVariants.{F, V}
use Rattle.layout_params.specs.Sizes.{Sizes, is_legal}
use Rattle.layout_params.specs.Packing.{PacksDescr, fields_of}
use Rattle.layout_params.proofs.LegalLayouts.{IsLegal, legal}
use Rattle.layout_params.proofs.PackingLemmas.{a-written, f-written, v-written, fields_of-packed}
use Rattle.sil_model.specs.Memory as abstract
use Rattle.sil_model.specs.Memory.{FitsDescr}
use Rattle.sil_model.specs.Access.{with_cell}
use Rattle.rv_emulate.specs.EmulatorMemory.{Memory}
use Rattle.rv_routines.specs.FieldCodes.{bits_of}
use Rattle.rv_routines.specs.Holds.{HoldsMemory, DifferInCell}
use Rattle.rv_routines.specs.Tests.{opened}
use Rattle.rv_routines.proofs.Pieces.{kind_written, kind_here}
use Rattle.rv_routines.proofs.Differing.{differ_bytes, differ_kind, differ_then, holds_other, piece_here}
use Rattle.rv_routines.proofs.FieldStores.{value_room}

module _ (sizes : Sizes) (h : IsTrue (is_legal sizes)) (mm : abstract.Memory) (m : Memory) (holds : HoldsMemory sizes mm m) (i : ℕ) (within : i < length mm.cells) (a : ℤ) (f v : ℕ) (a_fits : FitsSigned w64 a) (f_fits : f < 2 ^ bits_of sizes F) (v_fits : v < 2 ^ bits_of sizes V) where
  abbrev l : IsLegal sizes
  l = legal sizes h

  abbrev d : ℕ
  d = sizes.descr

  abbrev ab : List ℕ
  ab = low_bytes 8 (cast_unsigned w64 a)

  abbrev fb : List ℕ
  fb = low_bytes sizes.f_len f

  abbrev vb : List ℕ
  vb = low_bytes sizes.v_len v

  abbrev pub m0 : Memory
  m0 = opened m i

  abbrev pub m1 : Memory
  m1 = record m0 { cells = with_piece (i * d + sizes.a_at) ab m0.cells }

  abbrev pub m2 : Memory
  m2 = record m1 { cells = with_piece (i * d + sizes.f_at) fb m1.cells }

  abbrev pub m3 : Memory
  m3 = record m2 { cells = with_piece (i * d + sizes.v_at) vb m2.cells }

  pub room : i * d + d ≤ length m.cells
  room = let all : (i + 1) * d ≤ length mm.cells * d = mul-le (i + 1) d (length mm.cells) d (omega arith) (omega arith) in omega (arith, holds.size)

  abbrev new : Descriptor
  new = record { a = a; f = f; v = v }

  part : (at n y : ℕ) → at + n ≤ d → at + length (low_bytes n y) ≤ d
  part at n y h = omega (arith, length-low_bytes n y)

  pub size1 : length m1.cells ≡ length m.cells
  size1 = length-with_piece (i * d + sizes.a_at) ab m.cells (omega (arith, room, part sizes.a_at 8 (cast_unsigned w64 a) l.a_within))

  pub size2 : length m2.cells ≡ length m.cells
  size2 = length-with_piece (i * d + sizes.f_at) fb m1.cells (omega (arith, room, size1, part sizes.f_at sizes.f_len f l.f_within)) ∙ size1

  d1 : DifferInCell d i m m1
  d1 = differ_then d i m m0 m1 (differ_kind d i 0 m (omega (arith, within, holds.kinds_size)) (omega arith)) (differ_bytes d i sizes.a_at ab m0 (part sizes.a_at 8 (cast_unsigned w64 a) l.a_within) room (low_bytes_below 8 (cast_unsigned w64 a)))

  d2 : DifferInCell d i m m2
  d2 = differ_then d i m m1 m2 d1 (differ_bytes d i sizes.f_at fb m1 (part sizes.f_at sizes.f_len f l.f_within) (omega (arith, room, size1)) (low_bytes_below sizes.f_len f))

  d3 : DifferInCell d i m m3
  d3 = differ_then d i m m2 m3 d2 (differ_bytes d i sizes.v_at vb m2 (part sizes.v_at sizes.v_len v l.v_within) (omega (arith, room, size2)) (low_bytes_below sizes.v_len v))

  abbrev old : List ℕ
  old = piece (i * d) d m.cells

  packed : PacksDescr sizes new (piece (i * d) d m3.cells)
  packed =
      let long : length old ≡ d = length-piece (i * d) d m.cells room in
      let eight : length (piece sizes.a_at 8 old) ≡ 8 = length-piece sizes.a_at 8 old (omega (arith, long, l.a_within)) in
      let below = number_below (piece sizes.a_at 8 old) (AreBytes-piece sizes.a_at 8 old (AreBytes-piece (i * d) d m.cells holds.bytes.cells)) in
      let few : number (piece sizes.a_at 8 old) < 2 ^ 64 = subst (λ n. number (piece sizes.a_at 8 old) < 256 ^ n) eight below in
      let p1 = a-written sizes (fields_of sizes old) old a h a_fits (fields_of-packed sizes old long few) in
      let p2 = f-written sizes _ (with_piece sizes.a_at ab old) f h f_fits p1 in
      let p3 = v-written sizes _ (with_piece sizes.f_at fb (with_piece sizes.a_at ab old)) v h (value_room sizes v v_fits) p2 in
      let here1 = piece_here d i sizes.a_at ab m.cells (part sizes.a_at 8 (cast_unsigned w64 a) l.a_within) room in
      let here2 = piece_here d i sizes.f_at fb m1.cells (part sizes.f_at sizes.f_len f l.f_within) (omega (arith, room, size1)) in
      let here3 = piece_here d i sizes.v_at vb m2.cells (part sizes.v_at sizes.v_len v l.v_within) (omega (arith, room, size2)) in
      let same = here3 ∙ ap (λ xs. with_piece sizes.v_at vb xs) (here2 ∙ ap (λ xs. with_piece sizes.f_at fb xs) here1) in
      subst (PacksDescr sizes new) (sym same) p3

  pub holds_cell : FitsDescr mm.limits new → HoldsMemory sizes (with_cell mm i (Descr new)) m3
  holds_cell fit =
      let here : i < length m.kinds = omega (arith, within, holds.kinds_size) in
      let kinds : m3.kinds ≡ slice_set m.kinds i 0 = kind_written i 0 m.kinds here (omega arith) in
      holds_other sizes mm m m3 i (Descr new) holds within fit d3 packed (ap (λ ks. slice_get ks i) kinds ∙ kind_here i 0 m.kinds here)
