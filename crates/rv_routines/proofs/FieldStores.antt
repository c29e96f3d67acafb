-- Fields of descriptors in memory are written.
use Rattle.std.proofs.Common.{◌≡◌, ℕ, suc, ◌+◌, ◌-◌, ◌*◌, ◌^◌, ◌<◌, ◌≤◌, ◌⊎◌, inl, inr, List, length, Some, None, false, cond, min, refl, sym, ap, subst, ◌∙◌, arith}
use Rattle.std.specs.Prelude.{ℤ, pos, negsuc, nat_lt, nat_le, IsTrue, FitsSigned}
use Rattle.std.specs.Int.{w64, cast_unsigned}
use Rattle.std.proofs.Math.Nat.{pow-le-pow_right}
use Rattle.sil_base.specs.Bytes.{low_bytes, piece, with_piece}
use Rattle.sil_base.proofs.Numbers.{length-low_bytes, low_bytes_below}
use Rattle.layout_params.specs.declared.cell.Descr.{Descr as Descriptor}
use Rattle.layout_params.specs.declared.cell.Cell.TheVariants.{Descr}
use Rattle.layout_params.specs.declared.cell.Field.{Field}
use Rattle.layout_params.specs.declared.cell.Field.TheVariants.{A, F, V}
use Rattle.layout_params.specs.Sizes.{Sizes, is_legal, flag_limit, value_limit}
use Rattle.layout_params.specs.Packing.{place_of, width_of, PacksDescr}
use Rattle.layout_params.proofs.LegalLayouts.{IsLegal, legal, flag_limit_below, value_limit_below}
use Rattle.layout_params.proofs.PackingLemmas.{a-written, f-written, v-written}
use Rattle.sil_model.specs.declared.limits.Limits.{Limits}
use Rattle.sil_model.specs.Integers.{within}
use Rattle.sil_model.specs.Memory as abstract
use Rattle.sil_model.specs.Memory.{FitsDescr}
use Rattle.sil_model.specs.Access.{with_cell}
use Rattle.rv_emulate.specs.EmulatorMemory.{Memory, stored}
use Rattle.rv_emulate.specs.InstrValues.{sum64, s_width}
use Rattle.rv_routines.specs.FieldCodes.{bits_of, store_op}
use Rattle.rv_routines.specs.Holds.{HoldsMemory}
use Rattle.rv_routines.proofs.Cells.{IsPlace, few_bytes}
use Rattle.rv_routines.proofs.Regions.{store_cells}
use Rattle.rv_routines.proofs.Differing.{differ_bytes, holds_other, piece_here}
use Rattle.rv_routines.proofs.FieldPlaces.{IsSpan, span, aligned_at}
use Rattle.rv_routines.proofs.FieldLoads.{cell_fits}

-- ---- what fits

-- the numbers of a field's bits are those up to its limit
flag_bits : (sizes : Sizes) → IsTrue (is_legal sizes) → 2 ^ bits_of sizes F ≡ flag_limit sizes + 1
flag_bits sizes h =
    let P : ℕ → Type 0 = λ n. 2 ^ (8 * n) ≡ 2 ^ (8 * n) - 1 + 1 in
    elim (legal sizes h).f_width [ inl e ↦ subst P (sym e) refl | inr (inl e) ↦ subst P (sym e) refl | inr (inr e) ↦ subst P (sym e) refl ]

value_bits : (sizes : Sizes) → IsTrue (is_legal sizes) → 2 ^ bits_of sizes V ≡ value_limit sizes + 1
value_bits sizes h =
    let P : ℕ → Type 0 = λ n. 2 ^ min (8 * n) 48 ≡ min (2 ^ (8 * n)) (2 ^ 48) - 1 + 1 in
    elim (legal sizes h).v_width [ inl e ↦ subst P (sym e) refl | inr (inl e) ↦ subst P (sym e) refl | inr (inr e) ↦ subst P (sym e) refl ]

-- the field that is set, where the integer's bits are few enough
abbrev pub set_field : Field → ℤ → Descriptor → Descriptor
set_field A z d = record { a = z; f = d.f; v = d.v }
set_field F z d = record { a = d.a; f = cast_unsigned w64 z; v = d.v }
set_field V z d = record { a = d.a; f = d.f; v = cast_unsigned w64 z }

-- an integer is within a limit where its bits are few enough
small_is : (n limit top : ℕ) → top ≡ limit + 1 → nat_lt n top ≡ nat_le n limit
small_is n limit top e = grind arith

beyond : (n top : ℕ) → FitsSigned w64 (negsuc n) → top ≤ 2 ^ 48 → nat_lt (2 ^ 64 - suc n) top ≡ false
beyond n top h le = grind arith

within_is : (limit top : ℕ) (z : ℤ) → top ≡ limit + 1 → top ≤ 2 ^ 48 → FitsSigned w64 z → within limit z ≡ cond (nat_lt (cast_unsigned w64 z) top) (Some (cast_unsigned w64 z)) None
unfolding within
within_is limit top (pos n) e le small = ap (λ b. cond b (Some n) None) (sym (small_is n limit top e))
within_is limit top (negsuc n) e le small = ap (λ b. cond b (Some (2 ^ 64 - suc n)) None) (sym (beyond n top small le))

pub flag_within : (sizes : Sizes) (limit : ℕ) (z : ℤ) → IsTrue (is_legal sizes) → limit ≡ flag_limit sizes → FitsSigned w64 z → within limit z ≡ cond (nat_lt (cast_unsigned w64 z) (2 ^ bits_of sizes F)) (Some (cast_unsigned w64 z)) None
flag_within sizes limit z h e small = within_is limit (2 ^ bits_of sizes F) z (flag_bits sizes h ∙ ap (λ l. l + 1) (sym e)) (omega (arith, flag_bits sizes h, flag_limit_below sizes h)) small

pub value_within : (sizes : Sizes) (limit : ℕ) (z : ℤ) → IsTrue (is_legal sizes) → limit ≡ value_limit sizes → FitsSigned w64 z → within limit z ≡ cond (nat_lt (cast_unsigned w64 z) (2 ^ bits_of sizes V)) (Some (cast_unsigned w64 z)) None
value_within sizes limit z h e small = within_is limit (2 ^ bits_of sizes V) z (value_bits sizes h ∙ ap (λ l. l + 1) (sym e)) (omega (arith, value_bits sizes h, value_limit_below sizes h)) small

-- what has a field's bits is within its limit
pub small_flag : (sizes : Sizes) (n limit : ℕ) → IsTrue (is_legal sizes) → limit ≡ flag_limit sizes → n < 2 ^ bits_of sizes F → n ≤ limit
small_flag sizes n limit h e lt = omega (arith, flag_bits sizes h, e, lt)

pub small_value : (sizes : Sizes) (n limit : ℕ) → IsTrue (is_legal sizes) → limit ≡ value_limit sizes → n < 2 ^ bits_of sizes V → n ≤ limit
small_value sizes n limit h e lt = omega (arith, value_bits sizes h, e, lt)

-- a V field has room for its bits
pub value_room : (sizes : Sizes) (n : ℕ) → n < 2 ^ bits_of sizes V → n < 2 ^ (8 * sizes.v_len)
value_room sizes n lt =
    let le : 2 ^ min (8 * sizes.v_len) 48 ≤ 2 ^ (8 * sizes.v_len) = pow-le-pow_right (omega arith) (min_le (8 * sizes.v_len)) in
    omega (arith, lt, le)
  where
    min_le : (n : ℕ) → min n 48 ≤ n
    min_le n = omega arith

-- the new descriptor fits, and its bytes are the old ones with the field written
set_fits : (limits : Limits) (f : Field) (z : ℤ) (d : Descriptor) → FitsSigned w64 z → FitsDescr limits d → (f ≡ F → cast_unsigned w64 z ≤ limits.flag_limit) → (f ≡ V → cast_unsigned w64 z ≤ limits.value_limit) → FitsDescr limits (set_field f z d)
set_fits limits A z d small fit p q = (small, fit.1, fit.2)
set_fits limits F z d small fit p q = (fit.0, p refl, fit.2)
set_fits limits V z d small fit p q = (fit.0, fit.1, q refl)

packs : (sizes : Sizes) (f : Field) (z : ℤ) (d : Descriptor) (bytes : List ℕ) → IsTrue (is_legal sizes) → FitsSigned w64 z → cast_unsigned w64 z < 2 ^ bits_of sizes f → PacksDescr sizes d bytes → PacksDescr sizes (set_field f z d) (with_piece (place_of sizes f) (low_bytes (width_of sizes f) (cast_unsigned w64 z)) bytes)
packs sizes A z d bytes h small lt old = a-written sizes d bytes z h small old
packs sizes F z d bytes h small lt old = f-written sizes d bytes (cast_unsigned w64 z) h lt old
packs sizes V z d bytes h small lt old = v-written sizes d bytes (cast_unsigned w64 z) h (value_room sizes (cast_unsigned w64 z) lt) old

-- ---- the store

pub width_of_op : (n : ℕ) → (n ≡ 1) ⊎ (n ≡ 2) ⊎ (n ≡ 4) ⊎ (n ≡ 8) → s_width (store_op n) ≡ n
width_of_op n w =
    let P : ℕ → Type 0 = λ j. s_width (store_op j) ≡ j in
    elim w [ inl e ↦ subst P (sym e) refl | inr (inl e) ↦ subst P (sym e) refl | inr (inr (inl e)) ↦ subst P (sym e) refl | inr (inr (inr e)) ↦ subst P (sym e) refl ]

-- n bytes at a place of the i-th cell
pub store_span : (sizes : Sizes) (l : IsLegal sizes) (m : Memory) (x i off n y : ℕ) → IsSpan sizes off n → x ≡ 0x4000_0000 + i * sizes.descr → i * sizes.descr + sizes.descr ≤ length m.cells → length m.cells ≤ 2 ^ 26 → stored m (s_width (store_op n)) (sum64 x off) y ≡ Some (record m { cells = with_piece (i * sizes.descr + off) (low_bytes n y) m.cells })
store_span sizes l m x i off n y sp address room few =
    let place : sum64 x off ≡ 0x4000_0000 + (i * sizes.descr + off) = omega (arith, address, room, sp.within, few, l.most) in
    let even = aligned_at i sizes.descr off n sp.width l.multiple sp.aligned in
    rw (width_of_op n sp.width, place) (store_cells m n (i * sizes.descr + off) y even (omega (arith, room, sp.within)))

module _ (sizes : Sizes) (h : IsTrue (is_legal sizes)) (f : Field) (z : ℤ) (small : FitsSigned w64 z) (lt : cast_unsigned w64 z < 2 ^ bits_of sizes f) (mm : abstract.Memory) (m : Memory) (holds : HoldsMemory sizes mm m) (x i : ℕ) (d : Descriptor) (at : IsPlace mm sizes.descr x d i) where
  abbrev y : ℕ
  y = cast_unsigned w64 z

  abbrev pub new_memory : Memory
  new_memory = record m { cells = with_piece (i * sizes.descr + place_of sizes f) (low_bytes (width_of sizes f) y) m.cells }

  pub stores : stored m (s_width (store_op (width_of sizes f))) (sum64 x (place_of sizes f)) y ≡ Some new_memory
  stores =
      let l = legal sizes h in
      store_span sizes l m x i (place_of sizes f) (width_of sizes f) y (span sizes f l) at.address (omega (arith, at.inside, holds.size)) (few_bytes sizes mm m holds l.most)

  pub holds_new : HoldsMemory sizes (with_cell mm i (Descr (set_field f z d))) new_memory
  holds_new =
      let l = legal sizes h in
      let long = length-low_bytes (width_of sizes f) y in
      let part : place_of sizes f + length (low_bytes (width_of sizes f) y) ≤ sizes.descr = omega (arith, long, (span sizes f l).within) in
      let fit = set_fits mm.limits f z d small (cell_fits mm i (Descr d) holds.valid at.member) flags values in
      let packed = packs sizes f z d (piece (i * sizes.descr) sizes.descr m.cells) h small lt (holds.packed i (Descr d) at.member) in
      let room : i * sizes.descr + sizes.descr ≤ length m.cells = omega (arith, at.inside, holds.size) in
      let new = low_bytes (width_of sizes f) y in
      let differ = differ_bytes sizes.descr i (place_of sizes f) new m part room (low_bytes_below (width_of sizes f) y) in
      let here = piece_here sizes.descr i (place_of sizes f) new m.cells part room in
      holds_other sizes mm m new_memory i (Descr (set_field f z d)) holds at.within fit differ (subst (PacksDescr sizes (set_field f z d)) (sym here) packed) (holds.kinds i (Descr d) at.member)
    where
      flags : f ≡ F → y ≤ mm.limits.flag_limit
      flags e = let lt' : y < 2 ^ bits_of sizes F = subst (λ g. y < 2 ^ bits_of sizes g) e lt in omega (arith, flag_bits sizes h, holds.flags)

      values : f ≡ V → y ≤ mm.limits.value_limit
      values e = let lt' : y < 2 ^ bits_of sizes V = subst (λ g. y < 2 ^ bits_of sizes g) e lt in omega (arith, value_bits sizes h, holds.values)
