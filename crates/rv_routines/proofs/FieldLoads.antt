-- Fields of descriptors in memory are read.
use Rattle.std.proofs.Common.{◌≡◌, ℕ, ◌+◌, ◌*◌, ◌^◌, ◌≤◌, List, length, Some, sym, ap, subst, ◌∙◌, arith}
use Rattle.std.specs.Prelude.{slice_get, FitsSigned}
use Rattle.std.specs.Int.{w64, cast_unsigned}
use Rattle.std.proofs.lemmas.Option.{get_or_from_slice_get, slice_get_within}
use Rattle.sil_base.specs.Bytes.{number, piece}
use Rattle.sil_base.proofs.Numbers.{piece-piece}
use Rattle.layout_params.specs.declared.cell.Descr.{Descr as Descriptor}
use Rattle.layout_params.specs.declared.cell.Cell.{Cell}
use Rattle.layout_params.specs.declared.cell.Cell.TheVariants.{Descr}
use Rattle.layout_params.specs.declared.cell.Field.{Field}
use Rattle.layout_params.specs.declared.cell.Field.TheVariants.{A, F, V}
use Rattle.layout_params.specs.Sizes.{Sizes}
use Rattle.layout_params.specs.Packing.{place_of, width_of, PacksDescr}
use Rattle.layout_params.proofs.LegalLayouts.{IsLegal}
use Rattle.sil_model.specs.Memory as abstract
use Rattle.sil_model.specs.Memory.{FitsCell, FitsDescr}
use Rattle.sil_model.specs.Access.{field_of}
use Rattle.rv_emulate.specs.EmulatorMemory.{Memory, loaded}
use Rattle.rv_emulate.specs.InstrValues.{sum64}
use Rattle.rv_routines.specs.Holds.{HoldsMemory}
use Rattle.rv_routines.proofs.Cells.{IsPlace}
use Rattle.rv_routines.proofs.Regions.{load_cells}
use Rattle.rv_routines.proofs.FieldPlaces.{span, aligned_at}

-- a cell fits
pub cell_fits : (m : abstract.Memory) (i : ℕ) (cell : Cell) → abstract.IsMemory m → slice_get m.cells i ≡ Some cell → FitsCell m.limits cell
cell_fits m i cell h is = subst (FitsCell m.limits) (get_or_from_slice_get m.cells i cell cell is) (h.fit i cell (slice_get_within m.cells i cell is))

pub field_fits : (m : abstract.Memory) (f : Field) (e : Descriptor) → abstract.IsMemory m → FitsDescr m.limits e → FitsSigned w64 (field_of e f)
field_fits m A e h fit = fit.0
field_fits m F e h fit = omega (arith, fit.1, h.limits.flags)
field_fits m V e h fit = omega (arith, fit.2, h.limits.values)

-- its bytes are the field's
field_bytes : (sizes : Sizes) (f : Field) (e : Descriptor) (bytes : List ℕ) → PacksDescr sizes e bytes → number (piece (place_of sizes f) (width_of sizes f) bytes) ≡ cast_unsigned w64 (field_of e f)
field_bytes sizes A e bytes h = h.a
field_bytes sizes F e bytes h = h.f
field_bytes sizes V e bytes h = h.v

-- a load of the field at the address of a descriptor
pub field_loads : (constants : List ℕ) (sizes : Sizes) (f : Field) (mm : abstract.Memory) (m : Memory) (x i : ℕ) (e : Descriptor) → IsLegal sizes → HoldsMemory sizes mm m → length m.cells ≤ 2 ^ 26 → IsPlace mm sizes.descr x e i → loaded constants m (width_of sizes f) (sum64 x (place_of sizes f)) ≡ Some (cast_unsigned w64 (field_of e f))
field_loads constants sizes f mm m x i e h holds few at =
    let sp = span sizes f h in
    let off = place_of sizes f in
    let n = width_of sizes f in
    let place : sum64 x off ≡ 0x4000_0000 + (i * sizes.descr + off) = omega (arith, at.address, at.inside, sp.within, holds.size, h.most) in
    let even = aligned_at i sizes.descr off n sp.width h.multiple sp.aligned in
    let load = load_cells constants m n (i * sizes.descr + off) even (omega (arith, at.inside, sp.within, holds.size)) in
    let value : number (piece (i * sizes.descr + off) n m.cells) ≡ cast_unsigned w64 (field_of e f) = sym (ap number (piece-piece (i * sizes.descr) sizes.descr off n m.cells sp.within)) ∙ field_bytes sizes f e (piece (i * sizes.descr) sizes.descr m.cells) (holds.packed i (Descr e) at.member) in
    rw place (load ∙ ap Some value)
