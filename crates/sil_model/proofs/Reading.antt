-- What was written is read.
use Rattle.std.proofs.Common.{◌≡◌, ◌≢◌, ℕ, ◌∙◌, List, Option, Some, None, ℤ, refl, sym, ap, subst, arith}
use Rattle.std.specs.Prelude.{slice_get, slice_set}
use Rattle.std.proofs.lemmas.Option.{same_Some}
use Rattle.layout_params.specs.declared.cell.Cell.{Cell}
use Rattle.layout_params.specs.declared.cell.Cell.TheVariants.{Descr}
use Rattle.layout_params.specs.declared.cell.Descr.{Descr as Descriptor}
use Rattle.layout_params.specs.declared.cell.Field.{Field}
use Rattle.layout_params.specs.declared.cell.Field.TheVariants.{A, F, V}
use Rattle.sil_model.specs.Memory.{Memory}
use Rattle.sil_model.specs.Access.{◌>>=◌, cell_number, cell_at, with_cell, with_cells, put_cell, set_cell_at, descr_of, descr_at, set_descr_at, field_of, field_at, set_field_at}
use Rattle.sil_model.proofs.Keeps.{within_limit}
use Rattle.sil_model.proofs.Places.{set_here, number_there, same_number}

-- what was found of a value that is there
pub from_read : {A B : Type 0} (o : Option A) (f : A → Option B) (b : B) → (o >>= f) ≡ Some b → (a : A) × (o ≡ Some a) × (f a ≡ Some b)
from_read None f b is = absurd (grind (arith, is))
from_read (Some a) f b is = (a, refl, is)

pub from_cells : (m m' : Memory) (cells : List Cell) → Some (record m { cells = cells }) ≡ Some m' → record m { cells = cells } ≡ m'
from_cells m m' cells is = same_Some _ _ is

-- ---- cells

cell_here : (m : Memory) (at : ℤ) (i : ℕ) (cell : Cell) → cell_number m at ≡ Some i → cell_at (with_cell m i cell) at ≡ Some cell
unfolding cell_at
cell_here m at i cell is =
    ap (λ o. o >>= (λ j. slice_get (slice_set m.cells i cell) j)) (same_number m i cell at ∙ is) ∙ set_here m.cells i cell (number_there m at i is)

-- the number of the cell that was written, and the memory after
pub from_set_cell : (m m' : Memory) (at : ℤ) (cell : Cell) → set_cell_at m at cell ≡ Some m' → (i : ℕ) × (cell_number m at ≡ Some i) × (with_cell m i cell ≡ m')
unfolding put_cell
from_set_cell m m' at cell is = go (cell_number m at) is
  where
    go : (o : Option ℕ) → with_cells m (o >>= (λ i. Some (slice_set m.cells i cell))) ≡ Some m' → (i : ℕ) × (o ≡ Some i) × (with_cell m i cell ≡ m')
    go None is = absurd (grind (arith, is))
    go (Some i) is = (i, refl, same_Some _ _ is)

pub cell_read : (m m' : Memory) (at : ℤ) (cell : Cell) → set_cell_at m at cell ≡ Some m' → cell_at m' at ≡ Some cell
cell_read m m' at cell is =
    let found = from_set_cell m m' at cell is in
    subst (λ n. cell_at n at ≡ Some cell) found.2 (cell_here m at found.0 cell found.1)

pub descr_read : (m m' : Memory) (at : ℤ) (d : Descriptor) → set_descr_at m at d ≡ Some m' → descr_at m' at ≡ Some d
unfolding descr_at
descr_read m m' at d is = ap (λ o. o >>= descr_of) (cell_read m m' at (Descr d) is)

-- ---- fields

-- the descriptor before a field was written
pub from_descr : {B : Type 0} (m : Memory) (at : ℤ) (f : Descriptor → Option B) (b : B) → (descr_at m at >>= f) ≡ Some b → (d : Descriptor) × (descr_at m at ≡ Some d) × (f d ≡ Some b)
from_descr m at f b is = from_read (descr_at m at) f b is

field_is : (m : Memory) (at : ℤ) (field : Field) (d : Descriptor) → descr_at m at ≡ Some d → field_at m at field ≡ Some (field_of d field)
field_is m at field d is = ap (λ o. o >>= (λ e. Some (field_of e field))) is

-- what a field's write leaves
pub from_set_field : (m m' : Memory) (at : ℤ) (field : Field) (x : ℤ) → set_field_at m at field x ≡ Some m' →
    (d e : Descriptor) × (descr_at m at ≡ Some d) × (descr_at m' at ≡ Some e) × (field_of e field ≡ x) × ((other : Field) → other ≢ field → field_of e other ≡ field_of d other)
from_set_field m m' at A x is =
    let found = from_descr m at _ m' is in
    let new = record found.0 { a = x } in
    (found.0, new, found.1, descr_read m m' at new found.2, refl, λ other ne. others found.0 other ne)
  where
    others : (d : Descriptor) (other : Field) → other ≢ A → field_of (record d { a = x }) other ≡ field_of d other
    others d A ne = absurd (ne refl)
    others d F ne = refl
    others d V ne = refl
from_set_field m m' at F x is =
    let found = from_descr m at _ m' is in
    let fits = from_read _ _ m' found.2 in
    let new = record found.0 { f = fits.0 } in
    (found.0, new, found.1, descr_read m m' at new fits.2, sym (within_limit m.limits.flag_limit x fits.0 fits.1).1, λ other ne. others found.0 fits.0 other ne)
  where
    others : (d : Descriptor) (f : ℕ) (other : Field) → other ≢ F → field_of (record d { f = f }) other ≡ field_of d other
    others d f A ne = refl
    others d f F ne = absurd (ne refl)
    others d f V ne = refl
from_set_field m m' at V x is =
    let found = from_descr m at _ m' is in
    let fits = from_read _ _ m' found.2 in
    let new = record found.0 { v = fits.0 } in
    (found.0, new, found.1, descr_read m m' at new fits.2, sym (within_limit m.limits.value_limit x fits.0 fits.1).1, λ other ne. others found.0 fits.0 other ne)
  where
    others : (d : Descriptor) (v : ℕ) (other : Field) → other ≢ V → field_of (record d { v = v }) other ≡ field_of d other
    others d v A ne = refl
    others d v F ne = refl
    others d v V ne = absurd (ne refl)

pub field_read : (m m' : Memory) (at : ℤ) (field : Field) (x : ℤ) → set_field_at m at field x ≡ Some m' → field_at m' at field ≡ Some x
field_read m m' at field x is =
    let left = from_set_field m m' at field x is in
    field_is m' at field left.1 left.3 ∙ ap Some left.4

pub fields_stay : (m m' : Memory) (at : ℤ) (field other : Field) (x : ℤ) → set_field_at m at field x ≡ Some m' → other ≢ field → field_at m' at other ≡ field_at m at other
fields_stay m m' at field other x is ne =
    let left = from_set_field m m' at field x is in
    field_is m' at other left.1 left.3 ∙ ap Some (left.5 other ne) ∙ sym (field_is m at other left.0 left.2)
