-- What is written after other writes leaves a memory of the first one's shape, whose cells fit.
use Rattle.std.proofs.Common.{◌≡◌, ℕ, Option, Some, None, ℤ, sym, subst}
use Rattle.std.specs.Prelude.{FitsSigned}
use Rattle.std.specs.Int.{w64}
use Rattle.layout_params.specs.declared.cell.Cell.{Cell}
use Rattle.layout_params.specs.declared.cell.Descr.{Descr as Descriptor}
use Rattle.sil_model.specs.declared.program.Flow.{Flow}
use Rattle.sil_model.specs.Access.{◌>>=◌, set_descr_at, set_whole_at, set_a_at, set_v_at}
use Rattle.sil_model.specs.Effects.{MemoryEffect, leads, onward}
use Rattle.sil_model.specs.Memory.{Memory, FitsCell, FitsDescr}
use Rattle.sil_model.proofs.Keeps.{Follows, Keeps, LeadsWithin, Writes, followed, follows_on, writes_set_a, writes_set_descr, writes_set_v, writes_set_whole}

-- the memory after a write that was made
pub follows_write : (m m1 m2 : Memory) (o : Option Memory) → Follows m m1 → Writes m1 o → o ≡ Some m2 → Follows m m2
follows_write m m1 m2 o f w is = follows_on m m1 m2 f (followed m1 m2 o w is)

pub fits_since : (m m1 : Memory) (d : Descriptor) → Follows m m1 → FitsDescr m.limits d → FitsDescr m1.limits d
fits_since m m1 d f fits = subst (λ l. FitsDescr l d) (sym f.shape.limits) fits

pub fits_cell_since : (m m1 : Memory) (cell : Cell) → Follows m m1 → FitsCell m.limits cell → FitsCell m1.limits cell
fits_cell_since m m1 cell f fits = subst (λ l. FitsCell l cell) (sym f.shape.limits) fits

pub descr_since : (m m1 : Memory) (at : ℤ) (d : Descriptor) → Follows m m1 → FitsDescr m.limits d → Writes m1 (set_descr_at m1 at d)
descr_since m m1 at d f fits = writes_set_descr m1 at d f.is_memory (fits_since m m1 d f fits)

pub a_since : (m m1 : Memory) (at a : ℤ) → Follows m m1 → FitsSigned w64 a → Writes m1 (set_a_at m1 at a)
a_since m m1 at a f fits = writes_set_a m1 at a f.is_memory fits

pub v_since : (m m1 : Memory) (at v : ℤ) → Follows m m1 → Writes m1 (set_v_at m1 at v)
v_since m m1 at v f = writes_set_v m1 at v f.is_memory

pub whole_since : (m m1 : Memory) (at a flags value : ℤ) → Follows m m1 → FitsSigned w64 a → Writes m1 (set_whole_at m1 at a flags value)
whole_since m m1 at a flags value f fits = writes_set_whole m1 at a flags value f.is_memory fits

-- a write, and what comes after it
pub since_then : (last : ℕ) (m m1 : Memory) (o : Option Memory) (f : Memory → MemoryEffect) → Follows m m1 → Writes m1 o → ((m2 : Memory) → Follows m m2 → Keeps last m (f m2)) → Keeps last m (o >>= f)
unfolding Keeps Writes
since_then last m m1 None f s w h = tt
since_then last m m1 (Some m2) f s w h = h m2 (follows_on m m1 m2 s w)

pub since_end : (last : ℕ) (m m1 : Memory) (o : Option Memory) → Follows m m1 → Writes m1 o → Keeps last m (onward o)
unfolding Keeps Writes
since_end last m m1 None s w = tt
since_end last m m1 (Some m2) s w = (tt, follows_on m m1 m2 s w)

pub since_leads : (last : ℕ) (m m1 : Memory) (flow : Flow) (o : Option Memory) → LeadsWithin last flow → Follows m m1 → Writes m1 o → Keeps last m (leads flow o)
unfolding Keeps Writes
since_leads last m m1 flow None l s w = tt
since_leads last m m1 flow (Some m2) l s w = (l, follows_on m m1 m2 s w)
