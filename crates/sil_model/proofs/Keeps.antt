-- What a clause on memory leaves has the same shape, and its cells fit.
use Rattle.std.proofs.Common.{◌≡◌, ℕ, ◌≤◌, List, Option, Some, None, ℤ, pos, negsuc, refl, subst, ◌∙◌, arith, rules}
use Rattle.std.proofs.Math.ListN.{length-set}
use Rattle.std.proofs.Math.Facts.{sfits_to_z}
use Rattle.std.specs.Prelude.{slice_get, slice_set, length, All, FitsSigned}
use Rattle.std.specs.Int.{w64}
use Rattle.std.proofs.lemmas.Option.{get_or_from_slice_get, slice_get_within, same_Some}
use Rattle.std.proofs.lemmas.List.Elements.{All-set}
use Rattle.layout_params.specs.declared.cell.Cell.{Cell}
use Rattle.layout_params.specs.declared.cell.Cell.TheVariants.{Descr, Chars}
use Rattle.layout_params.specs.declared.cell.Descr.{Descr as Descriptor}
use Rattle.sil_model.specs.declared.program.Flow.{Flow}
use Rattle.sil_model.specs.declared.program.Flow.TheVariants.{To}
use Rattle.sil_model.specs.Memory.{Memory, IsMemory, SameShape, FitsCell, FitsDescr}
use Rattle.sil_model.specs.Access.{◌>>=◌, cell_number, cell_at, put_cell, set_cell_at, with_cells, descr_of, descr_at, set_descr_at, set_whole_at, set_a_at, set_f_at, set_v_at}
use Rattle.sil_model.specs.Effects.{MemoryEffect, onward}
use Rattle.sil_model.specs.Integers.{◌⊞◌, wrapped_sum, within}

-- the later memory has the shape of the first, and its cells fit
pub record Follows (m m' : Memory) : Type 0 where
  pub shape : SameShape m m'
  pub is_memory : IsMemory m'

unfoldable pub Writes : Memory → Option Memory → Type 0
Writes m None = Unit {0}
Writes m (Some m') = Follows m m'

-- a statement to go to is one of so many, or the end after the last
abbrev pub LeadsWithin : ℕ → Flow → Type 0
LeadsWithin last (To k) = k ≤ last
LeadsWithin last _ = Unit {0}

unfoldable pub Keeps : ℕ → Memory → MemoryEffect → Type 0
Keeps last m None = Unit {0}
Keeps last m (Some (flow, m')) = LeadsWithin last flow × Follows m m'

pub same : (m : Memory) → IsMemory m → Follows m m
same m h = record { shape = record { limits = refl; count = refl }; is_memory = h }

pub follows_on : (m m' m'' : Memory) → Follows m m' → Follows m' m'' → Follows m m''
follows_on m m' m'' a b = record {
  shape = record { limits = b.shape.limits ∙ a.shape.limits; count = b.shape.count ∙ a.shape.count };
  is_memory = b.is_memory;
}

pub keeps_read : {A : Type 0} (last : ℕ) (m : Memory) (o : Option A) (f : A → MemoryEffect) → ((a : A) → o ≡ Some a → Keeps last m (f a)) → Keeps last m (o >>= f)
unfolding Keeps
keeps_read last m None f h = tt
keeps_read last m (Some a) f h = h a refl

pub keeps_here : (last : ℕ) (m : Memory) (flow : Flow) → LeadsWithin last flow → IsMemory m → Keeps last m (Some (flow, m))
unfolding Keeps
keeps_here last m flow l h = (l, same m h)

pub keeps_write : (last : ℕ) (m : Memory) (o : Option Memory) → Writes m o → Keeps last m (onward o)
unfolding Keeps Writes
keeps_write last m None h = tt
keeps_write last m (Some m') h = (tt, h)

keeps_on : (last : ℕ) (m m' : Memory) (o : MemoryEffect) → Follows m m' → Keeps last m' o → Keeps last m o
unfolding Keeps
keeps_on last m m' None a b = tt
keeps_on last m m' (Some (flow, m'')) a b = (b.0, follows_on m m' m'' a b.1)

-- a write, and what comes after it
pub keeps_then : (last : ℕ) (m : Memory) (o : Option Memory) (f : Memory → MemoryEffect) → Writes m o → ((m' : Memory) → IsMemory m' → Keeps last m' (f m')) → Keeps last m (o >>= f)
unfolding Keeps Writes
keeps_then last m None f w h = tt
keeps_then last m (Some m') f w h = keeps_on last m m' (f m') w (h m' w.is_memory)

-- what is in a list where all elements are so
pub all_at : {A : Type 0} (P : A → Type 0) (xs : List A) (i : ℕ) (x : A) → All P xs → slice_get xs i ≡ Some x → P x
all_at P xs i x h is = subst P (get_or_from_slice_get xs i x x is) (h i x (slice_get_within xs i x is))

fits_number : (m : Memory) (o : Option ℕ) (cell : Cell) → IsMemory m → (o >>= (λ i. slice_get m.cells i)) ≡ Some cell → FitsCell m.limits cell
fits_number m None cell h is = cc
fits_number m (Some i) cell h is = all_at (FitsCell m.limits) m.cells i cell h.fit is

pub fits_cell_at : (m : Memory) (at : ℤ) (cell : Cell) → IsMemory m → cell_at m at ≡ Some cell → FitsCell m.limits cell
unfolding cell_at
fits_cell_at m at cell h is = fits_number m (cell_number m at) cell h is

fits_descr_of : (m : Memory) (at : ℤ) (o : Option Cell) (d : Descriptor) → IsMemory m → cell_at m at ≡ o → (o >>= descr_of) ≡ Some d → FitsDescr m.limits d
fits_descr_of m at None d h e is = cc
fits_descr_of m at (Some (Chars chars)) d h e is = cc
fits_descr_of m at (Some (Descr d')) d h e is = subst (FitsDescr m.limits) (same_Some d' d is) (fits_cell_at m at (Descr d') h e)

pub fits_descr_at : (m : Memory) (at : ℤ) (d : Descriptor) → IsMemory m → descr_at m at ≡ Some d → FitsDescr m.limits d
unfolding descr_at
fits_descr_at m at d h is = fits_descr_of m at (cell_at m at) d h refl is

pub writes_read : {A : Type 0} (m : Memory) (o : Option A) (f : A → Option Memory) → ((a : A) → o ≡ Some a → Writes m (f a)) → Writes m (o >>= f)
unfolding Writes
writes_read m None f h = tt
writes_read m (Some a) f h = h a refl

writes_on : (m m' : Memory) (o : Option Memory) → Follows m m' → Writes m' o → Writes m o
unfolding Writes
writes_on m m' None a b = tt
writes_on m m' (Some m'') a b = follows_on m m' m'' a b

pub writes_then : (m : Memory) (o : Option Memory) (f : Memory → Option Memory) → Writes m o → ((m' : Memory) → Follows m m' → Writes m' (f m')) → Writes m (o >>= f)
unfolding Writes
writes_then m None f w h = tt
writes_then m (Some m') f w h = writes_on m m' (f m') w (h m' w)

-- a write that was made
pub followed : (m m' : Memory) (o : Option Memory) → Writes m o → o ≡ Some m' → Follows m m'
unfolding Writes
followed m m' o w is = rw is at w

-- cells that are as many and fit
unfoldable pub Puts : Memory → Option (List Cell) → Type 0
Puts m None = Unit {0}
Puts m (Some cells) = (length cells ≡ length m.cells) × All (FitsCell m.limits) cells

pub puts_none : (m : Memory) → Puts m None
unfolding Puts
puts_none m = tt

pub puts_read : {A : Type 0} (m : Memory) (o : Option A) (f : A → Option (List Cell)) → ((a : A) → o ≡ Some a → Puts m (f a)) → Puts m (o >>= f)
unfolding Puts
puts_read m None f h = tt
puts_read m (Some a) f h = h a refl

pub puts_set : (m : Memory) (i : ℕ) (cell : Cell) → IsMemory m → FitsCell m.limits cell → Puts m (Some (slice_set m.cells i cell))
unfolding Puts
puts_set m i cell h fits = (length-set m.cells i cell, All-set (FitsCell m.limits) m.cells i cell fits h.fit)

pub writes_cells : (m : Memory) (o : Option (List Cell)) → IsMemory m → Puts m o → Writes m (with_cells m o)
unfolding Writes Puts
writes_cells m None h puts = tt
writes_cells m (Some cells) h puts = record {
  shape = record { limits = refl; count = puts.0 };
  is_memory = record { limits = h.limits; count = omega (arith, h.count, puts.0); fit = puts.1 };
}

puts_cell : (m : Memory) (at : ℤ) (cell : Cell) → IsMemory m → FitsCell m.limits cell → Puts m (put_cell m at cell)
unfolding put_cell
puts_cell m at cell h fits = puts_read m (cell_number m at) _ (λ i e. puts_set m i cell h fits)

pub writes_set_cell : (m : Memory) (at : ℤ) (cell : Cell) → IsMemory m → FitsCell m.limits cell → Writes m (set_cell_at m at cell)
writes_set_cell m at cell h fits = writes_cells m (put_cell m at cell) h (puts_cell m at cell h fits)

pub writes_set_descr : (m : Memory) (at : ℤ) (d : Descriptor) → IsMemory m → FitsDescr m.limits d → Writes m (set_descr_at m at d)
writes_set_descr m at d h fits = writes_set_cell m at (Descr d) h fits

pub writes_set_a : (m : Memory) (at a : ℤ) → IsMemory m → FitsSigned w64 a → Writes m (set_a_at m at a)
writes_set_a m at a h fits = writes_read m _ _ (λ d e. let was = fits_descr_at m at d h e in writes_set_descr m at (record d { a = a }) h (fits, was.1, was.2))

-- an integer that a limit allows
pub within_limit : (limit : ℕ) (x : ℤ) (n : ℕ) → within limit x ≡ Some n → (n ≤ limit) × (x ≡ pos n)
unfolding within
within_limit limit (pos x) n is = grind (arith, is)
within_limit limit (negsuc x) n is = cc

pub writes_set_f : (m : Memory) (at flags : ℤ) → IsMemory m → Writes m (set_f_at m at flags)
writes_set_f m at flags h =
    writes_read m _ _ (λ d e. let was = fits_descr_at m at d h e in
    writes_read m _ _ (λ f is. writes_set_descr m at (record d { f = f }) h (was.0, (within_limit m.limits.flag_limit flags f is).0, was.2)))

pub writes_set_v : (m : Memory) (at value : ℤ) → IsMemory m → Writes m (set_v_at m at value)
writes_set_v m at value h =
    writes_read m _ _ (λ d e. let was = fits_descr_at m at d h e in
    writes_read m _ _ (λ v is. writes_set_descr m at (record d { v = v }) h (was.0, was.1, (within_limit m.limits.value_limit value v is).0)))

pub writes_set_whole : (m : Memory) (at a flags value : ℤ) → IsMemory m → FitsSigned w64 a → Writes m (set_whole_at m at a flags value)
writes_set_whole m at a flags value h fits =
    writes_read m _ _ (λ f is.
    writes_read m _ _ (λ v also. writes_set_descr m at (record { a = a; f = f; v = v }) h (fits, (within_limit m.limits.flag_limit flags f is).0, (within_limit m.limits.value_limit value v also).0)))

-- a sum that wraps fits
pub sum_fits : (x y : ℤ) → FitsSigned w64 (x ⊞ y)
unfolding wrapped_sum
sum_fits x y = sfits_to_z (search rules)
