-- What the macros on specifiers write fits.
use Rattle.std.proofs.Common.{◌≡◌, ℕ, ◌*◌, ◌≤◌, Bool, true, false, Option, Some, None, ℤ, pos, refl, subst, arith}
use Rattle.std.proofs.lemmas.Int.{SFits-int_wrap}
use Rattle.std.proofs.lemmas.Option.{same_Some}
use Rattle.std.specs.Prelude.{if◌then◌else◌}
use Rattle.std.specs.Int.{w64}
use Rattle.layout_params.specs.declared.cell.Descr.{Descr as Descriptor}
use Rattle.sil_model.specs.declared.program.Flow.{Flow}
use Rattle.sil_model.specs.declared.specifier.Specifier.{Specifier}
use Rattle.sil_model.specs.Access.{◌>>=◌, descr_at, v_at, set_v_at}
use Rattle.sil_model.specs.Effects.{MemoryEffect, leads}
use Rattle.sil_model.specs.Integers.{◌⊞◌, within}
use Rattle.sil_model.specs.Memory.{Memory, IsMemory, FitsDescr}
use Rattle.sil_model.specs.Specifiers.{FitsSpec, spec_at}
use Rattle.sil_model.proofs.Keeps.{Keeps, LeadsWithin, Writes, fits_descr_at, sum_fits, within_limit, writes_set_v, writes_then}
use Rattle.sil_model.proofs.Lists.{spec_fits}
use Rattle.sil_model.proofs.Reading.{from_descr}
use Rattle.spec_clauses.specs.SpecifierClauses.{wrapped_alone}

pub keeps_if : (last : ℕ) (m : Memory) (c : Bool) (x y : MemoryEffect) → (c ≡ true → Keeps last m x) → (c ≡ false → Keeps last m y) → Keeps last m (if c then x else y)
keeps_if last m true x y h k = h refl
keeps_if last m false x y h k = k refl

pub keeps_leads : (last : ℕ) (m : Memory) (flow : Flow) (o : Option Memory) → LeadsWithin last flow → Writes m o → Keeps last m (leads flow o)
unfolding Keeps Writes
keeps_leads last m flow None l h = tt
keeps_leads last m flow (Some m') l h = (l, h)

-- a write, and then one of a V field
pub writes_then_set_v : (m : Memory) (o : Option Memory) (at value : ℤ) → Writes m o → Writes m (o >>= (λ m'. set_v_at m' at value))
writes_then_set_v m o at value w = writes_then m o (λ m'. set_v_at m' at value) w (λ m' f. writes_set_v m' at value f.is_memory)

-- an exact number that wraps
pub wrapped_fits : (m : Memory) (n : ℕ) → FitsDescr m.limits (wrapped_alone n)
wrapped_fits m n = (SFits-int_wrap w64 (pos n), omega arith, omega arith)

pub fits_v_at : (m : Memory) (at : ℤ) (v : ℕ) → IsMemory m → v_at m at ≡ Some v → v ≤ m.limits.value_limit
fits_v_at m at v h is =
    let found = from_descr m at (λ d. Some d.v) v is in
    subst (λ n. n ≤ m.limits.value_limit) (same_Some found.0.v v found.2) (fits_descr_at m at found.0 h found.1).2

-- a specifier with an offset and a length of its own, and one with a length of its own
pub moved_fits : (m : Memory) (at k z : ℤ) (x : Specifier) (l : ℕ) → IsMemory m → spec_at m at ≡ Some x → within m.limits.value_limit z ≡ Some l → FitsSpec m.limits (record x { o = x.o ⊞ k; l = l })
moved_fits m at k z x l h is fits =
    let f = spec_fits m at x h is in
    record { a = f.a; f = f.f; v = f.v; o = sum_fits x.o k; l = (within_limit m.limits.value_limit z l fits).0 }

pub cut_fits : (m : Memory) (at second : ℤ) (x : Specifier) (l : ℕ) → IsMemory m → spec_at m at ≡ Some x → v_at m second ≡ Some l → FitsSpec m.limits (record x { l = l })
cut_fits m at second x l h is has =
    let f = spec_fits m at x h is in
    record { a = f.a; f = f.f; v = f.v; o = f.o; l = fits_v_at m second l h has }

-- the specifier of a title
pub titled_fits : (m : Memory) (at second : ℤ) (d : Descriptor) (l : ℕ) → IsMemory m → descr_at m at ≡ Some d → v_at m second ≡ Some l → FitsSpec m.limits (record { a = d.a; f = d.f; v = d.v; o = pos (4 * m.limits.cell_size); l = l })
titled_fits m at second d l h is has =
    let f = fits_descr_at m at d h is in
    record { a = f.0; f = f.1; v = f.2; o = omega (arith, h.limits.most); l = fits_v_at m second l h has }
