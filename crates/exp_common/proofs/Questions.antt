-- Descriptors that operations read.
use Rattle.std.proofs.Common.{◌≡◌, ℕ, ◌<◌, ◌^◌, ◌≤◌, Option, Some, None, refl, arith}
use Rattle.std.proofs.lemmas.Bool.Decides.{nat_tests}
use Rattle.std.specs.Prelude.{ℤ, pos, FitsSigned}
use Rattle.std.specs.Int.{w64}
use Rattle.layout_params.specs.declared.cell.Descr.{Descr}
use Rattle.sil_model.specs.declared.limits.Limits.{Limits}
use Rattle.sil_model.specs.Access.{descr_at}
use Rattle.sil_model.specs.Integers.{within}
use Rattle.sil_model.specs.Memory.{Memory, IsMemory}
use Rattle.sil_model.proofs.Keeps.{fits_descr_at}
use Rattle.sil_micro.proofs.Fields.{fits_within}

-- the fields of a descriptor that was read fit where they are written again
pub record IsRead (limits : Limits) (a : ℤ) (f v : ℕ) : Type 0 where
  pub fits : FitsSigned w64 a
  pub flags : f < 2 ^ 32
  pub value : v < 2 ^ 48
  pub f_again : within limits.flag_limit (pos f) ≡ Some f
  pub v_again : within limits.value_limit (pos v) ≡ Some v

is_read : (m : Memory) (at : ℤ) (d : Descr) → IsMemory m → descr_at m at ≡ Some d → IsRead m.limits d.a d.f d.v
is_read m at d h is =
    let fit = fits_descr_at m at d h is in
    let f = fit.1 in
    let v = fit.2 in
    record {
      fits = fit.0;
      flags = omega (arith, f, h.limits.flags);
      value = omega (arith, v, h.limits.values);
      f_again = fits_within m.limits.flag_limit d.f f;
      v_again = fits_within m.limits.value_limit d.v v;
    }

-- whether there is a descriptor at an address, and what it holds
pub by_read : {P : Type 0} (m : Memory) (at : ℤ) → IsMemory m → (descr_at m at ≡ None → P) → ((a : ℤ) (f v : ℕ) → descr_at m at ≡ Some (record { a = a; f = f; v = v }) → IsRead m.limits a f v → P) → P
by_read {P} m at h none some = go (descr_at m at) refl where
  go : (o : Option Descr) → descr_at m at ≡ o → P
  go None is = none is
  go (Some d) is = some d.a d.f d.v is (is_read m at d h is)

-- 0 fits in each field
pub zero_within : (limit : ℕ) → within limit (pos 0) ≡ Some 0
unfolding within
zero_within limit = grind (arith, nat_tests)
