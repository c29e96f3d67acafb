-- Fields that were read fit where they are written again.
use Rattle.std.proofs.Common.{◌≡◌, ℕ, ◌≤◌, Some, arith}
use Rattle.std.proofs.lemmas.Bool.Decides.{nat_tests}
use Rattle.std.specs.Prelude.{ℤ, pos}
use Rattle.layout_params.specs.declared.cell.Descr.{Descr}
use Rattle.sil_model.specs.Access.{descr_at}
use Rattle.sil_model.specs.Integers.{within}
use Rattle.sil_model.specs.Memory.{Memory, IsMemory}
use Rattle.sil_model.proofs.Keeps.{fits_descr_at}

pub fits_within : (limit n : ℕ) → n ≤ limit → within limit (pos n) ≡ Some n
unfolding within
fits_within limit n le = grind (arith, nat_tests, le)

pub f_again : (m : Memory) (at : ℤ) (d : Descr) → IsMemory m → descr_at m at ≡ Some d → within m.limits.flag_limit (pos d.f) ≡ Some d.f
f_again m at d h e = fits_within m.limits.flag_limit d.f (fits_descr_at m at d h e).1

pub v_again : (m : Memory) (at : ℤ) (d : Descr) → IsMemory m → descr_at m at ≡ Some d → within m.limits.value_limit (pos d.v) ≡ Some d.v
v_again m at d h e = fits_within m.limits.value_limit d.v (fits_descr_at m at d h e).2
