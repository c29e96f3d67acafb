-- Specifiers: a descriptor, and the next cell with the offset and the length.
use Rattle.std.specs.Prelude.{◌≤◌, Option, Some, ℤ, pos, FitsSigned}
use Rattle.std.specs.Int.{w64}
use Rattle.sil_model.specs.declared.limits.Limits.{Limits}
use Rattle.sil_model.specs.declared.specifier.Specifier.{Specifier}
use Rattle.sil_model.specs.Access.{◌>>=◌, descr_at, set_descr_at}
use Rattle.sil_model.specs.Integers.{◌⊞◌}
use Rattle.sil_model.specs.Memory.{Memory}

-- the fields of a specifier are within their limits
pub record FitsSpec (limits : Limits) (s : Specifier) : Type 0 where
  pub a : FitsSigned w64 s.a
  pub f : s.f ≤ limits.flag_limit
  pub v : s.v ≤ limits.value_limit
  pub o : FitsSigned w64 s.o
  pub l : s.l ≤ limits.value_limit

-- the specifier at an address
abbrev pub spec_at : Memory → ℤ → Option Specifier
spec_at m at = do
  first ← descr_at m at
  second ← descr_at m (at ⊞ pos m.limits.cell_size)
  Some (record { a = first.a; f = first.f; v = first.v; o = second.a; l = second.v })

-- a whole write makes both cells descriptors; the F of the second is 0
abbrev pub set_spec_at : Memory → ℤ → Specifier → Option Memory
set_spec_at m at s = do
  m' ← set_descr_at m at (record { a = s.a; f = s.f; v = s.v })
  set_descr_at m' (at ⊞ pos m.limits.cell_size) (record { a = s.o; f = 0; v = s.l })
