-- Lists of operands: what is at each place is read, or written in order.
use Rattle.std.specs.Prelude.{ℕ, zero, suc, List, [], ◌∷◌, Option, Some, ℤ}
use Rattle.layout_params.specs.declared.cell.Descr.{Descr as Descriptor}
use Rattle.sil_model.specs.declared.specifier.Specifier.{Specifier}
use Rattle.sil_model.specs.Access.{◌>>=◌, a_at, descr_at, set_descr_at}
use Rattle.sil_model.specs.Integers.{◌⊞◌}
use Rattle.sil_model.specs.Memory.{Memory}
use Rattle.sil_model.specs.Specifiers.{spec_at, set_spec_at}

-- the descriptors at these addresses
unfoldable pub all_read : Memory → List ℤ → Option (List Descriptor)
all_read m [] = Some []
all_read m (at ∷ ats) = do
  d ← descr_at m at
  ds ← all_read m ats
  Some (d ∷ ds)

-- the A fields at these addresses
unfoldable pub all_a_read : Memory → List ℤ → Option (List ℤ)
all_a_read m [] = Some []
all_a_read m (at ∷ ats) = do
  a ← a_at m at
  numbers ← all_a_read m ats
  Some (a ∷ numbers)

-- the memory after the descriptors are written at as many addresses, in order
unfoldable pub all_written : Memory → List ℤ → List Descriptor → Option Memory
all_written m [] ds = Some m
all_written m (at ∷ ats) [] = Some m
all_written m (at ∷ ats) (d ∷ ds) = do
  m' ← set_descr_at m at d
  all_written m' ats ds

-- the specifiers at these addresses
unfoldable pub all_specs_read : Memory → List ℤ → Option (List Specifier)
all_specs_read m [] = Some []
all_specs_read m (at ∷ ats) = do
  s ← spec_at m at
  ss ← all_specs_read m ats
  Some (s ∷ ss)

-- the memory after the specifiers are written at as many addresses, in order
unfoldable pub all_specs_written : Memory → List ℤ → List Specifier → Option Memory
all_specs_written m [] ss = Some m
all_specs_written m (at ∷ ats) [] = Some m
all_specs_written m (at ∷ ats) (s ∷ ss) = do
  m' ← set_spec_at m at s
  all_specs_written m' ats ss

-- so many addresses, each a step on from the one before
unfoldable pub line : ℤ → ℤ → ℕ → List ℤ
line at step zero = []
line at step (suc n) = at ∷ line (at ⊞ step) step n
