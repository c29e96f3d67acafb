-- What goes from some places to others: all is read before anything is written.
use Rattle.std.specs.Prelude.{List, Option, ℤ}
use Rattle.sil_model.specs.Access.{◌>>=◌}
use Rattle.sil_model.specs.Lists.{all_read, all_written, all_specs_read, all_specs_written}
use Rattle.sil_model.specs.Memory.{Memory}

abbrev pub carried : Memory → List ℤ → List ℤ → Option Memory
carried m sources targets = do
  values ← all_read m sources
  all_written m targets values

abbrev pub specs_carried : Memory → List ℤ → List ℤ → Option Memory
specs_carried m sources targets = do
  values ← all_specs_read m sources
  all_specs_written m targets values
