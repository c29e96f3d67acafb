use Rattle.std.proofs.Common.{◌<◌, ◌≢◌, ℕ, Some}
use Rattle.std.specs.Prelude.{slice_get}
use Rattle.exp_units.proofs.formats.format_number.Given as goal

-- none of those before is the text
abbrev pub invariant-loop-i : goal.invariant-loop-i
invariant-loop-i l = (j : ℕ) → j < l.i → slice_get l.formats j ≢ Some l.text
