-- Whether an integer is 0.
use Rattle.std.proofs.Common.{◌≡◌, zero, suc, true, false, refl, arith}
use Rattle.std.proofs.lemmas.Bool.Decides.{nat_tests}
use Rattle.std.specs.Prelude.{ℤ, pos, negsuc}
use Rattle.sil_micro.specs.MicroWords.{same_integer}
use Rattle.spec_clauses.specs.SpecifierClauses.{is_zero}

pub by_zero : {P : Type 0} (n : ℤ) → (is_zero n ≡ true → same_integer n (pos 0) ≡ true → P) → (is_zero n ≡ false → same_integer n (pos 0) ≡ false → P) → P
by_zero (pos zero) none some = none refl refl
by_zero (pos (suc x)) none some = some refl (grind (arith, nat_tests))
by_zero (negsuc x) none some = some refl refl
