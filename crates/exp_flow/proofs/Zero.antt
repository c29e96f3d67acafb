-- Whether a number is 0.
use Rattle.std.proofs.Common.{◌≡◌, zero, suc, false, refl, arith}
use Rattle.std.proofs.lemmas.Bool.Decides.{nat_tests}
use Rattle.std.specs.Prelude.{ℤ, pos, negsuc, nat_eq}
use Rattle.flow_clauses.specs.FlowClauses.{exit_code}
use Rattle.sil_micro.specs.MicroWords.{same_integer}

pub by_zero : {P : Type 0} (a : ℤ) → (a ≡ pos 0 → P) → (same_integer a (pos 0) ≡ false → exit_code a ≡ 1 → P) → P
by_zero (pos zero) is other = is refl
by_zero (pos (suc n)) is other = let differs : nat_eq (suc n) 0 ≡ false = grind (arith, nat_tests) in other differs refl
by_zero (negsuc n) is other = other refl refl
