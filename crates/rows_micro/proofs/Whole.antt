-- Why the code of two statements is whole.
use Rattle.std.proofs.Common.{◌≡◌, ℕ, zero, suc, ◌<◌, ◌≤◌, length, Some, refl, arith}
use Rattle.std.specs.Prelude.{slice_get}
use Rattle.sil_micro.specs.declared.op.Op.TheVariants.{Begin}
use Rattle.sil_micro.specs.Codes.{entry_of, return_of}
use Rattle.rows_micro.specs.Examples.{two_statements}

pub entered : (k : ℕ) → k < length two_statements.entries → (place : ℕ) × (entry_of two_statements k ≡ Some place) × (slice_get two_statements.ops place ≡ Some (Begin k))
entered zero lt = (0, refl, refl)
entered (suc zero) lt = (2, refl, refl)
entered (suc (suc k)) lt = absurd (omega (arith, lt))

pub rising : (j k place next : ℕ) → j < k → entry_of two_statements j ≡ Some place → entry_of two_statements k ≡ Some next → place < next
rising j zero place next lt e f = absurd (omega (arith, lt))
rising zero (suc zero) place next lt e f = let a : 0 ≡ place = cc in let b : 2 ≡ next = cc in omega (arith, a, b)
rising (suc j) (suc zero) place next lt e f = absurd (omega (arith, lt))
rising j (suc (suc k)) place next lt e f = absurd (cc)

pub beginning : (place k : ℕ) → slice_get two_statements.ops place ≡ Some (Begin k) → entry_of two_statements k ≡ Some place
beginning zero zero e = refl
beginning zero (suc k) e = absurd (cc)
beginning (suc zero) k e = absurd (cc)
beginning (suc (suc zero)) zero e = absurd (cc)
beginning (suc (suc zero)) (suc zero) e = refl
beginning (suc (suc zero)) (suc (suc k)) e = let same : suc zero ≡ suc (suc k) = cc in absurd (omega (arith, same))
beginning (suc (suc (suc zero))) k e = absurd (cc)
beginning (suc (suc (suc (suc place)))) k e = absurd (cc)

pub no_return : (k place : ℕ) → return_of two_statements k ≡ Some place → place ≤ length two_statements.ops
no_return zero place e = absurd (cc)
no_return (suc zero) place e = absurd (cc)
no_return (suc (suc k)) place e = absurd (cc)
