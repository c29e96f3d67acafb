-- How long the parts before the operations are.
use Rattle.std.proofs.Common.{◌≡◌, ℕ, zero, suc, ◌+◌, ◌*◌, ◌/◌, [], ◌∷◌, ◌++◌, length, length-append, Option, refl, ap, arith}
use Rattle.std.specs.Prelude.{pos}
use Rattle.rv_isa.specs.declared.instr.IOp.TheVariants.{Jalr}
use Rattle.rv_isa.specs.declared.instr.Instr.TheVariants.{I}
use Rattle.rv_straight.specs.Jumps.{leap_code}
use Rattle.rv_routines.specs.RoutineCodes.{zeros_code, check_routine, fit_routine, open_routine, char_routine, word_routine, below_routine, make_routine, kind_routine, state_routine}
use Rattle.rv_operations.specs.Switch.{switch_code, led}
use Rattle.rv_emit.specs.Code.{start_code, table_code}

pub start_long : (top to : ℕ) → length (start_code top to) ≡ 7
start_long top to = refl

pub check_long : (d n : ℕ) → length (check_routine d n) ≡ 17
unfolding check_routine
check_long d n = refl

pub fit_long : (bits d n : ℕ) → length (fit_routine bits d n) ≡ 19
unfolding fit_routine
fit_long bits d n = refl

pub open_long : (fbits vbits d n : ℕ) → length (open_routine fbits vbits d n) ≡ 20
unfolding open_routine
open_long fbits vbits d n = refl

pub char_long : (d n : ℕ) → length (char_routine d n) ≡ 15
unfolding char_routine
char_long d n = refl

pub word_long : (d n : ℕ) → length (word_routine d n) ≡ 17
unfolding word_routine
word_long d n = refl

pub below_long : (n : ℕ) → length (below_routine n) ≡ 7
unfolding below_routine
below_long n = refl

pub state_long : length state_routine ≡ 14
unfolding state_routine
state_long = refl

zeros_long : (k n : ℕ) → length (zeros_code k n) ≡ n
zeros_long k zero = refl
zeros_long k (suc n) = ap suc (zeros_long (suc k) n)

behind_long : (n : ℕ) → length (zeros_code 0 n ++ I Jalr 0 11 (pos 0) ∷ []) ≡ n + 1
behind_long n = omega (arith, length-append (zeros_code 0 n) (I Jalr 0 11 (pos 0) ∷ []), zeros_long 0 n)

pub make_long : (d n : ℕ) → length (make_routine d n) ≡ 20 + d / 8
unfolding make_routine
make_long d n = omega (arith, behind_long (d / 8))

pub kind_long : (d n : ℕ) → length (kind_routine d n) ≡ 16 + d / 8
unfolding kind_routine
kind_long d n = omega (arith, behind_long (d / 8))

pub table_long : (routine : ℕ) (places : ℕ → Option ℕ) (here k more : ℕ) → length (table_code routine places here k more) ≡ 2 * more
table_long routine places here k zero = refl
table_long routine places here k (suc more) = omega (arith, length-append (leap_code 28 0 here (led routine (places k))) (table_code routine places (here + 8) (suc k) more), table_long routine places (here + 8) (suc k) more)

pub switch_long : (d count routine : ℕ) → length (switch_code d count routine (routine + 64)) ≡ 16
switch_long d count routine = refl
