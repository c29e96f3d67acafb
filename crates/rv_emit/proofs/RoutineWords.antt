-- The instructions before the operations, and those past them, have words.
use Rattle.std.proofs.Common.{ℕ, zero, suc, ◌+◌, ◌-◌, ◌*◌, ◌/◌, ◌^◌, ◌<◌, ◌≤◌, [], ◌∷◌, ◌++◌, Option, arith, rules}
use Rattle.std.specs.Prelude.{pos}
use Rattle.rv_isa.specs.declared.instr.IOp.TheVariants.{Jalr}
use Rattle.rv_isa.specs.declared.instr.Instr.TheVariants.{I}
use Rattle.sil_base.specs.declared.places.TheConstants.{FIRST_WORD}
use Rattle.rv_straight.specs.Code.{AreInstrs}
use Rattle.rv_straight.specs.Constants.{upper_of}
use Rattle.rv_straight.specs.Jumps.{distance, leap_code}
use Rattle.rv_straight.proofs.AreInstrs.{lower_fits, far_fits, leaps}
use Rattle.rv_routines.specs.RoutineCodes.{check_code, fit_code, open_code, char_code, word_code, below_code, zeros_code, make_front, make_code, kind_front, kind_code, state_code}
use Rattle.rv_operations.specs.Switch.{switch_code, led}
use Rattle.rv_emit.specs.Code.{start_code, past_code, table_code}
use Rattle.rv_emit.proofs.Words.{are_both}

upper_fits : (n : ℕ) → n < 2 ^ 31 - 2 ^ 11 → upper_of n < 2 ^ 20
upper_fits n h = omega arith

module _ (d n : ℕ) (few : d ≤ 64) (small : n ≤ 2 ^ 20) where
  up : upper_of n < 2 ^ 20
  up = upper_fits n (omega arith)

  pub check_words : AreInstrs (check_code d n)
  check_words = let u = up in let l = lower_fits n in let z : d < 2 ^ 11 = omega arith in search rules

  pub fit_words : (bits : ℕ) → bits < 64 → AreInstrs (fit_code bits d n)
  fit_words bits h = let u = up in let l = lower_fits n in let z : d < 2 ^ 11 = omega arith in search rules

  pub open_words : (fbits vbits : ℕ) → fbits < 64 → vbits < 64 → AreInstrs (open_code fbits vbits d n)
  open_words fbits vbits f v = let u = up in let l = lower_fits n in let z : d < 2 ^ 11 = omega arith in search rules

  pub char_words : AreInstrs (char_code d n)
  char_words = let u = up in let l = lower_fits n in let z : d < 2 ^ 11 = omega arith in search rules

  pub word_words : AreInstrs (word_code d n)
  word_words = let u = up in let l = lower_fits n in let z : d < 2 ^ 11 = omega arith in search rules

  make_front_words : AreInstrs (make_front d n)
  make_front_words = let u = up in let l = lower_fits n in let z : d < 2 ^ 11 = omega arith in search rules

  kind_front_words : AreInstrs (kind_front d n)
  kind_front_words = let u = up in let l = lower_fits n in let z : d < 2 ^ 11 = omega arith in search rules

  zeros_words : (k m : ℕ) → k + m ≤ 8 → AreInstrs (zeros_code k m)
  zeros_words k zero h = tt
  zeros_words k (suc m) h =
      let z : 8 * k < 2 ^ 11 = omega arith in
      ((omega arith, omega arith, z), zeros_words (suc k) m (omega arith))

  back_words : AreInstrs (I Jalr 0 11 (pos 0) ∷ [])
  back_words = search rules

  pub make_words : AreInstrs (make_code d n)
  make_words = are_both (make_front d n) (zeros_code 0 (d / 8) ++ I Jalr 0 11 (pos 0) ∷ []) make_front_words (are_both (zeros_code 0 (d / 8)) (I Jalr 0 11 (pos 0) ∷ []) (zeros_words 0 (d / 8) (omega arith)) back_words)

  pub kind_words : AreInstrs (kind_code d n)
  kind_words = are_both (kind_front d n) (zeros_code 0 (d / 8) ++ I Jalr 0 11 (pos 0) ∷ []) kind_front_words (are_both (zeros_code 0 (d / 8)) (I Jalr 0 11 (pos 0) ∷ []) (zeros_words 0 (d / 8) (omega arith)) back_words)

pub below_words : (n : ℕ) → n ≤ 2 ^ 20 → AreInstrs (below_code n)
below_words n h = let u = upper_fits n (omega arith) in let l = lower_fits n in search rules

pub state_words : AreInstrs state_code
state_words = search rules

pub switch_words : (d count routine : ℕ) → d ≤ 64 → count ≤ 2 ^ 14 → AreInstrs (switch_code d count routine (routine + 64))
switch_words d count routine few many =
    let u = upper_fits count (omega arith) in
    let l = lower_fits count in
    let z : d < 2 ^ 11 = omega arith in
    let far = far_fits (routine + 40) (routine + 64) in
    let low = lower_fits (distance (routine + 40) (routine + 64)) in
    search rules

pub start_words : (top to : ℕ) → top < 2 ^ 31 - 2 ^ 11 → AreInstrs (start_code top to)
start_words top to h =
    let u = upper_fits top h in
    let l = lower_fits top in
    let far = far_fits (FIRST_WORD + 20) to in
    let low = lower_fits (distance (FIRST_WORD + 20) to) in
    search rules

pub past_words : (count : ℕ) → count ≤ 2 ^ 14 → AreInstrs (past_code count)
past_words count h =
    let u = upper_fits count (omega arith) in
    let l = lower_fits count in
    search rules

pub leap_words : (place to : ℕ) → AreInstrs (leap_code 28 0 place to)
leap_words place to = leaps 28 0 place to (omega arith) (omega arith)

pub table_words : (routine : ℕ) (places : ℕ → Option ℕ) (here k more : ℕ) → AreInstrs (table_code routine places here k more)
table_words routine places here k zero = tt
table_words routine places here k (suc more) = are_both (leap_code 28 0 here (led routine (places k))) (table_code routine places (here + 8) (suc k) more) (leap_words here (led routine (places k))) (table_words routine places (here + 8) (suc k) more)
