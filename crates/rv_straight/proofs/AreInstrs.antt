-- The instructions of constants, jumps and calls have words.
use Rattle.std.proofs.Common.{ℕ, ◌+◌, ◌%◌, ◌^◌, ◌<◌, Bool, true, false, cond, arith, rules}
use Rattle.rv_isa.specs.InstrWords.{IsFrom}
use Rattle.rv_straight.specs.Code.{AreInstrs}
use Rattle.rv_straight.specs.Constants.{upper_of, lower_of, is_short, is_word, constant_12, constant_32, constant_64, constant_code}
use Rattle.rv_straight.specs.Jumps.{distance, far_upper, leap_code}
use Rattle.rv_straight.specs.Laws.{LawOfWords}

pub lower_fits : (n : ℕ) → IsFrom 11 (lower_of n)
lower_fits n = grind arith

pub far_fits : (from to : ℕ) → far_upper from to < 2 ^ 20
far_fits from to = omega arith

long_fits : (n : ℕ) → n < 2 ^ 64 → upper_of (upper_of (upper_of (upper_of n))) < 2 ^ 20
long_fits n h = omega arith

word_fits : (n : ℕ) → upper_of n % 2 ^ 20 < 2 ^ 20
word_fits n = omega arith

constants_by : (rd n : ℕ) (a b : Bool) → rd < 32 → n < 2 ^ 64 → AreInstrs (cond a (constant_12 rd n) (cond b (constant_32 rd n) (constant_64 rd n)))
constants_by rd n true b lt fits = let l = lower_fits n in search rules
constants_by rd n false true lt fits =
    let u = word_fits n in
    let l = lower_fits n in
    search rules
constants_by rd n false false lt fits =
    let u = long_fits n fits in
    let l3 = lower_fits (upper_of (upper_of (upper_of n))) in
    let l2 = lower_fits (upper_of (upper_of n)) in
    let l1 = lower_fits (upper_of n) in
    let l0 = lower_fits n in
    search rules

pub constants : (rd n : ℕ) → rd < 32 → n < 2 ^ 64 → AreInstrs (constant_code rd n)
constants rd n lt fits = constants_by rd n (is_short n) (is_word n) lt fits

pub leaps : (through rd place to : ℕ) → through < 32 → rd < 32 → AreInstrs (leap_code through rd place to)
leaps through rd place to t_ok rd_ok =
    let u = far_fits place to in
    let l = lower_fits (distance place to) in
    search rules

pub words : LawOfWords
words op rd rs1 rs2 n place to rd_ok a_ok b_ok fits =
    let u = far_fits (place + 4) to in
    let l = lower_fits (distance (place + 4) to) in
    (constants rd n rd_ok fits, leaps rs1 rd place to a_ok rd_ok, search rules)
