use Rattle.std.proofs.Common.{refl, arith}
use Rattle.std.proofs.lemmas.Option.{same_Some}
use Rattle.rows_micro.proofs.codes.begun_twice_is_not_whole.Goals as goal

pub returns : goal.returns
returns c = λ whole. absurd (omega (arith, same_Some 0 1 (whole.begins 1 0 refl)))
