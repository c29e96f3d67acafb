use Rattle.std.proofs.Common.{◌≡◌, ◌∙◌, ◌+◌, ◌%◌, arith}
use Rattle.std.proofs.lemmas.Int.{to_z-of_z}
use Rattle.tree_clauses.proofs.GreatPowers.{great_power, range_of}
use Rattle.tree_clauses.proofs.powers.natural_power.Goals as goal
use mir.Val.{SFits}
use mir.Syntax.{w64}

pub returns-then-n-lt64 : goal.returns-then-n-lt64
returns-then-n-lt64 c =
    let f_x : SFits w64 c.args.x = c.ranges.x in
    let power = simp to_z-of_z at c.checked_pow.ensures in
    range_of _ _ power

pub returns-else-n-lt64 : goal.returns-else-n-lt64
returns-else-n-lt64 c =
    let f_x : SFits w64 c.args.x = c.ranges.x in
    let power = simp to_z-of_z at c.checked_pow-else-n-lt64.ensures in
    let n = c.args.n in
    let parity : (64 + n % 2) % 2 ≡ n % 2 = omega arith in
    range_of _ _ power ∙ great_power c.args.x (64 + n % 2) n (omega arith) (omega (arith, c.if-n-lt64.false)) parity
