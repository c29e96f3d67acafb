-- How many operations a weight allows.
use Rattle.std.proofs.Common.{ℕ, ◌+◌, ◌*◌, ◌<◌, ◌≤◌, ◌^◌, List, [], ◌∷◌, length, arith}
use Rattle.sil_micro.specs.declared.op.Op.{Op}
use Rattle.sil_micro.specs.declared.op.Op.TheVariants.{Const, Copy, Arith, Jump, JumpIf}
use Rattle.sil_micro.specs.Operations.{weight}
use Rattle.sil_micro.specs.Pieces.{weights}

at_least_8 : (op : Op) → 8 ≤ weight op
at_least_8 (Const to value) = omega arith
at_least_8 (Copy to from) = omega arith
at_least_8 (Arith kind to left right) = omega arith
at_least_8 (Jump to) = omega arith
at_least_8 (JumpIf test left right to) = omega arith
at_least_8 _ = omega arith

pub weighs_more : (ops : List Op) → 8 * length ops ≤ weights ops
weighs_more [] = omega arith
weighs_more (op ∷ ops) = omega (arith, at_least_8 op, weighs_more ops)

-- a code of so few statements has room for a piece
pub room_left : (ops : List Op) (at count : ℕ) → weights ops ≤ 12000 * at → at < count → count ≤ 16384 → length ops + 1500 < 2 ^ 32
room_left ops at count light below few = omega (arith, weighs_more ops, light, below, few)
