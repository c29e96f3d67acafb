use Rattle.std.proofs.Common.{◌≡◌, ◌++◌, length, map, take}
use Rattle.sil_micro.specs.Pieces.{placed_op}
use Rattle.sil_micro.proofs.code.push_piece.Given as goal

abbrev pub invariant-loop-op : goal.invariant-loop-op
invariant-loop-op l = (l.base ≡ length l.initial.ops.items) × (l.ops.items ≡ l.initial.ops.items ++ map (placed_op l.base) (take l.op-index l.piece))
