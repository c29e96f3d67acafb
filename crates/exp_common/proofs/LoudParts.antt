-- Parts of a piece that may write records.
use Rattle.std.proofs.Common.{◌≡◌, ℕ, ◌+◌, ◌≤◌, List, true, refl, arith}
use Rattle.sil_micro.specs.declared.op.Op.{Op}
use Rattle.sil_micro.specs.Expands.{IsPiece}
use Rattle.sil_micro.specs.Forms.{all_ops}
use Rattle.sil_micro.specs.Pieces.{joined, is_part, is_no_begin, names_within, weights}
use Rattle.sil_micro.proofs.Parts.{part_joined, names_joined, no_begin_joined, weights_joined}
use Rattle.exp_common.proofs.JoinedParts.{IsFirst, IsPart, begins_joined, once_behind}

-- the operations of a part that is not the first, and what they weigh
pub record IsLoud (statements formats w : ℕ) (ops : List Op) : Type 0 where
  pub part : is_part ops ≡ true
  pub begins : all_ops is_no_begin ops ≡ true
  pub names : all_ops (names_within statements formats) ops ≡ true
  pub weight : weights ops ≡ w

pub both_loud : {statements formats v w : ℕ} {x y : List Op} → IsPart statements formats v x → IsLoud statements formats w y → IsLoud statements formats (v + w) (joined x y)
both_loud {statements} {formats} {v} {w} {x} {y} h k = record {
  part = part_joined x y h.part k.part;
  begins = no_begin_joined x y h.begins k.begins;
  names = names_joined statements formats x y h.names k.names;
  weight = omega (arith, weights_joined x y, h.weight, k.weight);
}

pub loud_piece : {k statements formats v w : ℕ} {x y : List Op} → IsFirst k statements formats v x → IsLoud statements formats w y → v + w ≤ 12000 → IsPiece k statements formats true (joined x y)
loud_piece {k} {statements} {formats} {v} {w} {x} {y} h r light = record {
  part = part_joined x y h.part r.part;
  begins = begins_joined k x y h.begins;
  once = once_behind k x y h.begins h.once r.begins;
  names = names_joined statements formats x y h.names r.names;
  quiet = refl;
  light = omega (arith, light, weights_joined x y, h.weight, r.weight);
}
