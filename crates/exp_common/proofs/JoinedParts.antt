-- Parts of a piece that are put together.
use Rattle.std.proofs.Common.{◌≡◌, ℕ, ◌+◌, ◌≤◌, List, [], ◌∷◌, length, true, false, Some, refl, ap, ◌∙◌, arith}
use Rattle.std.specs.Prelude.{slice_get}
use Rattle.sil_micro.specs.declared.op.Op.{Op}
use Rattle.sil_micro.specs.declared.op.Op.TheVariants.{Jump, JumpIf, UnitCall, Begin}
use Rattle.sil_micro.specs.Codes.{MicroCode, appended}
use Rattle.sil_micro.specs.Expands.{IsPiece}
use Rattle.sil_micro.specs.Forms.{all_ops}
use Rattle.sil_micro.specs.Pieces.{joined, placed, placed_op, is_part, is_no_begin, begins_once, names_within, is_quiet, weights}
use Rattle.sil_micro.proofs.Parts.{appended_twice, all_alike, all_append, part_joined, names_joined, once_joined, no_begin_joined, weights_joined}

quiet_placed : (b : ℕ) (op : Op) → is_quiet op ≡ true → is_quiet (placed_op b op) ≡ true
quiet_placed b (Jump to) h = refl
quiet_placed b (JumpIf test left right to) h = refl
quiet_placed b (UnitCall call unit to text values) h = h
quiet_placed b _ h = refl

quiet_joined : (x y : List Op) → all_ops is_quiet x ≡ true → all_ops is_quiet y ≡ true → all_ops is_quiet (joined x y) ≡ true
unfolding placed
quiet_joined x y h k = all_append is_quiet x _ h (all_alike is_quiet is_quiet (placed_op (length x)) (quiet_placed (length x)) y k)

-- the operations of a part that is not the first, in a code of so many statements and formats, and what they weigh
pub record IsPart (statements formats w : ℕ) (ops : List Op) : Type 0 where
  pub part : is_part ops ≡ true
  pub begins : all_ops is_no_begin ops ≡ true
  pub names : all_ops (names_within statements formats) ops ≡ true
  pub quiet : all_ops is_quiet ops ≡ true
  pub weight : weights ops ≡ w

pub both_parts : {statements formats v w : ℕ} {x y : List Op} → IsPart statements formats v x → IsPart statements formats w y → IsPart statements formats (v + w) (joined x y)
both_parts {statements} {formats} {v} {w} {x} {y} h k = record {
  part = part_joined x y h.part k.part;
  begins = no_begin_joined x y h.begins k.begins;
  names = names_joined statements formats x y h.names k.names;
  quiet = quiet_joined x y h.quiet k.quiet;
  weight = omega (arith, weights_joined x y, h.weight, k.weight);
}

-- the first part, which begins statement k
pub record IsFirst (k statements formats w : ℕ) (ops : List Op) : Type 0 where
  pub part : is_part ops ≡ true
  pub begins : slice_get ops 0 ≡ Some (Begin k)
  pub once : begins_once ops ≡ true
  pub names : all_ops (names_within statements formats) ops ≡ true
  pub quiet : all_ops is_quiet ops ≡ true
  pub weight : weights ops ≡ w

pub begins_joined : (k : ℕ) (x y : List Op) → slice_get x 0 ≡ Some (Begin k) → slice_get (joined x y) 0 ≡ Some (Begin k)
begins_joined k [] y h = absurd (cc)
begins_joined k (op ∷ x) y h = h

pub once_behind : (k : ℕ) (x y : List Op) → slice_get x 0 ≡ Some (Begin k) → begins_once x ≡ true → all_ops is_no_begin y ≡ true → begins_once (joined x y) ≡ true
once_behind k [] y h once none = absurd (cc)
once_behind k (op ∷ x) y h once none = once_joined op x y once none

pub whole_piece : {k statements formats v w : ℕ} {x y : List Op} → IsFirst k statements formats v x → IsPart statements formats w y → v + w ≤ 12000 → IsPiece k statements formats false (joined x y)
whole_piece {k} {statements} {formats} {v} {w} {x} {y} h r light = record {
  part = part_joined x y h.part r.part;
  begins = begins_joined k x y h.begins;
  once = once_behind k x y h.begins h.once r.begins;
  names = names_joined statements formats x y h.names r.names;
  quiet = quiet_joined x y h.quiet r.quiet;
  light = omega (arith, light, weights_joined x y, h.weight, r.weight);
}

-- a code that grows by one part and then by another
pub grows_then : (old mid new : MicroCode) (x y : List Op) → mid ≡ appended old x → new ≡ appended mid y → new ≡ appended old (joined x y)
grows_then old mid new x y e1 e2 = e2 ∙ ap (λ c. appended c y) e1 ∙ appended_twice old x y

-- a code that grows from the same
pub grows_from : (start same new : MicroCode) (piece : List Op) → same ≡ start → new ≡ appended same piece → new ≡ appended start piece
grows_from start same new piece e1 e2 = e2 ∙ ap (λ c. appended c piece) e1
