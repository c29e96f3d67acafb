-- Where operations stand: their places rise, and stay near.
use Rattle.std.proofs.Common.{◌≡◌, ℕ, suc, ◌+◌, ◌-◌, ◌*◌, ◌%◌, ◌^◌, ◌<◌, ◌≤◌, length, Some, ap, arith}
use Rattle.std.specs.Prelude.{slice_get, sum_by}
use Rattle.layout_params.specs.Parameters.{Settings}
use Rattle.layout_params.proofs.LegalLayouts.{legal}
use Rattle.sil_micro.specs.declared.op.Op.{Op}
use Rattle.sil_micro.specs.Codes.{MicroCode}
use Rattle.rv_emit.specs.Code.{first_op, length_of, op_place, last_place}
use Rattle.rv_emit.specs.Emits.{CanEmit}
use Rattle.rv_emit.proofs.Sums.{sum_next, sum_more, sum_rises, take_all}
use Rattle.rv_emit.proofs.Weights.{some_long, sum_within}

module _ (settings : Settings) (c : MicroCode) where
  abbrev long : Op → ℕ
  long op = length_of settings c.static_cells op

  -- the next operation stands behind this one
  pub place_next : (q : ℕ) (op : Op) → slice_get c.ops q ≡ Some op → op_place settings c (suc q) ≡ op_place settings c q + 4 * length_of settings c.static_cells op
  unfolding op_place
  place_next q op e = let more = sum_next long c.ops q op e in omega arith

  pub place_more : (q r : ℕ) → q ≤ r → op_place settings c q ≤ op_place settings c r
  unfolding op_place
  place_more q r h = let more = sum_more long c.ops q r h in omega arith

  pub place_rises : (q r : ℕ) → q < r → r ≤ length c.ops → op_place settings c q < op_place settings c r
  unfolding op_place
  place_rises q r h le = let more = sum_rises long (some_long settings c.static_cells) c.ops q r h le in omega arith

  -- none stands before the first place
  pub place_first : (q : ℕ) → first_op settings.sizes.descr (length c.entries) ≤ op_place settings c q
  unfolding op_place
  place_first q = omega arith

  pub place_even : (q : ℕ) → op_place settings c q % 4 ≡ 0
  unfolding op_place
  place_even q = omega arith

  -- the code's last place is near
  pub last_near : CanEmit c settings → last_place settings c < 2 ^ 31 - 2 ^ 13 - 2 ^ 10
  unfolding op_place
  last_near can =
      let sum = ap (λ ops. sum_by long ops) (take_all c.ops) in
      let light = sum_within settings c.static_cells c.ops in
      let d = (legal settings.sizes can.legal.layout).most in
      omega (arith, can.whole.light, can.whole.few)

  pub place_near : CanEmit c settings → (q : ℕ) → q ≤ length c.ops → op_place settings c q < 2 ^ 31 - 2 ^ 13 - 2 ^ 10
  place_near can q h = let low = last_near can in let more = place_more q (length c.ops) h in omega arith
