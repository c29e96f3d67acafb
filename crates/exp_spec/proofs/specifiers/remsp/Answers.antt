use Rattle.std.proofs.Common.{lit≤, refl, arith}
use Rattle.std.proofs.lemmas.Int.{to_z-of_z}
use Rattle.std.specs.Prelude.{pos, ◌-ℤ◌}
use Rattle.sil_model.specs.Integers.{◌⊞◌, ◌⊟◌, within}
use Rattle.spec_clauses.specs.SpecifierClauses.{remsp}
use Rattle.sil_micro.specs.Expands.{at}
use Rattle.sil_micro.specs.Pieces.{joined}
use Rattle.sil_micro.proofs.Making.{more, by_way, then_part}
use Rattle.exp_common.proofs.JoinedParts.{grows_from, grows_then, whole_piece}
use Rattle.exp_common.proofs.Questions.{by_read}
use Rattle.exp_spec.specs.SpecParts.{write_code}
use Rattle.exp_spec.proofs.LengthFields.{within_difference}
use Rattle.exp_spec.proofs.SpecHeads.{remsp_first, remsp_head}
use Rattle.exp_spec.proofs.SpecWrites.{write_goes, write_part}
use Rattle.exp_spec.proofs.specifiers.remsp.Goals as goal
use mir.Val.{SFits}
use mir.Syntax.{w64}

pub returns : goal.returns
unfolding remsp
returns c =
    let f_s1 : SFits w64 c.args.s1 = c.ranges.s1 in
    let f_s2 : SFits w64 c.args.s2 = c.ranges.s2 in
    let f_s3 : SFits w64 c.args.s3 = c.ranges.s3 in
    let head = simp to_z-of_z at c.in_ok-append.ensures.appends in
    record {
      piece = joined (remsp_head c.args.k c.args.s1 c.args.s2 c.args.s3) write_code;
      stands = grows_from _ _ _ _ c.begin_statement.ensures (grows_then _ _ _ (remsp_head c.args.k c.args.s1 c.args.s2 c.args.s3) write_code head c.in_ok-append_write.ensures.grown);
      is_piece = whole_piece (remsp_first c.args.k _ _ c.args.s1 c.args.s2 c.args.s3) (write_part _ _) (lit≤ tt);
      does = λ g program parameters u h.
          let m = u.state.memory in
          let valid = h.valid.memory in
          let d = pos m.limits.cell_size in
          by_read m c.args.s2 valid (λ none. record { fuel = 17; meets = simp (h.left, none) (refl, refl, lit≤ tt) }) (λ a f v is read.
          by_read m (c.args.s2 ⊞ d) valid (λ none. record { fuel = 17; meets = simp (h.left, is, none) (refl, refl, lit≤ tt) }) (λ o f2 l is2 read2.
          by_read m (c.args.s3 ⊞ d) valid (λ none. record { fuel = 17; meets = simp (h.left, is, is2, none) (refl, refl, lit≤ tt) }) (λ a3 f3 n is3 read3.
          let same = within_difference m.limits.value_limit l (pos n) valid.limits.values read2.value (omega (arith, read3.value)) in
          by_way (then_part (remsp_head c.args.k c.args.s1 c.args.s2 c.args.s3) ((write_part 0 0).part) (omega arith)
          (write_goes g (at c.args.k u.state) u.failed u.scratch (record u.registers { r8 = pos n }) 5200 c.args.s1 a f v (o ⊞ pos n) (pos l ⊟ pos n) 260 read.f_again read.v_again (lit≤ tt) (within m.limits.value_limit (pos l -ℤ pos n)) same))
          (λ fuel y. record { fuel = more 15 fuel; meets = simp (h.left, is, is2, is3) y }))));
    }
