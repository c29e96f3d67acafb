use Rattle.std.proofs.Common.{◌≡◌, ◌+◌, ◌*◌, true, Some, length, lit≤, refl, arith}
use Rattle.std.proofs.lemmas.Int.{to_z-of_z}
use Rattle.std.specs.Prelude.{pos, nat_le}
use Rattle.std.proofs.lemmas.Bool.Decides.{nat_tests}
use Rattle.sil_model.specs.Access.{set_v_at}
use Rattle.sil_model.specs.Integers.{◌⊞◌}
use Rattle.spec_clauses.specs.SpecifierClauses.{locsp}
use Rattle.sil_micro.specs.Expands.{at}
use Rattle.sil_micro.specs.Pieces.{joined}
use Rattle.sil_micro.proofs.Making.{by_option, more, by_way, then_part}
use Rattle.exp_common.proofs.JoinedParts.{grows_from, grows_then, whole_piece}
use Rattle.exp_common.proofs.Questions.{by_read}
use Rattle.exp_spec.specs.SpecParts.{write_code}
use Rattle.exp_spec.proofs.Sizes.{four_times}
use Rattle.exp_spec.proofs.ZeroAddresses.{by_zero}
use Rattle.exp_spec.proofs.SpecHeads.{locsp_first, locsp_head}
use Rattle.exp_spec.proofs.SpecWrites.{write_goes, write_part}
use Rattle.exp_spec.proofs.specifiers.locsp.Goals as goal
use mir.Val.{SFits}
use mir.Syntax.{w64}

pub returns : goal.returns
unfolding locsp
returns c =
    let f_s : SFits w64 c.args.s = c.ranges.s in
    let f_d : SFits w64 c.args.d = c.ranges.d in
    let within : nat_le (c.args.k + 1) (length c.args.code.now.entries) ≡ true = grind (arith, nat_tests, c.requires.statement) in
    let head = simp to_z-of_z at c.in_ok-append.ensures.appends in
    record {
      piece = joined (locsp_head c.args.k c.args.s c.args.d) write_code;
      stands = grows_from _ _ _ _ c.begin_statement.ensures (grows_then _ _ _ (locsp_head c.args.k c.args.s c.args.d) write_code head c.in_ok-append_write.ensures.grown);
      is_piece = whole_piece (locsp_first c.args.k _ _ c.args.s c.args.d within) (write_part _ _) (lit≤ tt);
      does = λ g program parameters u h.
          let m = u.state.memory in
          let valid = h.valid.memory in
          let d = pos m.limits.cell_size in
          by_read m c.args.d valid (λ none. record { fuel = 17; meets = simp (h.left, none) (refl, refl, lit≤ tt) }) (λ a f v is read.
          by_zero a
          (λ zero same. by_option (set_v_at m (c.args.s ⊞ d) (pos 0)) (λ none. record { fuel = 17; meets = simp (h.left, is, zero, same, none) (refl, refl, lit≤ tt) }) (λ after set. record { fuel = 17; meets = simp (h.left, is, zero, same, set) (refl, lit≤ tt) }))
          (λ some differs. by_read m a valid (λ none. record { fuel = 17; meets = simp (h.left, is, some, differs, none) (refl, refl, lit≤ tt) }) (λ a2 f2 l is2 read2.
          let four = four_times m.limits.cell_size valid.limits.most in
          by_way (then_part (locsp_head c.args.k c.args.s c.args.d) ((write_part 0 0).part) (omega arith)
          (write_goes g (at c.args.k u.state) u.failed u.scratch (record u.registers { r8 = pos 0 }) 4400 c.args.s a f v (pos (4 * m.limits.cell_size)) (pos l) 196 read.f_again read.v_again (lit≤ tt) (Some l) read2.v_again))
          (λ fuel y. record { fuel = more 12 fuel; meets = simp (h.left, is, some, differs, is2, four) y }))));
    }
