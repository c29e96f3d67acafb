use Rattle.std.proofs.Common.{Some, lit≤, refl, arith}
use Rattle.std.proofs.lemmas.Int.{to_z-of_z}
use Rattle.std.specs.Prelude.{pos}
use Rattle.sil_model.specs.Integers.{◌⊞◌}
use Rattle.spec_clauses.specs.SpecifierClauses.{setsp}
use Rattle.sil_micro.specs.Expands.{at}
use Rattle.sil_micro.specs.Pieces.{joined}
use Rattle.sil_micro.proofs.Making.{more, by_way, then_part}
use Rattle.exp_common.proofs.JoinedParts.{grows_from, grows_then, whole_piece}
use Rattle.exp_common.proofs.Questions.{by_read}
use Rattle.exp_spec.specs.SpecParts.{write_code}
use Rattle.exp_spec.proofs.SpecHeads.{setsp_first, setsp_head}
use Rattle.exp_spec.proofs.SpecWrites.{write_goes, write_part}
use Rattle.exp_spec.proofs.specifiers.setsp.Goals as goal
use mir.Val.{SFits}
use mir.Syntax.{w64}

pub returns : goal.returns
unfolding setsp
returns c =
    let f_s1 : SFits w64 c.args.s1 = c.ranges.s1 in
    let f_s2 : SFits w64 c.args.s2 = c.ranges.s2 in
    let head = simp to_z-of_z at c.in_ok-append.ensures.appends in
    record {
      piece = joined (setsp_head c.args.k c.args.s1 c.args.s2) write_code;
      stands = grows_from _ _ _ _ c.begin_statement.ensures (grows_then _ _ _ (setsp_head c.args.k c.args.s1 c.args.s2) write_code head c.in_ok-append_write.ensures.grown);
      is_piece = whole_piece (setsp_first c.args.k _ _ c.args.s1 c.args.s2) (write_part _ _) (lit≤ tt);
      does = λ g program parameters u h.
          let m = u.state.memory in
          let valid = h.valid.memory in
          let d = pos m.limits.cell_size in
          by_read m c.args.s2 valid (λ none. record { fuel = 12; meets = simp (h.left, none) (refl, refl, lit≤ tt) }) (λ a f v is read.
          by_read m (c.args.s2 ⊞ d) valid (λ none. record { fuel = 12; meets = simp (h.left, is, none) (refl, refl, lit≤ tt) }) (λ o f2 l is2 read2.
          by_way (then_part (setsp_head c.args.k c.args.s1 c.args.s2) ((write_part 0 0).part) (omega arith)
          (write_goes g (at c.args.k u.state) u.failed u.scratch u.registers 4400 c.args.s1 a f v (o) (pos l) 200 read.f_again read.v_again (lit≤ tt) (Some l) read2.v_again))
          (λ fuel y. record { fuel = more 10 fuel; meets = simp (h.left, is, is2) y })));
    }
