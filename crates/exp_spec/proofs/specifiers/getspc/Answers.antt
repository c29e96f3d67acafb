use Rattle.std.proofs.Common.{Some, lit≤, refl, arith}
use Rattle.std.proofs.lemmas.Int.{to_z-of_z}
use Rattle.std.specs.Prelude.{pos}
use Rattle.sil_model.specs.Integers.{◌⊞◌}
use Rattle.spec_clauses.specs.SpecifierClauses.{getspc}
use Rattle.sil_micro.specs.Expands.{at}
use Rattle.sil_micro.specs.Pieces.{joined}
use Rattle.sil_micro.proofs.Making.{more, by_way, then_part}
use Rattle.exp_common.proofs.JoinedParts.{grows_from, grows_then, whole_piece}
use Rattle.exp_common.proofs.Questions.{by_read}
use Rattle.exp_spec.specs.SpecParts.{write_code}
use Rattle.exp_spec.proofs.SpecHeads.{getspc_first, getspc_head}
use Rattle.exp_spec.proofs.SpecWrites.{write_goes, write_part}
use Rattle.exp_spec.proofs.specifiers.getspc.Goals as goal
use mir.Val.{SFits}
use mir.Syntax.{w64}

pub returns : goal.returns
unfolding getspc
returns c =
    let f_s : SFits w64 c.args.s = c.ranges.s in
    let f_d : SFits w64 c.args.d = c.ranges.d in
    let f_n : SFits w64 c.args.n = c.ranges.n in
    let head = simp to_z-of_z at c.in_ok-append.ensures.appends in
    record {
      piece = joined (getspc_head c.args.k c.args.s c.args.d c.args.n) write_code;
      stands = grows_from _ _ _ _ c.begin_statement.ensures (grows_then _ _ _ (getspc_head c.args.k c.args.s c.args.d c.args.n) write_code head c.in_ok-append_write.ensures.grown);
      is_piece = whole_piece (getspc_first c.args.k _ _ c.args.s c.args.d c.args.n) (write_part _ _) (lit≤ tt);
      does = λ g program parameters u h.
          let m = u.state.memory in
          let valid = h.valid.memory in
          let d = pos m.limits.cell_size in
          by_read m c.args.d valid (λ none. record { fuel = 15; meets = simp (h.left, none) (refl, refl, lit≤ tt) }) (λ a1 f1 v1 is1 read1.
          by_read m (a1 ⊞ c.args.n) valid (λ none. record { fuel = 15; meets = simp (h.left, is1, none) (refl, refl, lit≤ tt) }) (λ a f v is read.
          by_read m (a1 ⊞ c.args.n ⊞ d) valid (λ none. record { fuel = 15; meets = simp (h.left, is1, is, none) (refl, refl, lit≤ tt) }) (λ o f2 l is2 read2.
          by_way (then_part (getspc_head c.args.k c.args.s c.args.d c.args.n) ((write_part 0 0).part) (omega arith)
          (write_goes g (at c.args.k u.state) u.failed u.scratch u.registers 5200 c.args.s a f v (o) (pos l) 244 read.f_again read.v_again (lit≤ tt) (Some l) read2.v_again))
          (λ fuel y. record { fuel = more 13 fuel; meets = simp (h.left, is1, is, is2) y }))));
    }
