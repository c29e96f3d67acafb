use Rattle.std.proofs.Common.{Some, lit≤, refl, arith}
use Rattle.std.proofs.lemmas.Int.{to_z-of_z}
use Rattle.std.specs.Prelude.{pos}
use Rattle.sil_model.specs.Integers.{◌⊞◌}
use Rattle.spec_clauses.specs.SpecifierClauses.{putspc}
use Rattle.sil_micro.specs.Expands.{at}
use Rattle.sil_micro.specs.Pieces.{joined}
use Rattle.sil_micro.proofs.Making.{more, by_way, then_part}
use Rattle.exp_common.proofs.JoinedParts.{grows_from, grows_then, whole_piece}
use Rattle.exp_common.proofs.Questions.{by_read}
use Rattle.exp_spec.specs.SpecParts.{write_code}
use Rattle.exp_spec.proofs.SpecHeads.{putspc_first, putspc_head}
use Rattle.exp_spec.proofs.SpecWrites.{write_goes, write_part}
use Rattle.exp_spec.proofs.specifiers.putspc.Goals as goal
use mir.Val.{SFits}
use mir.Syntax.{w64}

pub returns : goal.returns
unfolding putspc
returns c =
    let f_d : SFits w64 c.args.d = c.ranges.d in
    let f_n : SFits w64 c.args.n = c.ranges.n in
    let f_s : SFits w64 c.args.s = c.ranges.s in
    let head = simp to_z-of_z at c.in_ok-append.ensures.appends in
    record {
      piece = joined (putspc_head c.args.k c.args.d c.args.n c.args.s) write_code;
      stands = grows_from _ _ _ _ c.begin_statement.ensures (grows_then _ _ _ (putspc_head c.args.k c.args.d c.args.n c.args.s) write_code head c.in_ok-append_write.ensures.grown);
      is_piece = whole_piece (putspc_first c.args.k _ _ c.args.d c.args.n c.args.s) (write_part _ _) (lit≤ tt);
      does = λ g program parameters u h.
          let m = u.state.memory in
          let valid = h.valid.memory in
          let d = pos m.limits.cell_size in
          by_read m c.args.d valid (λ none. record { fuel = 16; meets = simp (h.left, none) (refl, refl, lit≤ tt) }) (λ a1 f1 v1 is1 read1.
          by_read m c.args.s valid (λ none. record { fuel = 16; meets = simp (h.left, is1, none) (refl, refl, lit≤ tt) }) (λ a f v is read.
          by_read m (c.args.s ⊞ d) valid (λ none. record { fuel = 16; meets = simp (h.left, is1, is, none) (refl, refl, lit≤ tt) }) (λ o f2 l is2 read2.
          by_way (then_part (putspc_head c.args.k c.args.d c.args.n c.args.s) ((write_part 0 0).part) (omega arith)
          (write_goes g (at c.args.k u.state) u.failed u.scratch (record u.registers { r8 = a1 ⊞ c.args.n; r9 = c.args.n }) 5200 (a1 ⊞ c.args.n) a f v (o) (pos l) 252 read.f_again read.v_again (lit≤ tt) (Some l) read2.v_again))
          (λ fuel y. record { fuel = more 14 fuel; meets = simp (h.left, is1, is, is2) y }))));
    }
