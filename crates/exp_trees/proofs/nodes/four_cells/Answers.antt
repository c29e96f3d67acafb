use Rattle.std.proofs.Common.{◌*◌, lit≤, refl, arith}
use Rattle.std.proofs.lemmas.Int.{to_z-of_z}
use Rattle.std.specs.Prelude.{pos}
use Rattle.sil_model.specs.Access.{◌>>=◌, set_descr_at}
use Rattle.sil_model.specs.Effects.{onward}
use Rattle.sil_model.specs.Integers.{◌⊞◌}
use Rattle.sil_micro.specs.Expands.{at}
use Rattle.sil_micro.specs.Pieces.{joined}
use Rattle.sil_micro.proofs.Making.{more, by_way, then_part}
use Rattle.tree_clauses.specs.TreeClauses.{maknod, maybe_descr_at, set_maybe_descr_at}
use Rattle.exp_common.proofs.JoinedParts.{both_parts, grows_from, grows_then, whole_piece}
use Rattle.exp_common.proofs.Questions.{by_read}
use Rattle.exp_trees.specs.TreeParts.{fourth_code, made_code}
use Rattle.exp_trees.proofs.TreeHeads.{four_first, four_head}
use Rattle.exp_trees.proofs.Making.{fourth_goes, fourth_part, made_goes, made_part}
use Rattle.exp_trees.proofs.nodes.four_cells.Goals as goal
use mir.Val.{SFits}
use mir.Syntax.{w64}

pub returns : goal.returns
unfolding maknod maybe_descr_at set_maybe_descr_at
returns c =
    let d1 = c.args.d1 in
    let d2 = c.args.d2 in
    let d3 = c.args.d3 in
    let d4 = c.args.d4 in
    let d5 = c.args.d5 in
    let d6 = c.args.d6 in
    let f_d1 : SFits w64 d1 = c.ranges.d1 in
    let f_d2 : SFits w64 d2 = c.ranges.d2 in
    let f_d3 : SFits w64 d3 = c.ranges.d3 in
    let f_d4 : SFits w64 d4 = c.ranges.d4 in
    let f_d5 : SFits w64 d5 = c.ranges.d5 in
    let f_d6 : SFits w64 d6 = c.ranges.d6 in
    let head = simp to_z-of_z at c.in_ok-append.ensures.appends in
    let made = c.in_ok-append_made.ensures.grown in
    let rest = simp to_z-of_z at c.in_ok-append_fourth.ensures.grown in
    let front = four_head c.args.k d2 d3 d4 d5 d6 in
    let tail = both_parts (made_part 0 0) (fourth_part 0 0 d1) in
    record {
      piece = joined front (joined made_code (fourth_code d1));
      stands = grows_from _ _ _ _ c.begin_statement.ensures (grows_then _ _ _ front (joined made_code (fourth_code d1)) head (grows_then _ _ _ made_code (fourth_code d1) made rest));
      is_piece = whole_piece (four_first c.args.k _ _ d2 d3 d4 d5 d6) (both_parts (made_part _ _) (fourth_part _ _ d1)) (lit≤ tt);
      does = λ g program parameters u h.
          let m = u.state.memory in
          let valid = h.valid.memory in
          let size = m.limits.cell_size in
          let r = u.registers in
          by_read m d2 valid (λ none. record { fuel = 18; meets = simp (h.left, none) (refl, refl, lit≤ tt) }) (λ na nf nv is1 rn.
          by_read m d5 valid (λ none. record { fuel = 18; meets = simp (h.left, is1, none) (refl, refl, lit≤ tt) }) (λ fa ff fv is2 rf.
          by_read m d4 valid (λ none. record { fuel = 18; meets = simp (h.left, is1, is2, none) (refl, refl, lit≤ tt) }) (λ second f3 v3 is3 r3.
          by_read m d3 valid (λ none. record { fuel = 18; meets = simp (h.left, is1, is2, is3, none) (refl, refl, lit≤ tt) }) (λ third f4 v4 is4 r4.
          by_read m d6 valid (λ none. record { fuel = 18; meets = simp (h.left, is1, is2, is3, is4, none) (refl, refl, lit≤ tt) }) (λ xa xf xv is5 rx.
          by_way (then_part front tail.part (omega arith)
          (made_goes g (at c.args.k u.state) u.failed u.scratch (record r { r10 = xa; r11 = pos xf; r12 = pos xv }) 8400 na nf nv (fourth_code d1) (fourth_part 0 0 d1).part fa ff fv second third d6 r.r13 r.r14 r.r15 376
          (λ m3. set_descr_at m3 (na ⊞ pos (4 * size)) (record { a = xa; f = xf; v = xv }) >>= (λ m4. onward (set_descr_at m4 d1 (record { a = na; f = nf; v = nv })))) rf valid.limits.most (lit≤ tt)
          (λ cells x. fourth_goes g (at c.args.k u.state) u.failed u.scratch (record r { r5 = fa; r6 = pos ff; r7 = pos fv; r8 = second; r9 = third }) 8400 na nf nv xa xf xv d1 cells x 516 rn rx valid.limits.most (lit≤ tt))))
          (λ fuel y. record { fuel = more 17 fuel; meets = simp (h.left, is1, is2, is3, is4, is5) y }))))));
    }
