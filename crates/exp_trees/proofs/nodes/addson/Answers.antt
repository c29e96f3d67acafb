use Rattle.std.proofs.Common.{◌*◌, lit≤, refl, arith}
use Rattle.std.proofs.lemmas.Int.{to_z-of_z}
use Rattle.std.specs.Prelude.{pos}
use Rattle.sil_model.specs.Integers.{◌⊞◌}
use Rattle.sil_micro.specs.Expands.{at}
use Rattle.sil_micro.specs.Pieces.{joined}
use Rattle.sil_micro.proofs.Making.{more, by_way, then_part}
use Rattle.tree_clauses.specs.TreeClauses.{addson}
use Rattle.exp_common.proofs.JoinedParts.{grows_from, grows_then, whole_piece}
use Rattle.exp_common.proofs.Questions.{by_read}
use Rattle.exp_trees.specs.TreeParts.{linked_code}
use Rattle.exp_trees.proofs.CellSizes.{four_cells, three_cells, two_cells}
use Rattle.exp_trees.proofs.TreeHeads.{addson_first, addson_head}
use Rattle.exp_trees.proofs.Linking.{linked_goes, linked_part}
use Rattle.exp_trees.proofs.nodes.addson.Goals as goal
use mir.Val.{SFits}
use mir.Syntax.{w64}

pub returns : goal.returns
unfolding addson
returns c =
    let f_d1 : SFits w64 c.args.d1 = c.ranges.d1 in
    let f_d2 : SFits w64 c.args.d2 = c.ranges.d2 in
    let head = simp to_z-of_z at c.in_ok-append.ensures.appends in
    record {
      piece = joined (addson_head c.args.k c.args.d1 c.args.d2) linked_code;
      stands = grows_from _ _ _ _ c.begin_statement.ensures (grows_then _ _ _ (addson_head c.args.k c.args.d1 c.args.d2) linked_code head c.in_ok-append_linked.ensures.grown);
      is_piece = whole_piece (addson_first c.args.k _ _ c.args.d1 c.args.d2) (linked_part _ _) (lit≤ tt);
      does = λ g program parameters u h.
          let m = u.state.memory in
          let valid = h.valid.memory in
          let size = m.limits.cell_size in
          let two = two_cells size valid.limits.most in
          let three = three_cells size valid.limits.most in
          let four = four_cells size valid.limits.most in
          by_read m c.args.d1 valid (λ none. record { fuel = 20; meets = simp (h.left, none) (refl, refl, lit≤ tt) }) (λ fa ff fv is1 rf.
          by_read m c.args.d2 valid (λ none. record { fuel = 20; meets = simp (h.left, is1, none) (refl, refl, lit≤ tt) }) (λ ba bf bv is2 rb.
          by_read m (fa ⊞ pos (2 * size)) valid (λ none. record { fuel = 20; meets = simp (h.left, is1, is2, two, three, four, none) (refl, refl, lit≤ tt) }) (λ sa sf sv is3 rs.
          by_read m (fa ⊞ pos (4 * size)) valid (λ none. record { fuel = 20; meets = simp (h.left, is1, is2, two, three, four, is3, none) (refl, refl, lit≤ tt) }) (λ ca cf sons is4 rc.
          by_way (then_part (addson_head c.args.k c.args.d1 c.args.d2) (linked_part 0 0).part (omega arith)
          (linked_goes g (at c.args.k u.state) u.failed u.scratch u.registers 6000 fa ff fv ba bf bv sa sf sv sons (fa ⊞ pos (2 * size)) (fa ⊞ pos (4 * size)) c.args.d2 372 rf rb rs rc.value (lit≤ tt)))
          (λ fuel y. record { fuel = more 19 fuel; meets = simp (h.left, is1, is2, two, three, four, is3, is4) y })))));
    }
