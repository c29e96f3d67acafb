use Rattle.std.proofs.Common.{◌*◌, lit≤, refl, arith}
use Rattle.std.proofs.lemmas.Int.{to_z-of_z}
use Rattle.std.specs.Prelude.{pos}
use Rattle.sil_model.specs.Integers.{◌⊞◌}
use Rattle.sil_micro.specs.Expands.{at}
use Rattle.sil_micro.specs.Pieces.{joined}
use Rattle.sil_micro.proofs.Making.{more, by_way, then_part}
use Rattle.tree_clauses.specs.TreeClauses.{insert}
use Rattle.exp_common.proofs.JoinedParts.{grows_from, grows_then, whole_piece}
use Rattle.exp_common.proofs.Questions.{by_read}
use Rattle.exp_trees.specs.TreeParts.{inserted_code}
use Rattle.exp_trees.proofs.CellSizes.{three_cells, two_cells}
use Rattle.exp_trees.proofs.TreeHeads.{insert_first, insert_head}
use Rattle.exp_trees.proofs.Inserting.{inserted_goes, inserted_part}
use Rattle.exp_trees.proofs.nodes.insert.Goals as goal
use mir.Val.{SFits}
use mir.Syntax.{w64}

pub returns : goal.returns
unfolding insert
returns c =
    let f_d1 : SFits w64 c.args.d1 = c.ranges.d1 in
    let f_d2 : SFits w64 c.args.d2 = c.ranges.d2 in
    let head = simp to_z-of_z at c.in_ok-append.ensures.appends in
    record {
      piece = joined (insert_head c.args.k c.args.d1 c.args.d2) inserted_code;
      stands = grows_from _ _ _ _ c.begin_statement.ensures (grows_then _ _ _ (insert_head c.args.k c.args.d1 c.args.d2) inserted_code head c.in_ok-append_inserted.ensures.grown);
      is_piece = whole_piece (insert_first c.args.k _ _ c.args.d1 c.args.d2) (inserted_part _ _) (lit≤ tt);
      does = λ g program parameters u h.
          let m = u.state.memory in
          let valid = h.valid.memory in
          let size = m.limits.cell_size in
          let two = two_cells size valid.limits.most in
          let three = three_cells size valid.limits.most in
          by_read m c.args.d1 valid (λ none. record { fuel = 21; meets = simp (h.left, none) (refl, refl, lit≤ tt) }) (λ aa af av is1 ra.
          by_read m (aa ⊞ pos size) valid (λ none. record { fuel = 21; meets = simp (h.left, is1, none) (refl, refl, lit≤ tt) }) (λ fa ff fv is2 rf.
          by_read m c.args.d2 valid (λ none. record { fuel = 21; meets = simp (h.left, is1, is2, none) (refl, refl, lit≤ tt) }) (λ ba bf bv is3 rb.
          by_read m (aa ⊞ pos (3 * size)) valid (λ none. record { fuel = 21; meets = simp (h.left, is1, is2, is3, two, three, none) (refl, refl, lit≤ tt) }) (λ sa sf sv is4 rs.
          by_way (then_part (insert_head c.args.k c.args.d1 c.args.d2) (inserted_part 0 0).part (omega arith)
          (inserted_goes g (at c.args.k u.state) u.failed u.scratch u.registers 7200 aa af av fa ff fv ba bf bv sa sf sv (aa ⊞ pos (3 * size)) 420 valid ra rf rb rs (lit≤ tt)))
          (λ fuel y. record { fuel = more 20 fuel; meets = simp (h.left, is1, is2, is3, two, three, is4) y })))));
    }
