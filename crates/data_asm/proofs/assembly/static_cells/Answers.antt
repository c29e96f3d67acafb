use Rattle.std.proofs.Common.{◌≡◌, ◌+◌, ◌*◌, ◌++◌, [], length, drop, pos, ap, sym, subst, ◌∙◌, arith, to_z, of_z, w64}
use Rattle.std.specs.Prelude.{All}
use Rattle.std.proofs.lemmas.Int.{to_z-of_z}
use Rattle.std.proofs.Math.ListN.{drop_of_length-le}
use Rattle.std.proofs.lemmas.List.Elements.{All-append}
use Rattle.sil_base.specs.declared.places.TheConstants.{FIRST_CELL}
use Rattle.sil_model.specs.Memory.{FitsCell}
use Rattle.sil_model.specs.Start.{limits_of}
use Rattle.sil_symbols.specs.Symbols.{value_of}
use Rattle.data_asm.specs.Cells.{data_cells, cells_of, cells_after, static_cells_of}
use Rattle.data_asm.proofs.CountLemmas.{after_step, cells_grow}
use Rattle.data_asm.proofs.assembly.static_cells.Goals as goal

pub third_cell-at-requires-clause-few : goal.third_cell-at-requires-clause-few
unfolding static_cells_of
third_cell-at-requires-clause-few c =
    let p = c.args.source.now.params.now in
    let source = c.args.source.now.statements.now in
    let grow = cells_grow p.settings.sizes.descr (value_of p source) c.loop-statement.cells.items (drop c.loop-statement.statement-index source) in
    let all = ap length c.loop-statement.invariant.cells in
    let here = ap length c.as_slice.ensures.value in
    omega (arith, grow, all, here, c.requires.few)

pub loop-statement-preserved : goal.loop-statement-preserved
loop-statement-preserved c =
    let p = c.args.source.now.params.now in
    let source = c.args.source.now.statements.now in
    let size = p.settings.sizes.descr in
    let values = value_of p source in
    let items = c.loop-statement.cells.items in
    let i = c.loop-statement.statement-index in
    let s = c.statement-item.result in
    let bytes : c.descr-size.result ≡ size = cc in
    let count : length c.as_slice.result.now ≡ length items = ap length c.as_slice.ensures.value in
    let at : c.third_cell-at.result ≡ pos (FIRST_CELL + (length items + 2) * size) =
    c.third_cell-at.ensures ∙ ap (λ n. pos (FIRST_CELL + (n + 2) * c.descr-size.result)) count ∙ ap (λ n. pos (FIRST_CELL + (length items + 2) * n)) bytes in
    let same : to_z w64 (of_z w64 c.third_cell-at.result) ≡ c.third_cell-at.result = to_z-of_z w64 c.third_cell-at.result (record { sfits = c.third_cell-at.type_inv }) in
    let these : data_cells size values (to_z w64 (of_z w64 c.third_cell-at.result)) s.name s.operands ≡ cells_of size values (length items) s =
    ap (λ a. data_cells size values a s.name s.operands) (same ∙ at) in
    let pushed : c.push_data.new.cells.items ≡ items ++ cells_of size values (length items) s =
    c.in_ok-push_data.ensures ∙ ap (λ xs. items ++ xs) these in
    record {
      cells = c.loop-statement.invariant.cells
          ∙ after_step size values items source i s c.loop-statement-test.true c.statement-item.is
          ∙ ap (λ xs. cells_after size values xs (drop (i + 1) source)) (sym pushed);
      fit = subst (All (FitsCell (limits_of p.settings))) (sym c.in_ok-push_data.ensures)
          (All-append (FitsCell (limits_of p.settings)) items (data_cells size values (to_z w64 (of_z w64 c.third_cell-at.result)) s.name s.operands) c.loop-statement.invariant.fit c.law_of_data.ensures);
    }

pub returns-clause-cells : goal.returns-clause-cells
unfolding static_cells_of
returns-clause-cells c =
    let p = c.args.source.now.params.now in
    let source = c.args.source.now.statements.now in
    let none : drop c.loop-statement.statement-index source ≡ [] = drop_of_length-le source c.loop-statement-test.false in
    sym (c.loop-statement.invariant.cells ∙ ap (cells_after p.settings.sizes.descr (value_of p source) c.loop-statement.cells.items) none)
