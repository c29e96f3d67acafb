use Rattle.std.proofs.Common.{◌≡◌, Some, sym, ap, ◌∙◌}
use Rattle.std.proofs.lemmas.Int.{to_z-of_z}
use Rattle.std.specs.Prelude.{slice_get}
use Rattle.exp_common.proofs.JoinedParts.{grows_from, grows_then}
use Rattle.exp_units.proofs.Printing.{output_code, output_does, output_piece}
use Rattle.exp_units.proofs.output.output.Goals as goal
use mir.Val.{SFits}
use mir.Syntax.{w64}

pub returns : goal.returns
returns c = λ args x.
    let f_d : SFits w64 c.args.d = c.ranges.d in
    let head = simp to_z-of_z at c.in_ok-append_head.ensures.grown in
    let k = c.args.k in
    let i = c.format_number-number.result in
    let d = c.args.d in
    let ats = c.args.places.now in
    let formats = c.args.code.now.formats in
    let is : slice_get formats i ≡ Some c.args.text.now = ap (λ l. slice_get l i) (sym c.formats.ensures) ∙ c.format_number-number.ensures in
    record {
      piece = output_code k d i ats;
      stands = grows_from _ _ _ _ c.begin_statement.ensures (grows_then _ _ _ _ _ head (grows_then _ _ _ _ _ c.in_ok-append_items.ensures.grown c.in_ok-append_call.ensures));
      is_piece = output_piece k _ i d formats c.args.text.now ats is c.requires.few;
      does = output_does k i d formats c.args.text.now ats is c.requires.few c.args.specials.now args x;
    }
