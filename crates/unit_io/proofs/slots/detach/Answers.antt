use Rattle.std.proofs.Common.{sym, ◌∙◌}
use Rattle.unit_io.proofs.Places.{unit_at-place, unit_at-none, with_unit-place, with_unit-none}
use Rattle.unit_io.proofs.slots.detach.Goals as goal

pub returns-in_err-place : goal.returns-in_err-place
returns-in_err-place g c =
    let none = unit_at-none c.args.slots.now c.args.n c.in_err-place.ensures in
    record { before = c.from_residual.ensures ∙ sym none; after = with_unit-none c.args.slots.now c.args.n none }

pub returns : goal.returns
returns g c =
    let at = c.in_ok-place.ensures in
    record {
      before = c.replace.ensures.value ∙ sym (unit_at-place c.args.slots.now c.args.n _ _ at.0 at.1);
      after = rw c.replace.ensures.after (sym (with_unit-place c.args.slots.now c.args.n _ _ at.0));
    }
