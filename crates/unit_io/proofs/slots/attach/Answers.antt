use Rattle.std.proofs.Common.{◌≡◌, ◌+◌, ◌-◌, arith, sym, ◌∙◌}
use Rattle.unit_io.proofs.Places.{unit_at-place, with_unit-place}
use Rattle.unit_io.proofs.slots.attach.Goals as goal

pub returns-clause-before : goal.returns-clause-before
returns-clause-before g c =
    let at : c.args.n - 1 + 1 ≡ c.args.n = omega (arith, c.requires.first) in
    c.replace.ensures.value ∙ sym (unit_at-place c.args.slots.now c.args.n (c.args.n - 1) _ at (omega (arith, c.requires.first, c.requires.last)))

pub returns-clause-after : goal.returns-clause-after
returns-clause-after g c =
    let at : c.args.n - 1 + 1 ≡ c.args.n = omega (arith, c.requires.first) in
    rw c.replace.ensures.after (sym (with_unit-place c.args.slots.now c.args.n (c.args.n - 1) _ at))
