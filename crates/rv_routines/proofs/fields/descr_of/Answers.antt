use Rattle.std.proofs.Common.{arith}
use Rattle.layout_params.proofs.LegalLayouts.{legal}
use Rattle.rv_routines.proofs.fields.descr_of.Goals as goal

pub overflow_cast-result : goal.overflow_cast-result
overflow_cast-result g c =
    let h = legal (g.L.Layout.sizes c.args.layout.now) (g.met.L.Layout.legal c.args.layout.now) in
    record { sfits = omega (arith, c.descr.ensures, h.most) }
