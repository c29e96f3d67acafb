use Rattle.std.proofs.Common.{arith}
use Rattle.layout_params.proofs.LegalLayouts.{IsLegal, legal}
use Rattle.layout_params.proofs.packing.unpack_descr.Goals as goal

pub number_at-requires-clause-room : goal.number_at-requires-clause-room
number_at-requires-clause-room g c =
    let fit : IsLegal (g.L.Layout.sizes c.args.layout.now) = legal (g.L.Layout.sizes c.args.layout.now) (g.met.L.Layout.legal c.args.layout.now) in
    let room = fit.a_within in
    omega arith

pub number_at-requires-2-clause-room : goal.number_at-requires-2-clause-room
number_at-requires-2-clause-room g c =
    let fit : IsLegal (g.L.Layout.sizes c.args.layout.now) = legal (g.L.Layout.sizes c.args.layout.now) (g.met.L.Layout.legal c.args.layout.now) in
    let room = fit.f_within in
    omega arith
