use Rattle.std.proofs.Common.{arith}
use Rattle.layout_params.specs.declared.cell.Field.TheVariants.{A, F, V}
use Rattle.layout_params.proofs.LegalLayouts.{legal}
use Rattle.rv_routines.proofs.FieldPlaces.{place_below}
use Rattle.rv_routines.proofs.fields.place_of.Goals as goal

pub returns-in-A-clause-small : goal.returns-in-A-clause-small
returns-in-A-clause-small g c = omega (arith, c.a_at.ensures, place_below (g.L.Layout.sizes c.args.layout.now) A (legal (g.L.Layout.sizes c.args.layout.now) (g.met.L.Layout.legal c.args.layout.now)))

pub returns-in-F-clause-small : goal.returns-in-F-clause-small
returns-in-F-clause-small g c = omega (arith, c.f_at.ensures, place_below (g.L.Layout.sizes c.args.layout.now) F (legal (g.L.Layout.sizes c.args.layout.now) (g.met.L.Layout.legal c.args.layout.now)))

pub returns-in-V-clause-small : goal.returns-in-V-clause-small
returns-in-V-clause-small g c = omega (arith, c.v_at.ensures, place_below (g.L.Layout.sizes c.args.layout.now) V (legal (g.L.Layout.sizes c.args.layout.now) (g.met.L.Layout.legal c.args.layout.now)))
