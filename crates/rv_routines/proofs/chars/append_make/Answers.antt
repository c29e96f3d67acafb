use Rattle.std.proofs.Common.{[], ◌∷◌}
use Rattle.rv_routines.specs.RoutineCodes.{make_front, make_routine}
use Rattle.rv_routines.proofs.Appended.{with_zeros, on_ok}
use Rattle.rv_routines.proofs.chars.append_make.Goals as goal

pub returns : goal.returns
unfolding make_routine
returns g c =
    on_ok c.extend_from_slice-2.result c.append_zeros.new.code.items (c.immediate.result ∷ []) c.extend_from_slice-2.new.self.items c.extend_from_slice-2.ensures.items (λ e. with_zeros {d = c.extend_from_slice-2.new.self.items} c.args.code.now.items c.make_tests.result (make_front (g.L.Layout.sizes c.args.layout.now).descr c.args.count) c.descr.result (g.L.Layout.sizes c.args.layout.now).descr c.immediate.result _ c.make_tests.ensures c.descr.ensures c.immediate.ensures c.in_ok-extend_from_slice.ensures.items c.in_ok-append_zeros.ensures e)
