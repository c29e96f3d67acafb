use Rattle.std.proofs.Common.{[], ◌∷◌}
use Rattle.rv_routines.specs.RoutineCodes.{kind_front, kind_routine}
use Rattle.rv_routines.proofs.Appended.{with_zeros, on_ok}
use Rattle.rv_routines.proofs.kinds.append_kind.Goals as goal

pub returns : goal.returns
unfolding kind_routine
returns g c =
    on_ok c.extend_from_slice-2.result c.append_zeros.new.code.items (c.immediate.result ∷ []) c.extend_from_slice-2.new.self.items c.extend_from_slice-2.ensures.items (λ e. with_zeros {d = c.extend_from_slice-2.new.self.items} c.args.code.now.items c.kind_tests.result (kind_front (g.L.Layout.sizes c.args.layout.now).descr c.args.count) c.descr.result (g.L.Layout.sizes c.args.layout.now).descr c.immediate.result _ c.kind_tests.ensures c.descr.ensures c.immediate.ensures c.in_ok-extend_from_slice.ensures.items c.in_ok-append_zeros.ensures e)
