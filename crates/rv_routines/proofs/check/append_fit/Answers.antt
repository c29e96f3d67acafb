use Rattle.std.proofs.Common.{[], ◌∷◌, arith}
use Rattle.std.proofs.lemmas.Grind.{common_steps}
use Rattle.rv_routines.specs.RoutineCodes.{check_routine, fit_routine}
use Rattle.rv_routines.proofs.Appended.{in_two}
use Rattle.rv_routines.proofs.check.append_fit.Goals as goal

pub returns : goal.returns
unfolding check_routine fit_routine
returns g c =
    let both = in_two {c = c.extend_from_slice-2.new.self.items} c.args.code.now.items (c.immediate.result ∷ c.branch.result ∷ []) c.check_routine.result c.in_ok-extend_from_slice.ensures.items in
    grind (arith, common_steps, both)
