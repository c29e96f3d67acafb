use Rattle.std.proofs.Common.{subst, refl}
use Rattle.std.proofs.lemmas.Result.{err_from_is_err_and}
use Rattle.image_file.specs.Image.{Image}
use Rattle.unit_io.specs.Units.{tapes_of}
use Rattle.image_runs.specs.ImageRuns.{RunsSo}
use Rattle.image_runs.proofs.running.run_image.Goals as goal

pub returns-in_err-image-clause-accepts : goal.returns-in_err-image-clause-accepts
returns-in_err-image-clause-accepts g c = λ image is spelled.
    let p = err_from_is_err_and c.from_residual.result c.from_residual.ensures.1 in
    rw (p.1, p.2, c.in_err-image.ensures.again image is spelled) refl

pub returns-clause-ran : goal.returns-clause-ran
returns-clause-ran g c = λ image is spelled.
    subst (λ (i : Image). RunsSo i c.args.n c.in_ok-run.field-0 (tapes_of (g.U.UnitSet.seen c.args.units.now)) (tapes_of (g.U.UnitSet.seen c.run.new.units))) (c.in_ok-image.ensures.again image is spelled) c.in_ok-run.ensures.ran
