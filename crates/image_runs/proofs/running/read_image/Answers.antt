use Rattle.std.proofs.Common.{refl}
use Rattle.std.proofs.lemmas.Result.{err_from_is_err_and}
use Rattle.image_runs.proofs.running.read_image.Goals as goal

pub returns-in_err-load_image-clause-again : goal.returns-in_err-load_image-clause-again
returns-in_err-load_image-clause-again c = λ image is spelled.
    let p = err_from_is_err_and c.from_residual.result c.from_residual.ensures.1 in
    rw (p.1, p.2, c.in_err-load_image.ensures.again image is spelled) refl
