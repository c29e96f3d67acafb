use Rattle.sil_cli.proofs.Commands.{residual, performs-stopped}
use Rattle.sil_cli.proofs.OnImages.{unloaded, performs-refused-run, performs-ran}
use Rattle.sil_cli.proofs.on_image.run_file.Goals as goal

pub returns-in_err-bytes : goal.returns-in_err-bytes
returns-in_err-bytes g c =
    residual _ _ _ _ _ _ _ _ _ c.from_residual.ensures.1
    (performs-stopped _ _ _ _ _ _ _ c.in_err-bytes.ensures.kept (unloaded _ c.args.steps.now.most _ _ c.in_err-bytes.ensures.told) c.in_err-bytes.ensures.count c.in_err-bytes.ensures.cause)

pub returns-in_err-end : goal.returns-in_err-end
returns-in_err-end g c =
    rw c.in_err-end.ensures.still
    (residual _ _ _ _ _ _ _ _ _ c.from_residual-in_err-end.ensures.1
    (performs-refused-run _ _ _ _ _ _ _ _ _ _ c.deref.ensures.value c.in_ok-bytes.ensures.kept c.in_ok-bytes.ensures.told c.in_err-end.ensures.refused c.in_ok-bytes.ensures.count))

pub returns : goal.returns
returns g c = performs-ran _ _ _ _ _ _ _ _ _ _ _ c.deref.ensures.value c.in_ok-bytes.ensures.kept c.in_ok-bytes.ensures.told c.in_ok-end.ensures.read c.in_ok-end.ensures.ran c.in_ok-end.ensures.faults c.in_ok-bytes.ensures.count
