use Rattle.std.proofs.Common.{arith}
use Rattle.sil_cli.proofs.Commands.{residual, performs-unsaved}
use Rattle.sil_cli.proofs.Going.{performs-given-refused, performs-unloaded, performs-went}
use Rattle.sil_cli.proofs.command.go.Goals as goal

pub returns-in_err-_saved : goal.returns-in_err-_saved
returns-in_err-_saved g c =
    residual _ _ _ _ _ _ _ _ _ c.from_residual.ensures.1
    (performs-unsaved _ _ _ _ _ _ _ c.in_err-_saved.ensures.told c.in_err-_saved.ensures.leaves c.in_err-_saved.ensures.count c.in_err-_saved.ensures.cause)

pub returns-in_err-bytes : goal.returns-in_err-bytes
returns-in_err-bytes g c =
    residual _ _ _ _ _ _ _ _ _ c.from_residual-in_err-bytes.ensures.1
    (performs-unloaded _ _ c.args.steps.now.most _ _ _ _ _ _ _ _ _ c.in_err-bytes.ensures.kept c.in_ok-_saved.ensures.told c.in_ok-_saved.ensures.installed c.in_err-bytes.ensures.told c.in_ok-_saved.ensures.leaves c.in_ok-_saved.ensures.count c.in_err-bytes.ensures.count c.in_err-bytes.ensures.cause)

pub returns-in_err-end : goal.returns-in_err-end
returns-in_err-end g c =
    rw c.in_err-end.ensures.still
    (residual _ _ _ _ _ _ _ _ _ c.from_residual-in_err-end.ensures.1
    (performs-given-refused _ _ c.args.steps.now.most _ _ _ _ _ _ _ _ _ _ c.deref.ensures.value c.in_ok-bytes.ensures.kept c.in_ok-_saved.ensures.told c.in_ok-_saved.ensures.installed c.in_ok-bytes.ensures.told c.in_ok-_saved.ensures.leaves c.in_err-end.ensures.refused c.in_err-end.ensures.accepts (omega (arith, c.in_ok-_saved.ensures.count, c.in_ok-bytes.ensures.count))))

pub returns : goal.returns
returns g c = performs-went _ _ _ _ _ _ _ _ _ _ _ _ _ _ c.deref.ensures.value c.in_ok-bytes.ensures.kept c.in_ok-_saved.ensures.told c.in_ok-_saved.ensures.installed c.in_ok-bytes.ensures.told c.in_ok-_saved.ensures.leaves c.args.steps.now.few c.in_ok-end.ensures.ran c.in_ok-end.ensures.faults (omega (arith, c.in_ok-_saved.ensures.count, c.in_ok-bytes.ensures.count))
