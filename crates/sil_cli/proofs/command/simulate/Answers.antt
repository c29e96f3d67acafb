use Rattle.std.proofs.Common.{◌≡◌, Ok, IfSome, sym, subst}
use Rattle.sil_check.specs.CheckedPrograms.{Job}
use Rattle.command_words.specs.HeldCommands.{names_by}
use Rattle.sil_cli.specs.CommandFiles.{job_at}
use Rattle.sil_cli.proofs.Commands.{residual, performs-stopped, performs-simulated}
use Rattle.sil_cli.proofs.command.simulate.Goals as goal

pub returns-in_err-checked : goal.returns-in_err-checked
returns-in_err-checked g c =
    residual _ _ _ _ _ _ _ _ _ c.from_residual.ensures.1
    (performs-stopped _ _ _ _ _ _ _ c.in_err-checked.ensures.kept c.in_err-checked.ensures.told c.in_err-checked.ensures.count c.in_err-checked.ensures.cause)

pub returns : goal.returns
returns g c =
    performs-simulated _ _ (record { program = c.checked.inside.program; parameters = c.checked.inside.params }) _ _ _ _ _ _ _ _
    c.as_cpu_end.ensures c.in_ok-checked.ensures.kept
    (subst (λ (job : Job). IfSome (g.S.Store.files c.args.store.now) (λ m. job_at (names_by c.args.names.now) m ≡ Ok job)) (sym c.checked.view_is) c.in_ok-checked.ensures.told)
    c.sim-end.ensures.end c.sim-end.ensures.tapes c.sim-end.ensures.faults c.in_ok-checked.ensures.count
