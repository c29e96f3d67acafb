use Rattle.std.proofs.Common.{sym, ◌∙◌, ap}
use Rattle.std.specs.Option.{option_map}
use Rattle.command_words.specs.HeldCommands.{order_by}
use Rattle.sil_cli.proofs.Commands.{performs-refused, performs-unread}
use Rattle.sil_cli.proofs.Tellings.{tells-nothing}
use Rattle.sil_cli.proofs.main_call.perform.Goals as goal

pub returns-in-Ok-None : goal.returns-in-Ok-None
returns-in-Ok-None g c = tells-nothing _ _ _ _ _ _ _ _ _ _ _ _ c.quietly.ensures.ending c.quietly.ensures.put (performs-refused _ _ _ _ (sym c.in-Ok-None.ensures ∙ ap (λ o. option_map order_by o) c.in-Ok-None.field-0-is))

pub returns-in-Err : goal.returns-in-Err
returns-in-Err g c = tells-nothing _ _ _ _ _ _ _ _ _ _ _ _ c.quietly-in-Err.ensures.ending c.quietly-in-Err.ensures.put (performs-unread _ _ _ _)
