use Rattle.std.proofs.Common.{[], Some, refl}
use Rattle.command_words.specs.CommandOrders.{traces}
use Rattle.sil_cli.proofs.Commands.{leaves-all, performs-memory}
use Rattle.sil_cli.proofs.OnImages.{performs-traced, performs-untraced}
use Rattle.sil_cli.proofs.Tellings.{tells-nothing}
use Rattle.sil_cli.proofs.on_image.trace_file.Goals as goal

pub returns-in-Err : goal.returns-in-Err
returns-in-Err g c =
    tells-nothing _ _ _ _ _ _ _ _ _ _ _ _ c.quietly.ensures.ending c.quietly.ensures.put
    (performs-untraced _ c.args.steps.now.most _ _ _ _ _ _ c.image.ensures.kept c.in-Err.ensures.told c.image.ensures.count c.in-Err.ensures.cause)

pub returns-in-Ok-trace_image : goal.returns-in-Ok-trace_image
returns-in-Ok-trace_image g c = record {
  lines = c.in-Ok-trace_image.ensures.traced.0;
  performs = performs-traced _ c.args.steps.now.most c.in-Ok.image _ _ _ _ _ _ _ _ c.image.ensures.kept c.in-Ok.ensures.told c.in-Ok-trace_image.ensures.traced.1.ran c.in-Ok-trace_image.ensures.traced.1.tells c.in-Ok-trace_image.ensures.traced.1.faults c.image.ensures.count;
  noted = c.in-Ok-trace_image.ensures.traced.2;
}

pub returns : goal.returns
returns g c =
    rw (c.in-Err-trace_image.ensures.still, c.in-Err-trace_image.ensures.text, c.in-Err-trace_image.ensures.count)
    (tells-nothing _ _ _ _ _ _ _ _ _ _ _ _ c.quietly-in-Err-trace_image.ensures.ending c.quietly-in-Err-trace_image.ensures.put
    (performs-memory (traces c.args.image_name.now c.args.steps.now.most) _ [] _ _ _ _ _ _ refl refl (leaves-all (Some (traces c.args.image_name.now c.args.steps.now.most)) _ _ c.image.ensures.kept) c.image.ensures.count))
