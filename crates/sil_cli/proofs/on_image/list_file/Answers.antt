use Rattle.image_runs.specs.Listings.{listing}
use Rattle.sil_cli.proofs.OnImages.{performs-listed, performs-unlisted}
use Rattle.sil_cli.proofs.Tellings.{tells-nothing}
use Rattle.sil_cli.proofs.on_image.list_file.Goals as goal

pub returns-in-Ok : goal.returns-in-Ok
returns-in-Ok g c = λ units. record {
  lines = listing c.in-Ok.image;
  performs = performs-listed _ c.in-Ok.image _ _ _ _ units c.image.ensures.kept c.in-Ok.ensures.told c.image.ensures.count;
  noted = c.list_image.ensures;
}

pub returns-in-Err : goal.returns-in-Err
returns-in-Err g c = λ units.
    tells-nothing _ _ _ _ _ _ _ _ _ _ _ _ c.quietly.ensures.ending c.quietly.ensures.put
    (performs-unlisted _ _ _ _ _ _ units c.image.ensures.kept c.in-Err.ensures.told c.image.ensures.count c.in-Err.ensures.cause)
