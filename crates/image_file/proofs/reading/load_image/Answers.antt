use Rattle.std.specs.Prelude.{MatchResult}
use Rattle.std.proofs.lemmas.Result.{err_from_is_err_and}
use Rattle.image_file.specs.ImageGrammar.{IsImageFile, IsRefused}
use Rattle.image_file.proofs.Files.{reads_again, refuses}
use Rattle.image_file.proofs.reading.load_image.Goals as goal

pub returns-in_err-settings : goal.returns-in_err-settings
returns-in_err-settings c =
    let p = err_from_is_err_and c.from_residual.result c.from_residual.ensures.1 in
    let exact : MatchResult c.from_residual.result (λ i. IsImageFile i c.args.bytes.now) (λ e. IsRefused e c.args.bytes.now) = rw (p.1, p.2) c.in_err-settings.ensures in
    record {
      exact = exact;
      again = reads_again c.from_residual.result c.args.bytes.now exact;
      refused = refuses c.from_residual.result c.args.bytes.now exact;
    }

pub read_body-requires : goal.read_body-requires
read_body-requires c =
    let head = c.in_ok-settings.ensures in
    record { legal = head.2.2.1.1; within = head.2.2.2.2.1.1 }

pub returns : goal.returns
returns c =
    let exact = c.read_body.ensures c.args.bytes.now c.in_ok-settings.ensures in
    record {
      exact = exact;
      again = reads_again c.read_body.result c.args.bytes.now exact;
      refused = refuses c.read_body.result c.args.bytes.now exact;
    }
