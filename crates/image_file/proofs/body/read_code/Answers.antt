use Rattle.std.proofs.Common.{length, refl, ap, arith, length-append}
use Rattle.std.proofs.lemmas.Result.{err_from_is_err_and}
use Rattle.image_file.specs.Spelling.{numbers_in}
use Rattle.image_file.proofs.Parts.{length-numbers_in}
use Rattle.image_file.proofs.body.read_code.Goals as goal

pub returns-in_err-part : goal.returns-in_err-part
returns-in_err-part c =
    let p = err_from_is_err_and c.from_residual.result c.from_residual.ensures.1 in
    let short = c.in_err-part.ensures.1 in
    rw (p.1, p.2, c.in_err-part.ensures.0) (refl, λ i rest h. absurd (omega (arith, ap length h.0, length-append (numbers_in 4 i.words) rest, length-numbers_in 4 i.words, h.1)))
