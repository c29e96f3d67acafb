use Rattle.std.proofs.Common.{◌∙◌, ◌++◌, length, refl, sym, ap, subst, arith, length-append}
use Rattle.std.proofs.lemmas.Result.{err_from_is_err_and}
use Rattle.image_file.specs.Spelling.{FitAll, counts_part, numbers_in}
use Rattle.image_file.proofs.Agreement.{length-counts}
use Rattle.image_file.proofs.head.read_counts.Goals as goal

pub returns-in_err-part : goal.returns-in_err-part
returns-in_err-part c =
    let p = err_from_is_err_and c.from_residual.result c.from_residual.ensures.1 in
    let short = c.in_err-part.ensures.1 in
    rw (p.1, p.2, c.in_err-part.ensures.0) (refl, λ counts rest h. absurd (omega (arith, ap length h, length-append (counts_part counts) rest, length-counts counts)))

pub returns : goal.returns
unfolding counts_part
returns c = (c.in_ok-part.ensures.0 ∙ ap (λ xs. xs ++ c.in_ok-part.rest.now) (c.read_numbers.ensures.numbers ∙ ap (λ xs. numbers_in 4 xs) (sym c.of.ensures)), subst (λ xs. FitAll 4 xs) (sym c.of.ensures) c.read_numbers.ensures.fit)
