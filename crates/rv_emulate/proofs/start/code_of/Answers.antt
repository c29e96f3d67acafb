use Rattle.std.proofs.Common.{subst, sym, arith}
use Rattle.rv_emulate.specs.Ranges.{Rises}
use Rattle.rv_emulate.proofs.Places.{rising}
use Rattle.rv_emulate.proofs.FlatLaws.{as_many}
use Rattle.rv_emulate.proofs.start.code_of.Goals as goal

pub invariant_of-result-clause-rising : goal.invariant_of-result-clause-rising
invariant_of-result-clause-rising c =
    subst Rises (sym c.in_ok-places.ensures) (rising _ _ c.args.image.now.statements c.numbers.ensures.legal.places)

pub invariant_of-result-clause-few_flats : goal.invariant_of-result-clause-few_flats
invariant_of-result-clause-few_flats c =
    omega (arith, as_many c.in_ok-flats.field-0.items c.words.result.now c.in_ok-flats.ensures, c.words.ensures.most)
