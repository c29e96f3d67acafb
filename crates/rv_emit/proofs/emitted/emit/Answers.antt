use Rattle.std.proofs.Common.{length, sym, ap, subst, ◌∙◌, arith}
use Rattle.std.specs.List.{flat_map}
use Rattle.std.specs.Prelude.{All}
use Rattle.rv_emit.specs.Emits.{FitsImage, HasNumber, statement_places}
use Rattle.rv_emit.proofs.Rising.{fits_image, narrow, words_few}
use Rattle.rv_emit.proofs.emitted.emit.Goals as goal

pub returns-in_err-ops-clause-narrow : goal.returns-in_err-ops-clause-narrow
returns-in_err-ops-clause-narrow g c = narrow c.args.params.now.settings c.args.code.now

pub returns-in_err-words-clause-narrow : goal.returns-in_err-words-clause-narrow
returns-in_err-words-clause-narrow g c = narrow c.args.params.now.settings c.args.code.now

pub returns-in_err-places-clause-narrow : goal.returns-in_err-places-clause-narrow
returns-in_err-places-clause-narrow g c = narrow c.args.params.now.settings c.args.code.now

pub returns-in_err-constants-clause-narrow : goal.returns-in_err-constants-clause-narrow
returns-in_err-constants-clause-narrow g c = narrow c.args.params.now.settings c.args.code.now

pub returns-clause-narrow : goal.returns-clause-narrow
returns-clause-narrow g c = narrow c.args.params.now.settings c.args.code.now

pub returns-clause-words : goal.returns-clause-words
returns-clause-words g c = c.of.ensures ∙ c.in_ok-words.ensures

pub returns-clause-places : goal.returns-clause-places
returns-clause-places g c = c.of-2.ensures ∙ c.in_ok-places.ensures

pub returns-clause-ops : goal.returns-clause-ops
returns-clause-ops g c = c.of-3.ensures ∙ c.in_ok-ops.ensures.places

pub returns-clause-constants : goal.returns-clause-constants
returns-clause-constants g c = c.of-4.ensures ∙ c.in_ok-constants.ensures ∙ ap (λ texts. flat_map (λ text. text) texts) c.formats.ensures

pub returns-clause-length : goal.returns-clause-length
returns-clause-length g c =
    omega (arith, ap length (c.of.ensures ∙ c.in_ok-words.ensures), words_few c.args.params.now.settings c.args.code.now c.requires.can)

pub returns-clause-image : goal.returns-clause-image
returns-clause-image g c =
    let settings = c.args.params.now.settings in
    let code = c.args.code.now in
    let plan = c.in_ok-ops.ensures in
    let words = c.of.ensures ∙ c.in_ok-words.ensures in
    let places = c.of-2.ensures ∙ c.in_ok-places.ensures in
    let fits = fits_image settings code c.law_of_op_words.ensures c.requires.can plan.words in
    subst (λ ps. FitsImage c.of.result ps) (sym places) (subst (λ ws. FitsImage ws (statement_places settings code)) (sym words) fits)

pub returns-clause-carries : goal.returns-clause-carries
returns-clause-carries g c =
    let settings = c.args.params.now.settings in
    let code = c.args.code.now in
    let plan = c.in_ok-ops.ensures in
    let words = c.of.ensures ∙ c.in_ok-words.ensures in
    let places = c.of-2.ensures ∙ c.in_ok-places.ensures in
    let numbers : All HasNumber code.ops = λ i d lt. (plan.words i d lt).number in
    λ image same is constants at. c.law_of_emission.ensures settings code c.requires.can numbers image same (is ∙ words) constants (at ∙ places)
