use Rattle.std.proofs.Common.{◌≡◌, [], false, Err, ◌∙◌}
use Rattle.std.specs.Prelude.{IfErr}
use Rattle.std.proofs.lemmas.Option.{IfSome_then}
use Rattle.std.proofs.lemmas.Result.{err_from_is_err_and, MatchResult-weaker}
use Rattle.sil_base.specs.Files.{Files}
use Rattle.sil_cards.specs.declared.stop.CardStop.{CardStop}
use Rattle.sil_cards.specs.Readings.{cards_of, loads_of, StopsAt}
use Rattle.sil_cards.specs.CardSteps.{is_free}
use Rattle.sil_cards.proofs.LoadLemmas.{stops_at}
use Rattle.sil_cards.proofs.ReadLemmas.{whole, told_is}
use Rattle.sil_cards.proofs.reading.read_cards.Goals as goal

pub returns-in_err-flow-clause-stops : goal.returns-in_err-flow-clause-stops
returns-in_err-flow-clause-stops g c =
    let Q : Files → Type 0 = λ files. IfErr c.from_residual.result (λ (e : CardStop). is_free e ≡ false → cards_of files c.args.name.now ≡ Err e) in
    IfSome_then _ {Q = Q} (told_is (g.S.Store.files c.args.store.now)) (λ files told.
    let all = whole files c.args.name.now c.new-reader.result c.new-reader.ensures.empty c.new-reader.ensures.none in
    let p = err_from_is_err_and c.from_residual.result c.from_residual.ensures.1 in
    rw (p.1, p.2) (λ free. all ∙ c.in_err-flow.ensures.read files told [] free))

pub returns-clause-cards : goal.returns-clause-cards
returns-clause-cards g c = IfSome_then _ (told_is (g.S.Store.files c.args.store.now)) (λ files told.
    let all = whole files c.args.name.now c.new-reader.result c.new-reader.ensures.empty c.new-reader.ensures.none in
    let ends = all ∙ c.in_ok-flow.ensures.read files told [] in
    MatchResult-weaker c.finish.result c.finish.ensures.answer (λ cards answer. ends ∙ answer) (λ stop answer. tt))

pub returns-clause-stops : goal.returns-clause-stops
returns-clause-stops g c = IfSome_then _ (told_is (g.S.Store.files c.args.store.now)) (λ files told.
    let all = whole files c.args.name.now c.new-reader.result c.new-reader.ensures.empty c.new-reader.ensures.none in
    let ends = all ∙ c.in_ok-flow.ensures.read files told [] in
    let Q : CardStop → Type 0 = λ e. is_free e ≡ false → cards_of files c.args.name.now ≡ Err e in
    MatchResult-weaker c.finish.result {Q' = Q} c.finish.ensures.answer (λ cards answer. tt) (λ stop answer. λ free. ends ∙ answer free))

pub returns-in_err-flow-clause-last : goal.returns-in_err-flow-clause-last
returns-in_err-flow-clause-last g c =
    let Q : Files → Type 0 = λ files. IfErr c.from_residual.result (λ (e : CardStop). is_free e ≡ false → StopsAt files (loads_of files c.args.name.now) e) in
    IfSome_then _ {Q = Q} (told_is (g.S.Store.files c.args.store.now)) (λ files told.
    let all = whole files c.args.name.now c.new-reader.result c.new-reader.ensures.empty c.new-reader.ensures.none in
    let p = err_from_is_err_and c.from_residual.result c.from_residual.ensures.1 in
    rw (p.1, p.2) (λ free. stops_at files c.args.name.now _ (all ∙ c.in_err-flow.ensures.read files told [] free)))

pub returns-clause-last : goal.returns-clause-last
returns-clause-last g c = IfSome_then _ (told_is (g.S.Store.files c.args.store.now)) (λ files told.
    let all = whole files c.args.name.now c.new-reader.result c.new-reader.ensures.empty c.new-reader.ensures.none in
    let ends = all ∙ c.in_ok-flow.ensures.read files told [] in
    let Q : CardStop → Type 0 = λ e. is_free e ≡ false → StopsAt files (loads_of files c.args.name.now) e in
    MatchResult-weaker c.finish.result {Q' = Q} c.finish.ensures.answer (λ cards answer. tt) (λ stop answer. λ free. stops_at files c.args.name.now stop (ends ∙ answer free)))
