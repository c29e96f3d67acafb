use Rattle.std.specs.Prelude.{◌≡◌, IfErr}
use Rattle.std.proofs.Common.{subst, sym, ◌∙◌}
use Rattle.std.proofs.lemmas.Result.{IfOk-weaker}
use Rattle.sil_symbols.specs.SymbolRules.{EndsOnce}
use Rattle.sil_program.specs.Statements.{statements_of}
use Rattle.sil_program.specs.HeldPrograms.{HaveShortLists, HaveShortTexts}
use Rattle.sil_program.specs.Verdicts.{IsUnbuilt}
use Rattle.sil_program.proofs.CardLemmas.{ended, short_lists}
use Rattle.sil_program.proofs.CardTexts.{short_texts}
use Rattle.sil_program.proofs.ProgramLemmas.{checked}
use Rattle.sil_program.proofs.Unbuilt.{unbuilt}
use Rattle.sil_program.proofs.source.check_cards.Goals as goal

-- the statements are those of the cards
same : (c : goal.After-deref) → c.deref.result.now ≡ statements_of c.args.cards.items
same c = c.deref.ensures.value ∙ c.in_ok-statements.ensures

pub check_statements-requires-clause-ended : goal.check_statements-requires-clause-ended
check_statements-requires-clause-ended c = subst EndsOnce (sym (same c)) (ended c.args.cards.items c.requires.good.good c.requires.good.ends)

pub check_statements-requires-clause-lists : goal.check_statements-requires-clause-lists
check_statements-requires-clause-lists c = subst HaveShortLists (sym (same c)) (short_lists c.what_is_read_is_spelled.ensures c.args.cards.items)

pub check_statements-requires-clause-texts : goal.check_statements-requires-clause-texts
check_statements-requires-clause-texts c =
    subst HaveShortTexts (sym (same c)) (short_texts c.what_is_read_is_spelled.ensures c.args.cards.items c.requires.good)

pub returns-clause-complete : goal.returns-clause-complete
returns-clause-complete c =
    subst (λ ss. IfErr c.check_statements.result (IsUnbuilt ss)) (c.deref.ensures.value ∙ c.in_ok-statements.ensures)
    (unbuilt c.law_of_programs.ensures c.args.params.now c.deref.result.now c.args.tables.now c.check_statements.result c.check_statements.ensures.verdict)

pub returns-clause-well_formed : goal.returns-clause-well_formed
returns-clause-well_formed c = IfOk-weaker c.check_statements.result _ _ (λ p h. (checked c.law_of_values.ensures c.law_of_formats.ensures.formats c.args.params.now c.deref.result.now p h).well_formed) c.check_statements.ensures.made

pub returns-clause-built : goal.returns-clause-built
returns-clause-built c = IfOk-weaker c.check_statements.result _ _ (λ p h. (checked c.law_of_values.ensures c.law_of_formats.ensures.formats c.args.params.now c.deref.result.now p h).built) c.check_statements.ensures.made
