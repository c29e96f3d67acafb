use Rattle.std.proofs.Common.{length, ap, ◌∙◌}
use Rattle.sil_install.proofs.Expanding.{can_emit, statement_count, same_texts, behave}
use Rattle.sil_install.proofs.words.program_words.Goals as goal

pub emit-requires-clause-can : goal.emit-requires-clause-can
emit-requires-clause-can c = can_emit c.args.program.now c.args.params.now c.in_ok-code.code c.requires.well_formed c.in_ok-code.ensures.expansion c.code_keeps_rules.ensures

pub returns-clause-count : goal.returns-clause-count
returns-clause-count c = ap length c.in_ok-emitted.ensures.places ∙ statement_count c.args.program.now c.args.params.now c.in_ok-code.code c.requires.well_formed c.in_ok-code.ensures.expansion

pub returns-clause-constants : goal.returns-clause-constants
returns-clause-constants c = c.in_ok-emitted.ensures.constants ∙ same_texts c.args.program.now c.args.params.now c.in_ok-code.code c.requires.well_formed c.in_ok-code.ensures.expansion

pub returns-clause-behave : goal.returns-clause-behave
returns-clause-behave c =
    behave c.args.program.now c.args.params.now c.in_ok-code.code c.requires.well_formed c.in_ok-code.ensures.expansion c.law_of_steps.ensures c.in_ok-code.ensures.costs c.in_ok-emitted.emitted.words c.in_ok-emitted.emitted.places c.in_ok-emitted.ensures.carries
